use Rattle.pp_given_law.proofs.CountedEnds.{as_ended}
use Rattle.pp_given_law.proofs.ends.what_is_dropped_stays_counted_as_an_origin_ends.Goals as goal

pub returns : goal.returns
returns c = as_ended
