use Rattle.pp_given_law.proofs.Begun.{counted_begins}
use Rattle.pp_given_law.proofs.counts.what_is_dropped_stays_counted_as_replies_begin.Goals as goal

pub returns : goal.returns
returns c = counted_begins
