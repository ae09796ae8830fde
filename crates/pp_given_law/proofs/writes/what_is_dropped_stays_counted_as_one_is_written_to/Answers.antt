use Rattle.pp_given_law.proofs.CountedWrites.{as_written}
use Rattle.pp_given_law.proofs.writes.what_is_dropped_stays_counted_as_one_is_written_to.Goals as goal

pub returns : goal.returns
returns c = as_written
