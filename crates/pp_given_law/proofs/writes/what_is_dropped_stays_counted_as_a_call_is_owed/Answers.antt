use Rattle.pp_given_law.proofs.CountedWrites.{as_owed}
use Rattle.pp_given_law.proofs.writes.what_is_dropped_stays_counted_as_a_call_is_owed.Goals as goal

pub returns : goal.returns
returns c = as_owed
