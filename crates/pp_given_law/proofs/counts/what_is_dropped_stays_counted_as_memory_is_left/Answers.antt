use Rattle.pp_given_law.proofs.CountedOver.{as_left}
use Rattle.pp_given_law.proofs.counts.what_is_dropped_stays_counted_as_memory_is_left.Goals as goal

pub returns : goal.returns
returns c = as_left
