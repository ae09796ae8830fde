use Rattle.pp_given_law.proofs.CountedOver.{as_reached}
use Rattle.pp_given_law.proofs.counts.what_is_dropped_stays_counted_as_a_connection_is_reached.Goals as goal

pub returns : goal.returns
returns c = as_reached
