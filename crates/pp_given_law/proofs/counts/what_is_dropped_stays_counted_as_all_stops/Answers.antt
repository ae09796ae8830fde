use Rattle.pp_given_law.proofs.CountedOver.{as_stopped}
use Rattle.pp_given_law.proofs.counts.what_is_dropped_stays_counted_as_all_stops.Goals as goal

pub returns : goal.returns
returns c = as_stopped
