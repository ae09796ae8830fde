use Rattle.pp_events_law.proofs.Stops.{stops}
use Rattle.pp_events_law.proofs.silent.stops_lead_as_by_the_law.Goals as goal

pub returns : goal.returns
returns c = record { leads = stops }
