use Rattle.pp_rounds_law.proofs.StopEnds.{stops}
use Rattle.pp_rounds_law.proofs.stopping.stops_are_the_laws.Goals as goal

pub returns : goal.returns
returns c = record { stops = stops }
