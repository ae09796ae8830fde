use Rattle.pp_flow_law.proofs.Told.{places, waits}
use Rattle.pp_flow_law.proofs.reading.places_are_the_laws.Goals as goal

pub returns : goal.returns
returns c = record { waits = waits; places = places }
