use Rattle.pp_places_law.proofs.Dials.{dials}
use Rattle.pp_places_law.proofs.placing.connections_are_dialled_as_the_laws.Goals as goal

pub returns : goal.returns
returns c = record { dials = dials }
