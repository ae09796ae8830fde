use Rattle.pp_peers_law.proofs.Loads.{places}
use Rattle.pp_peers_law.proofs.placing.places_are_the_laws.Goals as goal

pub returns : goal.returns
returns c = record { places = places }
