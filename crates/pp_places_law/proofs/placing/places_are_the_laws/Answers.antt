use Rattle.pp_places_law.proofs.Puts.{places, puts}
use Rattle.pp_places_law.proofs.placing.places_are_the_laws.Goals as goal

pub returns : goal.returns
returns c = record { places = places; puts = puts }
