use Rattle.pp_places_law.proofs.Ways.{ways}
use Rattle.pp_places_law.proofs.placing.connections_give_way_as_the_laws.Goals as goal

pub returns : goal.returns
returns c = record { ways = ways }
