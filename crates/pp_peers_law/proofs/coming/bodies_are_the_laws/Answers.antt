use Rattle.pp_peers_law.proofs.Bodies.{begins, bodies}
use Rattle.pp_peers_law.proofs.coming.bodies_are_the_laws.Goals as goal

pub returns : goal.returns
returns c = record { begins = begins; bodies = bodies }
