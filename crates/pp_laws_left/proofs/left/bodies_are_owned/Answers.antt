use Rattle.pp_laws_left.proofs.Bodies.{places_keep_bodies}
use Rattle.pp_laws_left.proofs.BodiesBegins.{beginnings_keep_bodies}
use Rattle.pp_laws_left.proofs.BodiesPassed.{bodies_are_passed}
use Rattle.pp_laws_left.proofs.left.bodies_are_owned.Goals as goal

pub returns : goal.returns
returns c = record { passed = bodies_are_passed; places = places_keep_bodies; begins = beginnings_keep_bodies }
