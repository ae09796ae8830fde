use Rattle.pp_laws_left.proofs.BodiedLaws.{ends_own_bodies, late_bodies_are_owned}
use Rattle.pp_laws_left.proofs.left.bodies_stay_owned.Goals as goal

pub returns : goal.returns
returns c = record { late = late_bodies_are_owned; ends = ends_own_bodies }
