use Rattle.pp_laws_sides.proofs.Open.{sides_are}
use Rattle.pp_laws_sides.proofs.sides.sides_are_the_laws.Goals as goal

pub returns : goal.returns
returns c = record { sides = sides_are }
