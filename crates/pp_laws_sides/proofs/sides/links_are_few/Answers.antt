use Rattle.pp_laws_sides.proofs.Linked.{links_few, on_sides}
use Rattle.pp_laws_sides.proofs.sides.links_are_few.Goals as goal

pub returns : goal.returns
returns c = record { few = links_few; sides = on_sides }
