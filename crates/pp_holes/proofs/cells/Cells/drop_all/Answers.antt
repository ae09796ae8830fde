use Rattle.std.proofs.Common.{◌∙◌}
use Rattle.pp_holes.proofs.Counting.{known_none}
use Rattle.pp_holes.proofs.cells.Cells.drop_all.Goals as goal

pub invariant_of-self : goal.invariant_of-self
invariant_of-self c = (
  c.self.invariant.0,
  c.give_all.ensures.count ∙ c.self.invariant.1,
  known_none c.give_all.new.cells.items c.self.inside.total c.give_all.ensures.gone,
)
