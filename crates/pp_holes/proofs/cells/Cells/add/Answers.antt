use Rattle.std.proofs.Common.{arith}
use Rattle.pp_holes.proofs.Counting.{held_most}
use Rattle.pp_holes.proofs.cells.Cells.add.Goals as goal

pub overflow_add-self : goal.overflow_add-self
overflow_add-self c =
    omega (
      arith,
      held_most c.add_bytes-added.new.cells.items c.add_bytes-added.ensures.agrees.fronts,
      c.add_bytes-added.ensures.held,
      c.add_bytes-added.ensures.count,
      c.self.invariant.0,
      c.self.invariant.1,
      c.self.invariant.2.count,
    )
