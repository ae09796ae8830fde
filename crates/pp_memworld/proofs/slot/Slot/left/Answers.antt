use Rattle.std.proofs.Common.{inr, List, Option, rules, subst}
use Rattle.std.specs.Prelude.{◌-◌, IfOk}
use Rattle.pp_world.specs.Disk.{Stored, LeavesOne}
use Rattle.pp_memworld.proofs.Leaving.{for_ok, leaves_at}
use Rattle.pp_memworld.proofs.slot.Slot.left.Goals as goal

pub returns-in_default : goal.returns-in_default
returns-in_default c =
    subst (λ (files : List (Option Stored)). IfOk c.left_of-in_default.result (LeavesOne files)) c.self.view_is
    (for_ok c.left_of-in_default.result (λ bytes left. inr (leaves_at c.self.inside.doubts.items (c.standing.result - 1) c.index.result.now bytes (search rules) c.index.ensures left)) c.left_of-in_default.ensures)
