use Rattle.std.proofs.Common.{◌≡◌, take}
use Rattle.pp_state.specs.Readers.{furthest}
use Rattle.pp_state.proofs.state.State.furthest.Given as goal

-- of those before
abbrev pub invariant-loop-i : goal.invariant-loop-i
invariant-loop-i l = l.furthest ≡ furthest l.id (take l.i-index l.self.awake.items) l.self.seats.items
