use Rattle.std.proofs.Common.{◌≡◌, take}
use Rattle.pp_state.specs.Readers.{furthest_read}
use Rattle.pp_due.proofs.wants.furthest_read.Given as goal

-- of those before
abbrev pub invariant-loop-i : goal.invariant-loop-i
invariant-loop-i l = l.furthest ≡ furthest_read l.id l.from l.all l.state.cache (take l.i-index l.state.awake.items) l.state.seats.items
