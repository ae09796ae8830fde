use Rattle.std.proofs.Common.{◌≡◌, ◌++◌, false, take}
use Rattle.std.specs.List.{list_any}
use Rattle.pp_state.specs.Bringing.{brings}
use Rattle.pp_state.proofs.state.State.is_brought.Given as goal

-- none of those before brings it
abbrev pub invariant-loop-index : goal.invariant-loop-index
invariant-loop-index l = list_any (brings l.next.source l.next.at l.self.cache) (take l.index (l.self.flow.waiting ++ l.self.flow.placed)) ≡ false
