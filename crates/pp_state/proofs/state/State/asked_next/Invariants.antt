use Rattle.std.proofs.Common.{◌≡◌, take, None}
use Rattle.std.specs.List.{find}
use Rattle.pp_flow.specs.Changes.{entry_of, line_of}
use Rattle.pp_state.specs.Asking.{is_left}
use Rattle.pp_state.proofs.state.State.asked_next.Given as goal

-- nothing is left of those before
abbrev pub invariant-loop-place : goal.invariant-loop-place
invariant-loop-place l = find (λ n. is_left (entry_of n l.self.flow)) (take l.place (line_of l.k l.self.flow.placed)) ≡ None
