use Rattle.std.proofs.Common.{◌≡◌, None, take}
use Rattle.pp_flow.specs.Changes.{line_of}
use Rattle.pp_state.specs.Ends.{place_of}
use Rattle.pp_desk.proofs.desk.Desk.place_on.Given as goal

-- it does not stand before that place
abbrev pub invariant-loop-place : goal.invariant-loop-place
invariant-loop-place l = place_of l.number (take l.place (line_of l.k l.self.state.flow.placed)) ≡ None
