use Rattle.std.proofs.Common.{◌≡◌, ◌≤◌, length, vec_capacity}
use Rattle.pp_flow.proofs.flow.boxes.Given as goal

abbrev pub invariant-loop-index : goal.invariant-loop-index
invariant-loop-index l = record { len : length l.boxes.items ≡ l._index; room : 1024 ≤ vec_capacity l.boxes }
