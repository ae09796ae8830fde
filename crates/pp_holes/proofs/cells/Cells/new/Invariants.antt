use Rattle.std.proofs.Common.{◌≡◌, ◌≤◌, vec_capacity, replicate, None}
use Rattle.pp_holes.proofs.cells.Cells.new.Given as goal

abbrev pub invariant-loop-index : goal.invariant-loop-index
invariant-loop-index l = record {
  none : l.cells.items ≡ replicate l._index None;
  room : l.count ≤ vec_capacity l.cells;
}
