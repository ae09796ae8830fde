use Rattle.std.proofs.Common.{◌≡◌, ◌<◌, ℕ, None, length}
use Rattle.pp_holes.specs.Cells.{Agrees, cell_of, foreign}
use Rattle.pp_holes.proofs.cells.give_all.Given as goal

abbrev pub invariant-loop-index : goal.invariant-loop-index
invariant-loop-index l = record {
  agrees : Agrees l.owner l.cells.items l.pool.used;
  count : length l.cells.items ≡ length l.initial.cells.items;
  size : l.pool.size ≡ l.initial.pool.size;
  others : foreign l.owner l.pool.used ≡ foreign l.owner l.initial.pool.used;
  gone : (i : ℕ) → i < l.index → cell_of l.cells.items i ≡ None;
}
