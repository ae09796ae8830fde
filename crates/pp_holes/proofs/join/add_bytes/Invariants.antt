use Rattle.std.proofs.Common.{◌≡◌, ◌≤◌, ◌+◌, ◌*◌, false, length}
use Rattle.pp_holes.specs.Places.{shown}
use Rattle.pp_holes.specs.Adding.{add_runs, added, runs}
use Rattle.pp_holes.specs.Cells.{Agrees, foreign}
use Rattle.pp_holes.specs.Spans.{Grows, held_in}
use Rattle.pp_holes.proofs.join.add_bytes.Given as goal

abbrev pub invariant-loop-rest : goal.invariant-loop-rest
invariant-loop-rest l = record {
  agrees : Agrees l.owner l.cells.items l.pool.used;
  count : length l.cells.items ≡ length l.initial.cells.items;
  size : l.pool.size ≡ l.initial.pool.size;
  others : foreign l.owner l.pool.used ≡ foreign l.owner l.initial.pool.used;
  inside : l.from + length l.rest ≤ 4096 * length l.cells.items;
  small : l.from + length l.rest ≤ 1073741824;
  sum : l.from + length l.rest ≡ l.initial.from + length l.initial.rest;
  grows : Grows l.initial.cells.items l.cells.items l.from;
  held : held_in l.cells.items ≡ held_in l.initial.cells.items + l.joined;
  counted : l.joined + l.ignored ≤ l.from;
  so_far : add_runs l.pool.size l.owner (record { chunks = shown l.pool.used; joined = l.joined; ignored = l.ignored; need_chunk = false }) (runs l.from l.rest)
      ≡ added l.initial.pool.size l.owner l.initial.from l.initial.rest (shown l.initial.pool.used);
}

abbrev pub decreases-loop-rest : goal.decreases-loop-rest
decreases-loop-rest l = length l.rest
