use Rattle.std.proofs.Common.{◌≡◌, ◌≤◌, vec_capacity, replicate}
use Rattle.pp_cache.specs.OnDisk.{nowhere}
use Rattle.pp_cache.proofs.extents.no_extents.Given as goal

abbrev pub invariant-loop-slot : goal.invariant-loop-slot
invariant-loop-slot l = record {
  none : l.extents.items ≡ replicate l._slot nowhere;
  room : 1345 ≤ vec_capacity l.extents;
}
