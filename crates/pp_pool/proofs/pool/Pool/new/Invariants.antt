use Rattle.std.proofs.Common.{◌≡◌, ◌≤◌, vec_capacity, length}
use Rattle.std.specs.List.{All}
use Rattle.pp_pool.proofs.pool.Pool.new.Given as goal

abbrev pub invariant-loop-number : goal.invariant-loop-number
invariant-loop-number l = record {
  long : length l.slots.items ≡ l._number;
  room : l.chunks ≤ vec_capacity l.slots;
  short : All (λ s. s.filled ≤ 4096) l.slots.items;
}
