use Rattle.std.proofs.Common.{◌≡◌, ◌<◌, length, map, drop, get_or}
use Rattle.pp_pool.specs.Chunks.{oldest_in}
use Rattle.pp_pool.specs.Slots.{used_at}
use Rattle.pp_pool.proofs.pool.Pool.oldest.Given as goal

abbrev pub invariant-loop-passed : goal.invariant-loop-passed
invariant-loop-passed l = record {
  here : l._passed < length l.self-inside.order.used → l.number ≡ get_or l.self-inside.order.used l._passed 0;
  so_far : oldest_in l.pins.items (map (used_at l.self-inside.block.items l.self-inside.slots.items) (drop l._passed l.self-inside.order.used))
      ≡ oldest_in l.pins.items (map (used_at l.self-inside.block.items l.self-inside.slots.items) l.self-inside.order.used);
}
