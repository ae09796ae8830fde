-- How a pool keeps its chunks: their bytes in one block, a slot for each number, and the order of the used ones.
use Rattle.std.specs.Prelude.{ℕ, ◌+◌, ◌*◌, ◌≤◌, ◌<◌, ◌≡◌, List, [], length, map, take, drop, vec_capacity, Option, Some, None, slice_get}
use Rattle.std.specs.List.{All}
use Rattle.pp_pool.specs.declared.pool.Slot.{Slot}
use Rattle.pp_pool.specs.declared.pool.Pool.TheInside.{Inside}
use Rattle.pp_pool.specs.Chunks.{Used, Chunks, AreDistinct}

-- the bytes of a chunk begin at 4,096 times its number
abbrev pub used_as : List ℕ → ℕ → Option Slot → Used
used_as block n None = record { number = n; owner = 0; index = 0; bytes = [] }
used_as block n (Some s) = record { number = n; owner = s.owner; index = s.index; bytes = take s.filled (drop (n * 4096) block) }

abbrev pub used_at : List ℕ → List Slot → ℕ → Used
used_at block ss n = used_as block n (slice_get ss n)

abbrev pub chunks_of : Inside → Chunks
chunks_of p = record { size = length p.slots.items; used = map (used_at p.block.items p.slots.items) p.order.used }

-- each number of the order is that of one slot, and has its 4,096 bytes in the block; all memory is there
pub record IsSound (p : Inside) : Type 0 where
  pub distinct : AreDistinct p.order.used
  pub within : All (λ n. n < length p.slots.items) p.order.used
  pub backed : All (λ n. n * 4096 + 4096 ≤ length p.block.items) p.order.used
  pub sizes : p.order.size ≡ length p.slots.items
  pub short : All (λ s. s.filled ≤ 4096) p.slots.items
  pub room : length p.slots.items * 4096 ≤ vec_capacity p.block
