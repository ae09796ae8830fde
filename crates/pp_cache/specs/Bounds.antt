-- What is so of every cache: each instance has its extent, and chunks hold no more than they may.
use Rattle.std.specs.Prelude.{ℕ, ◌≡◌, ◌<◌, ◌≤◌, true, false, length}
use Rattle.pp_holes.specs.Places.{bytes_at}
use Rattle.pp_objects.specs.Instances.{is_there, table_at, total_at}
use Rattle.pp_objects.specs.declared.id.ObjectId.{ObjectId}
use Rattle.pp_cache.specs.Memory.{Memory, is_in_memory}
use Rattle.pp_cache.specs.Offsets.{has_offset}

pub record IsBounded (m : Memory) : Type 0 where
  -- there is an extent for the slot of each instance
  pub slots : (id : ObjectId) → is_there id m.instances ≡ true → id.slot < length m.extents
  -- a chunk has at most 4,096 bytes
  pub fronts : (slot index : ℕ) → length (bytes_at (slot, index) m.chunks) ≤ 4096
  -- nothing is in memory behind the end of an instance
  pub ends : (slot at : ℕ) → total_at slot m.instances ≤ at → is_in_memory slot at m.chunks ≡ false
  -- what is in memory, as the cells of an instance tell, is what its chunks hold
  pub cells : (slot at : ℕ) → has_offset (table_at slot m.instances) at ≡ is_in_memory slot at m.chunks
  -- no more chunks are used than there are
  pub few : length m.chunks ≤ m.size
