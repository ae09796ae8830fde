-- What the cache holds in memory (RFC 7234, section 4; RFC 7233, section 4.3), and what the disk has to know of it.
use Rattle.std.specs.Prelude.{ℕ, ◌≡◌, ◌+◌, ◌/◌, ◌%◌, Bool, true, false, ◌&&◌, cond, min, max, nat_lt, List, [], length, map, replicate, slice_get, Option, Some, None, IfSome}
use Rattle.pp_fresh.specs.declared.aging.Times.{Times}
use Rattle.pp_holes.specs.Places.{Chunk, bytes_at}
use Rattle.pp_objects.specs.Changes.{given_back_by, retired_from, settled}
use Rattle.pp_objects.specs.Instances.{Instance, in_slot, is_row, is_there, row_of}
use Rattle.pp_objects.specs.Kept.{kept_of}
use Rattle.pp_objects.specs.declared.id.ObjectId.{ObjectId}
use Rattle.pp_pool.specs.Chunks.{Used}
use Rattle.pp_target.specs.Name.{name_of}
use Rattle.pp_text.specs.Fields.{Field}
use Rattle.pp_valid.specs.declared.version.Version.{Version}
use Rattle.pp_cache.specs.OnDisk.{bytes_of, nowhere, outdated_by}
use Rattle.pp_cache.specs.declared.extents.Extent.{Extent}

-- the instances, and the chunks of their bytes, each in the order of use, the least recently used first; how many lives were
-- given to instances, and how many chunks there may be. A chunk's owner is its instance's slot
pub record Memory : Type 0 where
  pub instances : List Instance
  pub lives : ℕ
  pub chunks : List Chunk
  pub size : ℕ
  pub extents : List Extent  -- how far each instance is kept on the disk
  pub grown : List ObjectId  -- to which bytes joined in this turn
  pub outdated : List (List ℕ)  -- names whose entry stands for its row no more

-- nothing is held. Ours: at least 512 chunks and at most 65,536, and 1,345 instances
abbrev pub empty_memory : ℕ → Memory
empty_memory chunks = record {
  instances = [];
  lives = 0;
  chunks = [];
  size = min (max chunks 512) 65536;
  extents = replicate 1345 nowhere;
  grown = [];
  outdated = [];
}

-- ---- what is held

abbrev pub is_row_in : Option Instance → Bool
is_row_in None = false
is_row_in (Some i) = is_row i

-- the instance is there, and stands for its key
abbrev pub stands : ObjectId → List Instance → Bool
stands id is = is_there id is && is_row_in (in_slot id.slot is)

-- how many bytes of the instance are on the disk, from the first on: none where it stands for its key no more
abbrev pub extent_of : ObjectId → Memory → ℕ
extent_of id m = cond (stands id m.instances) (bytes_of id (slice_get m.extents id.slot)) 0

-- the byte of an instance at an offset is in memory: a chunk holds a front of its bytes
abbrev pub is_in_memory : ℕ → ℕ → List Chunk → Bool
is_in_memory slot at cs = nat_lt (at % 4096) (length (bytes_at (slot, at / 4096) cs))

-- a client is said bytes of an instance that is there, or of none
abbrev pub IsNextThere : Option (ObjectId × ℕ) → List Instance → Type 0
IsNextThere next is = IfSome next (λ at. is_there at.0 is ≡ true)

-- a chunk as the pool has it, whose number is nobody's business
abbrev pub used_of : Chunk → Used
used_of c = record { number = 0; owner = c.owner; index = c.index; bytes = c.bytes }

abbrev pub all_used : List Chunk → List Used
all_used cs = map used_of cs

-- ---- changes

-- a new row of a key, with nothing in memory. Where it has a former row that nobody follows, that is out with its chunks
unfoldable pub with_row : ObjectId → List ℕ → Version → List Field → Times → Memory → Memory
with_row id key version fields times m = record m {
  instances = settled id key version (kept_of fields times) times m.instances;
  lives = m.lives + 1;
  chunks = given_back_by (row_of key m.instances) m.chunks;
}

-- the entry of a key stands for its row no more
unfoldable pub with_outdated : List ℕ → Memory → Memory
with_outdated key m = record m { outdated = outdated_by (name_of key) m.outdated }

-- the row of a key is not known any more: where nobody follows it, it is out with its chunks
unfoldable pub retired_at : List ℕ → Memory → Memory
retired_at key m = record m {
  instances = retired_from (row_of key m.instances) m.instances;
  chunks = given_back_by (row_of key m.instances) m.chunks;
  outdated = outdated_by (name_of key) m.outdated;
}
