-- The bytes of instances that are in memory, chunk by chunk, and which chunk goes first (ours: chunks of 4,096 bytes).
use Rattle.std.specs.Prelude.{ℕ, zero, suc, ◌+◌, ◌-◌, ◌/◌, ◌%◌, Bool, true, false, ◌==◌, ◌&&◌, ◌||◌, nat_lt, nat_le, min, List, [], ◌∷◌, ◌++◌, length, take, drop, map, find, Option, Some, None}
use Rattle.pp_evict.specs.Victims.{victim_in}
use Rattle.pp_pool.specs.Chunks.{Used}
use Rattle.pp_text.specs.Bytes.{is_empty}
use Rattle.pp_law.specs.Lists.{Bytes, without}
use Rattle.pp_law.specs.State.{State, Chunk}

abbrev pub chunk_len : ℕ
chunk_len = 4096

abbrev pub is_chunk : ℕ → ℕ → Chunk → Bool
is_chunk id i c = (c.instance == id) && (c.index == i)

abbrev pub chunk_bytes : ℕ → ℕ → List Chunk → Bytes
chunk_bytes id i chunks = elim (find (is_chunk id i) chunks) [ None ↦ [] | Some c ↦ c.bytes ]

-- a chunk in memory holds a front of its bytes, of this length
abbrev pub filled : ℕ → ℕ → List Chunk → ℕ
filled id i chunks = length (chunk_bytes id i chunks)

abbrev pub is_in_memory : State → ℕ → ℕ → Bool
is_in_memory s id at = nat_lt (at % chunk_len) (filled id (at / chunk_len) s.chunks)

-- the chunk has these bytes, and is the most recently used one
abbrev pub put_chunk : ℕ → ℕ → Bytes → List Chunk → List Chunk
put_chunk id i bytes chunks = without (is_chunk id i) chunks ++ record { instance = id; index = i; bytes = bytes } ∷ []

-- bytes join where they are not there yet, and begin a chunk or follow a byte that is there. Of a run within one chunk these
-- are the ones behind the front that is there
abbrev pub joining : ℕ → ℕ → Bytes → Bytes
joining at front run = elim (nat_le at front) [ true ↦ drop (front - at) run | false ↦ [] ]

abbrev pub put_joining : ℕ → ℕ → Bytes → List Chunk → List Chunk
put_joining id i bytes chunks = elim (is_empty bytes) [ true ↦ chunks | false ↦ put_chunk id i (chunk_bytes id i chunks ++ bytes) chunks ]

-- what is below the extent does not join
abbrev pub join_run : ℕ → ℕ → ℕ → Bytes → List Chunk → List Chunk
join_run id extent at run chunks = elim (nat_lt at extent) [
  | true ↦ chunks
  | false ↦ put_joining id (at / chunk_len) (joining (at % chunk_len) (filled id (at / chunk_len) chunks) run) chunks
]

-- how far it is to the end of the chunk
abbrev pub to_chunk_end : ℕ → ℕ
to_chunk_end at = chunk_len - at % chunk_len

-- the runs within chunks, one behind the other
abbrev pub join_runs : ℕ → ℕ → ℕ → ℕ → Bytes → List Chunk → List Chunk
join_runs zero id extent at bytes chunks = chunks
join_runs (suc more) id extent at bytes chunks = elim (is_empty bytes) [
  | true ↦ chunks
  | false ↦ join_runs more id extent (at + to_chunk_end at) (drop (to_chunk_end at) bytes) (join_run id extent at (take (to_chunk_end at) bytes) chunks)
]

abbrev pub joined : ℕ → ℕ → ℕ → Bytes → List Chunk → List Chunk
joined id extent at bytes chunks = join_runs (length bytes / chunk_len + 2) id extent at bytes chunks

-- bytes of it were said
unfoldable pub use_chunk : ℕ → ℕ → State → State
use_chunk id i s = elim (find (is_chunk id i) s.chunks) [ None ↦ s | Some c ↦ record s { chunks = put_chunk id i c.bytes s.chunks } ]

unfoldable pub drop_chunk : ℕ → ℕ → State → State
drop_chunk id i s = record s { chunks = without (is_chunk id i) s.chunks }

-- ---- eviction

-- ours: it begins at the high mark, and ends at the low mark
abbrev pub trigger : State → ℕ
trigger s = min s.settings.high (s.settings.critical - 31)

abbrev pub floor : State → ℕ
floor s = min s.settings.low (s.settings.critical - 32)

abbrev pub used_of : Chunk → Used
used_of c = record { number = 0; owner = c.instance; index = c.index; bytes = c.bytes }

-- the instance and the index of the chunk that goes next, where these are pinned
abbrev pub victim : List (ℕ × ℕ) → State → Option (ℕ × ℕ)
victim pins s = victim_in pins (floor s) (map used_of s.chunks)

unfoldable pub note_use : State → State
note_use s = record s { is_evicting = s.is_evicting || nat_le (trigger s) (length s.chunks) }
