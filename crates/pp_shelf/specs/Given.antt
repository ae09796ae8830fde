-- What is given to be kept.
use Rattle.std.specs.Prelude.{◌≡◌, ◌<◌, ◌⊎◌, ℕ, ◌+◌, ◌*◌, Bool, true, false, ◌==◌, ◌&&◌, nat_lt, nat_le, min, length, Option, Some, None, slice_index}
use Rattle.pp_world.specs.Disk.{Bytes}
use Rattle.pp_target.specs.Name.{name_of}
use Rattle.pp_entry.specs.Entries.{Row}
use Rattle.pp_entry.specs.Spelling.{CanBeWritten}
use Rattle.pp_entry.specs.Texts.{body_at, chunks_of}
use Rattle.pp_gate.specs.Files.{Sent}
use Rattle.pp_store.specs.Kept.{Kept, KeptMap, kept_under}

-- each of these bytes was sent, of the body that this head block tells of, from that offset on
abbrev pub WereSent : Sent → Bytes → ℕ → Bytes → Type 0
WereSent sent block from bytes = (offset : ℕ) → offset < length bytes → sent block (from + offset) (slice_index bytes offset) ≡ true

-- room of this length has the front of a file, and behind it nothing or all of a body of n bytes
abbrev pub IsWhole : ℕ → ℕ → Type 0
IsWhole n room = (room ≡ body_at n) ⊎ (room ≡ body_at n + n)

-- a draft can be made of a row: no entry is kept under its name, and one can be written of it; and room of this length has the
-- front of its file, and behind it nothing or all of the body
pub record MayBeDrafted (store : KeptMap) (entry : Row) (room : ℕ) : Type 0 where
  pub free : kept_under (name_of entry.key) store ≡ None
  pub written : CanBeWritten entry
  pub whole : IsWhole entry.version.length room

-- the byte at this offset is kept
abbrev pub keeps_byte : ℕ → Option Kept → Bool
keeps_byte at None = false
keeps_byte at (Some row) = nat_lt at row.extent

-- the first bytes of a body, in whole chunks: `IsExtent` of pp_store
abbrev pub is_extent : ℕ → ℕ → Bool
is_extent n extent = min n (4096 * chunks_of extent) == extent

-- so many bytes behind an extent are one to 64 whole chunks more of a body of n bytes
abbrev pub is_more : ℕ → ℕ → ℕ → Bool
is_more n extent len = nat_lt 0 len && nat_le len 262144 && is_extent n (extent + len)

abbrev pub is_more_of : ℕ → Option Kept → Bool
is_more_of len None = false
is_more_of len (Some row) = is_more row.entry.version.length row.extent len
