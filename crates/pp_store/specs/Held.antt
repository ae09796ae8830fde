-- What the entries that are kept say of the disk.
use Rattle.std.specs.Prelude.{◌≡◌, ◌<◌, ◌≤◌, ℕ, ◌+◌, true, false, length, All, Some, slice_index, take, is_some}
use Rattle.pp_world.specs.Log.{Log}
use Rattle.pp_world.specs.Disk.{Bytes, view_of, LeavesOne}
use Rattle.pp_target.specs.Name.{name_of}
use Rattle.pp_entry.specs.Entries.{Row, row_at}
use Rattle.pp_entry.specs.Texts.{chunks_of}
use Rattle.pp_entry.specs.Spelling.{as_read}
use Rattle.pp_gate.specs.Files.{HoldsSent, IsEntry, Sent}
use Rattle.pp_gate.specs.Seal.{Keeps}
use Rattle.pp_store.specs.Kept.{Kept, KeptMap, IsExtent, name_at, block_of, kept_under, is_closed}

-- just one file stands under the entry's name, all of it through a crash: its head block is how the entry is written,
-- as many of its first gates are open as chunks are kept and no others, and each byte of these chunks was sent
abbrev pub IsOnDisk : Sent → Kept → Log → Type 0
IsOnDisk sent row log = Keeps sent (name_at row) (block_of row.entry) row.entry.version.length (chunks_of row.extent) log

-- a reader takes this head block for the entry
abbrev pub IsReadable : Row → Type 0
IsReadable entry = row_at (block_of entry) ≡ Some (as_read entry)

-- so a later life finds the entry, with just this extent
pub record IsHeld (sent : Sent) (log : Log) (row : Kept) : Type 0 where
  pub keeps : IsOnDisk sent row log
  pub reads : IsReadable row.entry

-- each entry that is kept is on the disk, and each name is closed on which an operation failed in this life
pub record Holds (sent : Sent) (store : KeptMap) (log : Log) : Type 0 where
  pub rows : All (IsHeld sent log) store.rows
  pub failed : (name : Bytes) → (view_of name log).failed ≡ true → is_closed name store ≡ true

-- a file that is an entry of the key whose name it has
pub record IsEntryUnder (name file : Bytes) : Type 0 where
  pub row : Row
  pub head : row_at (take 8192 file) ≡ Some row
  pub own : name_of row.key ≡ name
  pub entry : IsEntry (take 8192 file) row.version.length file

-- whatever a crash leaves, an entry stands under a kept or a closed name alone
pub record Covers (store : KeptMap) (log : Log) : Type 0 where
  pub each : (name : Bytes) → is_some (kept_under name store) ≡ false → is_closed name store ≡ false
      → (file : Bytes) → LeavesOne (view_of name log).slot (Some file) → IsEntryUnder name file → ⊥

-- whatever a crash leaves of the folder is backed: each entry holds only bytes that were sent
pub record IsBacked (sent : Sent) (log : Log) : Type 0 where
  pub each : (name file : Bytes) → LeavesOne (view_of name log).slot (Some file) → (entry : IsEntryUnder name file) → HoldsSent sent (take 8192 file) entry.row.version.length file

-- what was backed before is backed
abbrev pub StaysBacked : Sent → Log → Log → Type 0
StaysBacked sent before log = IsBacked sent before → IsBacked sent log

-- one to 64 chunks of the body, each of 4,096 bytes or ending it, that stand behind what is kept, and were sent
pub record IsMore (sent : Sent) (row : Kept) (bytes : Bytes) : Type 0 where
  pub some : 0 < length bytes
  pub few : length bytes ≤ 262144
  pub whole : IsExtent row.entry.version.length (row.extent + length bytes)
  pub sent_all : (offset : ℕ) → offset < length bytes → sent (block_of row.entry) (row.extent + offset) (slice_index bytes offset) ≡ true
