-- What the promises on the disk outlast: more that is sent, whatever else happens, and a crash.
use Rattle.std.specs.Prelude.{◌≡◌, ⊤, ℕ, ◌*◌, true, min, [], ◌∷◌, ◌++◌, All, Some, take}
use Rattle.pp_world.specs.declared.happening.Happening.{Happening}
use Rattle.pp_world.specs.declared.happening.Happening.TheVariants.{Woke, Began, Did, Unread}
use Rattle.pp_world.specs.Disk.{Bytes, IsLeftBehind}
use Rattle.pp_world.specs.Files.{Files, file_of}
use Rattle.pp_world.specs.Log.{Log}
use Rattle.pp_entry.specs.Entries.{row_at}
use Rattle.pp_entry.specs.Spelling.{as_read}
use Rattle.pp_entry.specs.Texts.{chunks_of}
use Rattle.pp_gate.specs.Files.{HoldsSent, IsEntry, Sent, extent_in}
use Rattle.pp_store.specs.Held.{Covers, Holds, IsBacked}
use Rattle.pp_store.specs.Kept.{Kept, KeptMap, block_of, name_at}

-- what was sent before is sent still
abbrev pub GrowsTo : Sent → Sent → Type 0
GrowsTo sent more = (block : Bytes) (offset byte : ℕ) → sent block offset byte ≡ true → more block offset byte ≡ true

-- a happening by which no file is changed, and none fails
abbrev pub IsApart : Happening → Type 0
IsApart (Woke files) = ⊥
IsApart (Began op) = ⊥
IsApart (Did op ok) = ⊥
IsApart (Unread name) = ⊥
IsApart happening = ⊤

abbrev pub AreApart : Log → Type 0
AreApart [] = ⊤
AreApart (happening ∷ happenings) = IsApart happening × AreApart happenings

-- a reader finds the entry in the folder: the head block is read as it was kept, just the chunks that are kept count, and
-- each of their bytes was sent
pub record IsFoundIn (sent : Sent) (files : Files) (row : Kept) : Type 0 where
  pub file : Bytes
  pub there : file_of (name_at row) files ≡ Some file
  pub head : row_at (take 8192 file) ≡ Some (as_read row.entry)
  pub entry : IsEntry (block_of row.entry) row.entry.version.length file
  pub extent : extent_in row.entry.version.length file ≡ min row.entry.version.length (4096 * chunks_of row.extent)
  pub sent_all : HoldsSent sent (block_of row.entry) row.entry.version.length file

abbrev pub OutlastSending : Type 0
OutlastSending = (sent more : Sent) → GrowsTo sent more → (store : KeptMap) (log : Log) → (Holds sent store log → Holds more store log) × (IsBacked sent log → IsBacked more log)

abbrev pub OutlastOthers : Type 0
OutlastOthers =
    (happenings : Log) → AreApart happenings → (sent : Sent) (store : KeptMap) (log : Log)
    → (Holds sent store log → Holds sent store (log ++ happenings)) × (Covers store log → Covers store (log ++ happenings)) × (IsBacked sent log → IsBacked sent (log ++ happenings))

-- whatever a crash leaves, each entry that is kept is found in it
abbrev pub OutlastCrashes : Type 0
OutlastCrashes = (sent : Sent) (store : KeptMap) (log : Log) (files : Files) → Holds sent store log → IsLeftBehind log files → All (IsFoundIn sent files) store.rows
