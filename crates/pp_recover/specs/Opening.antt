-- What opening a folder does, as the log tells it, and the store that it makes.
use Rattle.std.specs.Prelude.{◌≡◌, ◌⊎◌, ℕ, Bool, true, false, not, List, [], ◌∷◌, ◌++◌, length, take, map, filter, cond, Option, Some, None, Result, Ok, Err}
use Rattle.std.specs.List.{filter_map}
use Rattle.pp_world.specs.declared.happening.Happening.TheVariants.{Listed}
use Rattle.pp_world.specs.Files.{Files, file_of}
use Rattle.pp_world.specs.Log.{Log}
use Rattle.pp_world.specs.Disk.{Bytes, image_of, names_in, view_of, woken, at_rest, IsLeftBehind, LeavesOne, Stands}
use Rattle.pp_gate.specs.Files.{HoldsSent, Sent}
use Rattle.pp_store.specs.Changes.{with_closed}
use Rattle.pp_store.specs.Held.{IsBacked}
use Rattle.pp_store.specs.Kept.{Kept, KeptMap, is_closed, kept_under}
use Rattle.pp_recover.specs.declared.faults.RecoverFault.{RecoverFault}
use Rattle.pp_recover.specs.declared.faults.RecoverFault.TheVariants.{DiskFault, OutOfMemory}
use Rattle.pp_recover.specs.Closing.{Tends}
use Rattle.pp_recover.specs.Image.{entry_in, entry_of}

-- a life in which nothing was changed yet, and no file failed: each stands as the program found it
pub record IsFresh (files : Files) (log : Log) : Type 0 where
  pub image : image_of log ≡ Some files
  pub views : (name : Bytes) → view_of name log ≡ woken name files

-- whatever a crash leaves under a name is the entry that was there, or no entry where none was
abbrev pub SameEntries : Log → Log → Type 0
SameEntries before log =
    (files : Files) → IsFresh files before → (name : Bytes) (file : Option Bytes) → LeavesOne (view_of name log).slot file
    → entry_of name file ≡ entry_of name (file_of name files)

-- ---- the store

abbrev pub failed_on : Log → Bytes → Bool
failed_on log name = (view_of name log).failed

abbrev pub entry_unless : Bool → Option Kept → Option Kept
entry_unless failed entry = cond failed None entry

-- the entries of the folder, but for those on whose name something failed: these names are closed
abbrev pub store_in : Files → Log → KeptMap
store_in files log = record {
  rows = filter_map (λ name. entry_unless (failed_on log name) (entry_of name (file_of name files))) (names_in files);
  closed = filter (failed_on log) (names_in files);
}

-- ---- what happens

-- a name that was attended to, and whether nothing failed on it
pub record Tended : Type 0 where
  pub name : Bytes
  pub sound : Bool

abbrev pub name_in : Tended → Bytes
name_in tended = tended.name

-- one name after another
abbrev pub TendsEach : Files → List Tended → Log → Type 0
TendsEach files [] hs = hs ≡ []
TendsEach files (t ∷ ts) hs =
    (one : Log) × (rest : Log) × (hs ≡ one ++ rest) × Tends t.name (file_of t.name files) t.sound one × TendsEach files ts rest

-- the first so many names of the folder, in their order
abbrev pub TendsFirst : Files → ℕ → Log → Type 0
TendsFirst files count hs = (ts : List Tended) × (map name_in ts ≡ take count (names_in files)) × TendsEach files ts hs

abbrev pub ListsAnd : (Log → Type 0) → Log → Type 0
ListsAnd P hs = (rest : Log) × (hs ≡ Listed true ∷ rest) × P rest

-- all names of the folder, at most the first 65,536, are attended to; where memory was refused, a front of them, whose
-- gates stay closed; a folder that could not be listed is not taken for an empty one
abbrev pub Opens : Result KeptMap RecoverFault → Files → Log → Log → Type 0
Opens (Ok store) files before hs =
    ListsAnd (TendsFirst files (length (names_in files))) hs × (store ≡ store_in files (before ++ hs))
Opens (Err DiskFault) files before hs = hs ≡ Listed false ∷ []
Opens (Err OutOfMemory) files before hs = (hs ≡ []) ⊎ ListsAnd (λ rest. (count : ℕ) × TendsFirst files count rest) hs

-- each byte that an entry of the folder keeps was sent
abbrev pub AllSent : Sent → Files → Type 0
AllSent sent files =
    (name file : Bytes) → file_of name files ≡ Some file → (kept : Kept) → entry_in name file ≡ Some kept
    → HoldsSent sent (take 8192 file) kept.entry.version.length file

-- where they do, whatever a crash leaves is backed
abbrev pub OpensBacked : Log → Log → Type 0
OpensBacked before log = (files : Files) → IsFresh files before → (sent : Sent) → AllSent sent files → IsBacked sent log

-- and whatever a crash leaves of what is backed, the next life may open
abbrev pub FilesAreBacked : Type 0
FilesAreBacked = (sent : Sent) (log : Log) (files : Files) → IsBacked sent log → IsLeftBehind log files → AllSent sent files

-- ---- name by name

-- nothing is known under the name
pub record IsFree (name : Bytes) (store : KeptMap) : Type 0 where
  pub absent : kept_under name store ≡ None
  pub sound : is_closed name store ≡ false

abbrev pub with_entry : Option Kept → KeptMap → KeptMap
with_entry None store = store
with_entry (Some kept) store = record { rows = store.rows ++ kept ∷ []; closed = store.closed }

abbrev pub with_tended : Bytes → Option Bytes → Bool → KeptMap → KeptMap
with_tended name file true store = with_entry (entry_of name file) store
with_tended name file false store = with_closed name store

-- one name, where its file stands as the program found it; only memory may be wanting
abbrev pub TendsOne : Bytes → KeptMap → KeptMap → Bool → Log → Log → Type 0
TendsOne name old new done before hs =
    (file : Option Bytes) → Stands name before (at_rest file)
    → (sound : Bool) × Tends name file sound hs × (done ≡ true → new ≡ with_tended name file sound old)

-- the store of names that were attended to
abbrev pub entry_if : Files → Tended → Option Kept
entry_if files t = cond t.sound (entry_of t.name (file_of t.name files)) None

abbrev pub is_lost : Tended → Bool
is_lost t = not t.sound

abbrev pub store_of : Files → List Tended → KeptMap
store_of files ts = record { rows = filter_map (entry_if files) ts; closed = map name_in (filter is_lost ts) }

-- a front of these names, or all of them
abbrev pub TendsNames : Files → List Bytes → Bool → KeptMap → Log → Type 0
TendsNames files names done store hs =
    (count : ℕ) × (ts : List Tended) × (map name_in ts ≡ take count names) × TendsEach files ts hs
    × (done ≡ true → (map name_in ts ≡ names) × (store ≡ store_of files ts))
