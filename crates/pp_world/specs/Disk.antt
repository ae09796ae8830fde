-- The files of a folder, read off the log name by name; what each call appends and gives; what a crash may leave.
use Rattle.std.specs.Prelude.{◌≡◌, ◌<◌, ◌≤◌, ◌⊎◌, ⊤, ℕ, zero, suc, ◌+◌, Bool, true, false, IsTrue, ◌==◌, ◌&&◌, ◌||◌, nat_le, nat_lt, max, List, [], ◌∷◌, ◌++◌, length, take, drop, map, filter, fold, cond, slice_index, bytes_eq, Option, Some, None, Result, Ok, Err, Vec}
use Rattle.std.specs.List.{list_all}
use Rattle.std.specs.Ordering.{is_lt}
use Rattle.pp_world.specs.declared.disk.DiskFault.{DiskFault}
use Rattle.pp_world.specs.declared.disk.NamesFault.{NamesFault}
use Rattle.pp_world.specs.declared.disk.NamesFault.TheVariants.{Disk as FolderFault, OutOfMemory}
use Rattle.pp_world.specs.declared.happening.Happening.{Happening}
use Rattle.pp_world.specs.declared.happening.Happening.TheVariants.{Woke, Began, Did, Unread, Listed}
use Rattle.pp_world.specs.declared.op.DiskOp.{DiskOp}
use Rattle.pp_world.specs.declared.op.DiskOp.TheVariants.{Draft, SyncDraft, Publish, Write, Sync, Remove}
use Rattle.pp_world.specs.Files.{Files, file_of, name_order}
use Rattle.pp_world.specs.Log.{Log, Rises}

abbrev pub Bytes : Type 0
Bytes = List ℕ

-- a file: what reads give, the length that is synced, the greatest end written since, and the ranges that are loose
pub record Stored : Type 0 where
  pub bytes : Bytes
  pub synced : ℕ
  pub end : ℕ
  pub loose : List (ℕ × ℕ)

-- what a log says of one name: the draft, which has none yet; the files one of which stands under the name (None: no file);
-- and whether an operation on it failed in this life
pub record View : Type 0 where
  pub draft : Option Stored
  pub slot : List (Option Stored)
  pub failed : Bool

-- changes of a file

-- "with any bytes in loose ranges": from its beginning on, a write makes its range loose
unfoldable pub loosened : ℕ → ℕ → Stored → Stored
loosened from to f = record { bytes = f.bytes; synced = f.synced; end = max f.end to; loose = (from, to) ∷ f.loose }

-- these bytes with others written over them from an offset on
unfoldable pub splice : ℕ → Bytes → Bytes → Bytes
splice at over bytes = take at bytes ++ (over ++ drop (at + length over) bytes)

unfoldable pub written : ℕ → Bytes → Stored → Stored
written at over f = record { bytes = splice at over f.bytes; synced = f.synced; end = f.end; loose = f.loose }

-- all of it stands through a crash
unfoldable pub settled : Bytes → Stored
settled bytes = record { bytes = bytes; synced = length bytes; end = length bytes; loose = [] }

-- none of it does
unfoldable pub unsynced : Bytes → Stored
unsynced bytes = record { bytes = bytes; synced = 0; end = length bytes; loose = [] }

abbrev pub synced : Stored → Stored
synced f = settled f.bytes

abbrev pub on_file : (Stored → Stored) → Option Stored → Option Stored
on_file change None = None
on_file change (Some f) = Some (change f)

-- the fold

abbrev pub is_on : Bytes → DiskOp → Bool
is_on name (Draft bytes) = false
is_on name SyncDraft = false
is_on name (Publish n) = bytes_eq n name
is_on name (Write n at bytes) = bytes_eq n name
is_on name (Sync n) = bytes_eq n name
is_on name (Remove n) = bytes_eq n name

-- the files under the name, changed where the operation is on it
abbrev pub where_on : Bool → List (Option Stored) → List (Option Stored) → List (Option Stored)
where_on on changed slot = cond on changed slot

-- A sync that failed is not mended by another: a system tells a write that it lost once, and forgets it (fsync(2), 'EIO'). So a
-- sync settles no file of a name on which an operation failed.
abbrev pub synced_unless : Bool → List (Option Stored) → List (Option Stored)
synced_unless failed slot = cond failed slot (map (on_file synced) slot)

-- an operation that began: a file that is published or removed is in doubt from then on
abbrev pub began : Bytes → DiskOp → View → View
began name (Draft bytes) v = record { draft = None; slot = v.slot; failed = v.failed }
began name SyncDraft v = v
began name (Publish n) v = record { draft = v.draft; slot = where_on (is_on name (Publish n)) (v.slot ++ v.draft ∷ []) v.slot; failed = v.failed }
began name (Write n at bytes) v = record { draft = v.draft; slot = where_on (is_on name (Write n at bytes)) (map (on_file (loosened at (at + length bytes))) v.slot) v.slot; failed = v.failed }
began name (Sync n) v = v
began name (Remove n) v = record { draft = v.draft; slot = where_on (is_on name (Remove n)) (v.slot ++ None ∷ []) v.slot; failed = v.failed }

-- an operation that was done
abbrev pub done : Bytes → DiskOp → View → View
done name (Draft bytes) v = record { draft = Some (unsynced bytes); slot = v.slot; failed = v.failed }
done name SyncDraft v = record { draft = on_file synced v.draft; slot = v.slot; failed = v.failed }
done name (Publish n) v = record { draft = None; slot = where_on (is_on name (Publish n)) (v.draft ∷ []) v.slot; failed = v.failed }
done name (Write n at bytes) v = record { draft = v.draft; slot = where_on (is_on name (Write n at bytes)) (map (on_file (written at bytes)) v.slot) v.slot; failed = v.failed }
done name (Sync n) v = record { draft = v.draft; slot = where_on (is_on name (Sync n)) (synced_unless v.failed v.slot) v.slot; failed = v.failed }
done name (Remove n) v = record { draft = v.draft; slot = where_on (is_on name (Remove n)) (None ∷ []) v.slot; failed = v.failed }

-- an operation that failed: it stays in doubt, and the draft that was to be synced or published is no more
abbrev pub draft_behind : DiskOp → Option Stored → Option Stored
draft_behind (Draft bytes) draft = draft
draft_behind SyncDraft draft = None
draft_behind (Publish n) draft = None
draft_behind (Write n at bytes) draft = draft
draft_behind (Sync n) draft = draft
draft_behind (Remove n) draft = draft

abbrev pub undone : Bytes → DiskOp → View → View
undone name op v = record { draft = draft_behind op v.draft; slot = v.slot; failed = v.failed || is_on name op }

abbrev pub at_rest : Option Bytes → Option Stored
at_rest None = None
at_rest (Some bytes) = Some (settled bytes)

-- a life begins: each file is as the crash left it
abbrev pub woken : Bytes → Files → View
woken name image = record { draft = None; slot = at_rest (file_of name image) ∷ []; failed = false }

abbrev pub view_after : Bytes → View → Happening → View
view_after name v (Woke image) = woken name image
view_after name v (Began op) = began name op v
view_after name v (Did op true) = done name op v
view_after name v (Did op false) = undone name op v
view_after name v (Unread n) = record { draft = v.draft; slot = v.slot; failed = v.failed || bytes_eq n name }
view_after name v happening = v

unfoldable pub view_of : Bytes → Log → View
view_of name log = fold (view_after name) (woken name []) log

-- the calls

abbrev pub op_happenings : DiskOp → Result (Unit {0}) DiskFault → Log
op_happenings op (Ok done) = Began op ∷ Did op true ∷ []
op_happenings op (Err fault) = Began op ∷ Did op false ∷ []

abbrev pub look_happenings : Bytes → Result ℕ DiskFault → Log
look_happenings name (Ok n) = []
look_happenings name (Err fault) = Unread name ∷ []

abbrev pub names_happenings : {A : Type 0} → Result A NamesFault → Log
names_happenings (Ok names) = Listed true ∷ []
names_happenings (Err FolderFault) = Listed false ∷ []
names_happenings (Err OutOfMemory) = []

-- the folder fails only where the count rose; where memory was refused, it is as before
abbrev pub NamesCause : {A : Type 0} → Option Log → ℕ → ℕ → Result A NamesFault → Type 0
NamesCause log before now (Ok names) = ⊤
NamesCause log before now (Err FolderFault) = Rises log before now
NamesCause log before now (Err OutOfMemory) = now ≡ before

abbrev pub HasDraft : Log → Type 0
HasDraft log = (f : Stored) × ((view_of [] log).draft ≡ Some f)

-- one file stands under the name, and is long enough
abbrev pub Reaches : Bytes → ℕ → Log → Type 0
Reaches name at log = (f : Stored) × ((view_of name log).slot ≡ Some f ∷ []) × (at ≤ length f.bytes)

-- this file, or none, stands under the name, and no operation on it failed in this life
pub record Stands (name : Bytes) (log : Log) (file : Option Stored) : Type 0 where
  pub alone : (view_of name log).slot ≡ file ∷ []
  pub sound : (view_of name log).failed ≡ false

abbrev pub bytes_in : Option Stored → Bytes
bytes_in None = []
bytes_in (Some f) = f.bytes

abbrev pub GivesLength : Bytes → Result ℕ DiskFault → Log → Type 0
GivesLength name (Ok n) log = (file : Option Stored) → Stands name log file → n ≡ length (bytes_in file)
GivesLength name (Err fault) log = ⊤

-- all that the file has from the offset on, as far as the buffer is long
abbrev pub GivesBytes : Bytes → ℕ → Bytes → Result ℕ DiskFault → Log → Type 0
GivesBytes name at buffer (Ok n) log = (file : Option Stored) → Stands name log file → take n buffer ≡ take (length buffer) (drop at (bytes_in file))
GivesBytes name at buffer (Err fault) log = ⊤

-- a digit, or a letter from a to f
abbrev pub is_name_byte : ℕ → Bool
is_name_byte b = (nat_le 48 b && nat_le b 57) || (nat_le 97 b && nat_le b 102)

abbrev pub is_name : Bytes → Bool
is_name name = (length name == 32) && list_all is_name_byte name

abbrev pub is_rising : List Bytes → Bool
is_rising [] = true
is_rising (name ∷ []) = true
is_rising (name ∷ next ∷ names) = is_lt (name_order name next) && is_rising (next ∷ names)

-- as a folder is listed: each name once, in the order of bytes
pub record AreNames (names : List Bytes) : Type 0 where
  pub form : IsTrue (list_all is_name names)
  pub order : IsTrue (is_rising names)
  pub few : length names ≤ 65536

-- the files that this life woke to, as long as nothing was changed
abbrev pub image_after : Option Files → Happening → Option Files
image_after image (Woke files) = Some files
image_after image (Began op) = None
image_after image happening = image

unfoldable pub image_of : Log → Option Files
image_of log = fold image_after (Some []) log

abbrev pub names_in : Files → List Bytes
names_in files = take 65536 (filter is_name (map (λ file. file.0) files))

abbrev pub GivesNames : {A B : Type 0} → Result (Vec Bytes A) B → Log → Type 0
GivesNames (Ok names) log = (files : Files) → image_of log ≡ Some files → names.items ≡ names_in files
GivesNames (Err fault) log = ⊤

-- what a crash may leave

abbrev pub is_loose : ℕ → List (ℕ × ℕ) → Bool
is_loose offset [] = false
is_loose offset (range ∷ ranges) = (nat_le range.0 offset && nat_lt offset range.1) || is_loose offset ranges

-- a file is as it was read, but for loose ranges, and past the synced length it may end anywhere up to the greatest end written
pub record IsLeft (f : Stored) (bytes : Bytes) : Type 0 where
  pub no_shorter : f.synced ≤ length bytes
  pub no_longer : length bytes ≤ f.end
  pub same : (offset : ℕ) → offset < f.synced → is_loose offset f.loose ≡ false → slice_index bytes offset ≡ slice_index f.bytes offset

abbrev pub IsLeftOf : Option Stored → Option Bytes → Type 0
IsLeftOf None None = ⊤
IsLeftOf None (Some bytes) = ⊥
IsLeftOf (Some f) None = ⊥
IsLeftOf (Some f) (Some bytes) = IsLeft f bytes

abbrev pub LeavesOne : List (Option Stored) → Option Bytes → Type 0
LeavesOne [] file = ⊥
LeavesOne (f ∷ fs) file = IsLeftOf f file ⊎ LeavesOne fs file

-- a crash at the end of this log may leave these files: under each name the old file or the new
abbrev pub IsLeftBehind : Log → Files → Type 0
IsLeftBehind log files = (name : Bytes) → LeavesOne (view_of name log).slot (file_of name files)

-- the same of one file as a test
abbrev pub same_below : ℕ → Stored → Bytes → Bool
same_below zero f bytes = true
same_below (suc k) f bytes = ((slice_index bytes k == slice_index f.bytes k) || is_loose k f.loose) && same_below k f bytes

abbrev pub is_left : Stored → Bytes → Bool
is_left f bytes = nat_le f.synced (length bytes) && nat_le (length bytes) f.end && same_below f.synced f bytes
