-- Each entry of a shelf has the fields that are kept of them (RFC 2616, sections 10.3.5, 13.5.1 and 14.18): no other is read.
use Rattle.std.specs.Prelude.{◌≡◌, ℕ, true, nat_le, List, filter, length, map, All, Some, Result}
use Rattle.pp_cache_law.specs.Kept.{AreAsKept, AreKept}
use Rattle.pp_entry.specs.Entries.{Row, row_at}
use Rattle.pp_entry.specs.Fields.{are_allowed, is_passing, lowered}
use Rattle.pp_fresh.specs.declared.aging.Times.{Times}
use Rattle.pp_law.specs.Lists.{Bytes}
use Rattle.pp_recover.specs.Opening.{store_in}
use Rattle.pp_store.specs.Changes.{extended_after, kept_after, loaded_after, withdrawn_after}
use Rattle.pp_store.specs.Kept.{Kept, KeptMap}
use Rattle.pp_store.specs.declared.faults.KeepFault.{KeepFault}
use Rattle.pp_store.specs.declared.faults.LoadFault.{LoadFault}
use Rattle.pp_text.specs.Fields.{Field}
use Rattle.pp_text.specs.Lines.{lines_of}
use Rattle.pp_world.specs.Files.{Files}
use Rattle.pp_world.specs.Log.{Log}
use Rattle.pp_world.specs.declared.disk.DiskFault.{DiskFault}

-- fields that an entry may have, their names in lower case
abbrev pub AllowedOnesAreKept : Type 0
AllowedOnesAreKept = (fields : List Field) (times : Times) → map lowered fields ≡ fields → are_allowed fields times.response ≡ true → AreKept fields times

-- and those that are kept of a response an entry may have, where what is renewed of them has room
abbrev pub KeptOnesAreAllowed : Type 0
KeptOnesAreAllowed = (fields : List Field) (times : Times) → AreKept fields times → are_allowed fields times.response ≡ nat_le (length (lines_of (filter is_passing fields))) 2048

-- so those of each row that is read are
abbrev pub ReadOnesAreKept : Type 0
ReadOnesAreKept = (block : Bytes) (row : Row) → row_at block ≡ Some row → AreKept row.fields row.times

-- ---- of a shelf

abbrev pub IsAsKept : Kept → Type 0
IsAsKept kept = AreKept kept.entry.fields kept.entry.times

abbrev pub EachIsAsKept : KeptMap → Type 0
EachIsAsKept shelf = All IsAsKept shelf.rows

-- so of each key what is kept
abbrev pub EachIsKeptSo : Type 0
EachIsKeptSo = (shelf : KeptMap) → EachIsAsKept shelf → AreAsKept shelf

-- from the opening of a folder on
abbrev pub OpenedOnesAreAsKept : Type 0
OpenedOnesAreAsKept = (files : Files) (log : Log) → EachIsAsKept (store_in files log)

-- where those that are drafted have them, which is so of each row that is settled
abbrev pub DraftsStayAsKept : Type 0
DraftsStayAsKept = (shelf : KeptMap) (entry : Row) (extent : ℕ) (result : Result (Unit {0}) KeepFault) → EachIsAsKept shelf → AreKept entry.fields entry.times → EachIsAsKept (kept_after result entry extent shelf)

abbrev pub SealsStayAsKept : Type 0
SealsStayAsKept = (shelf : KeptMap) (key : Bytes) (result : Result ℕ DiskFault) → EachIsAsKept shelf → EachIsAsKept (extended_after result key shelf)

abbrev pub TakingsStayAsKept : Type 0
TakingsStayAsKept = (shelf : KeptMap) (key : Bytes) (result : Result (Unit {0}) DiskFault) → EachIsAsKept shelf → EachIsAsKept (withdrawn_after result key shelf)

abbrev pub LoadsStayAsKept : Type 0
LoadsStayAsKept = (shelf : KeptMap) (key : Bytes) (result : Result ℕ LoadFault) → EachIsAsKept shelf → EachIsAsKept (loaded_after result key shelf)
