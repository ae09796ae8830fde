-- What the shelf keeps of a key is what the law has of it (ours); and of a key the law has one row at most.
use Rattle.std.specs.Prelude.{◌≡◌, true, false, not, ◌&&◌, List, find, is_some, Some, None}
use Rattle.pp_law.specs.Lists.{Bytes}
use Rattle.pp_law.specs.State.{State, Entry, Instance, Term}
use Rattle.pp_law.specs.Store.{has_free_name, is_closed}
use Rattle.pp_law.specs.Table.{is_entry_of, is_row_of}
use Rattle.pp_laws.specs.Runs.{IsIn}
use Rattle.pp_obeys.specs.Obeys.{Obeys}
use Rattle.pp_store.specs.Answers.{is_full}
use Rattle.pp_store.specs.Kept.{Kept, KeptMap, is_closed as is_closed_in, kept_of, kept_under}
use Rattle.pp_world.specs.Log.{Log}
use Rattle.pp_shelf_law.specs.Shelf.{ShowsEntry, ShowsShelf}

-- the law's entry of a key, under a name that is not closed
pub record IsOf (key : Bytes) (kept : Kept) (s : State) : Type 0 where
  pub entry : Entry
  pub there : find (is_entry_of key) s.entries ≡ Some entry
  pub unclosed : is_closed s entry.name ≡ false
  pub shows : ShowsEntry kept entry

-- what is kept is the law's entry
abbrev pub KeptOnesAreTheLaws : Type 0
KeptOnesAreTheLaws = (shelf : KeptMap) (s : State) (key : Bytes) (kept : Kept) → ShowsShelf shelf s → kept_of key shelf ≡ Some kept → IsOf key kept s

-- and where nothing is kept of a key, its entry has a closed name, or there is none
abbrev pub OthersAreClosed : Type 0
OthersAreClosed = (shelf : KeptMap) (s : State) (key : Bytes) (e : Entry) → ShowsShelf shelf s → kept_of key shelf ≡ None → find (is_entry_of key) s.entries ≡ Some e → is_closed s e.name ≡ true

-- no two rows in memory are of one key
abbrev pub HasOneRow : State → Type 0
HasOneRow s = (key : Bytes) (x y : Instance) → IsIn x s.instances → IsIn y s.instances → is_row_of key x ≡ true → is_row_of key y ≡ true → x ≡ y

abbrev pub RowsStandAlone : Type 0
RowsStandAlone = (terms : List Term) (s : State) (log : Log) → Obeys terms s log → HasOneRow s

-- a name is free for a new entry where none is kept under it, it is not closed, and one more may be kept
abbrev pub FreeNamesAreTheLaws : Type 0
FreeNamesAreTheLaws = (shelf : KeptMap) (s : State) (name : Bytes) → ShowsShelf shelf s → has_free_name s name ≡ (not (is_some (kept_under name shelf)) && not (is_closed_in name shelf) && not (is_full shelf))
