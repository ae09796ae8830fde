-- How the shelf of the program stands for the disk of the law (ours): the entries that are kept, and the names that are closed. Between
-- a failed operation and the note that its entry is gone, the law has the entry still, under a closed name.
use Rattle.std.specs.Prelude.{◌≡◌, ◌≤◌, Bool, false, List, [], length, count_by, None}
use Rattle.pp_cache_law.specs.Outdated.{AreNamed}
use Rattle.pp_cache_law.specs.Pairs.{AreAll}
use Rattle.pp_law.specs.Lists.{Bytes, has_text, without}
use Rattle.pp_law.specs.State.{State, Entry, Keeping}
use Rattle.pp_law.specs.Store.{is_named}
use Rattle.pp_objects.specs.Kept.{kept_of}
use Rattle.pp_store.specs.Kept.{IsExtent, Kept, KeptMap, is_closed, name_at}

-- the same of the law: it has the fields that are kept of those that stand there
pub record ShowsEntry (kept : Kept) (e : Entry) : Type 0 where
  pub name : name_at kept ≡ e.name
  pub key : kept.entry.key ≡ e.key
  pub version : kept.entry.version ≡ e.version
  pub fields : kept_of kept.entry.fields kept.entry.times ≡ e.fields
  pub times : kept.entry.times ≡ e.times
  pub extent : kept.extent ≡ e.extent
  pub whole : IsExtent e.version.length e.extent

-- one each, in their order
abbrev pub ShowEntries : List Kept → List Entry → Type 0
ShowEntries rows es = AreAll ShowsEntry rows es

abbrev pub is_shut : List Bytes → Entry → Bool
is_shut closed e = has_text e.name closed

-- each entry whose name is not closed is kept, and the same names are closed; no two entries have one name
pub record AreKept (shelf : KeptMap) (entries : List Entry) (closed : List Bytes) : Type 0 where
  pub rows : ShowEntries shelf.rows (without (is_shut closed) entries)
  pub closed_same : (name : Bytes) → has_text name closed ≡ is_closed name shelf
  pub count : length closed ≡ length shelf.closed
  pub named : AreNamed entries
  pub once : (name : Bytes) → count_by (is_named name) entries ≤ 1

abbrev pub ShowsShelf : KeptMap → State → Type 0
ShowsShelf shelf s = AreKept shelf s.entries s.closed_names

-- in a turn, where nothing is left to do of what was begun
pub record IsResting (shelf : KeptMap) (s : State) : Type 0 where
  pub none : s.has_made_room ≡ None
  pub at : s.phase ≡ Keeping
  pub idle : s.under_way ≡ None
  pub done : s.agenda.todo ≡ []
  pub shows : ShowsShelf shelf s
