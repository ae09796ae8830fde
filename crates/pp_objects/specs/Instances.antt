-- The instances in memory: for each key at most one row, and retired versions that somebody still follows.
use Rattle.std.specs.Prelude.{ℕ, Bool, false, ◌==◌, ◌&&◌, not, List, [], Option, Some, None, bytes_eq}
use Rattle.std.specs.List.{find, list_any}
use Rattle.pp_text.specs.Fields.{Field}
use Rattle.pp_valid.specs.declared.version.Version.{Version}
use Rattle.pp_holes.specs.declared.cell.Cell.{Cell}
use Rattle.pp_holes.specs.Cells.{Table}
use Rattle.pp_fresh.specs.declared.aging.Times.{Times}
use Rattle.pp_objects.specs.declared.id.ObjectId.{ObjectId}

-- one version of a key, known in part: where it stands and since when, the fields that are kept of its
-- responses, how many clients follow it, and which of its chunks are in memory
pub record Instance : Type 0 where
  pub slot : ℕ
  pub life : ℕ
  pub key : List ℕ
  pub version : Version
  pub fields : List Field
  pub times : Times
  pub is_retired : Bool
  pub followers : ℕ
  pub cells : List (Option Cell)

-- the instances in the order of use, the least recently used first, and how many lives were given
pub record Rows : Type 0 where
  pub instances : List Instance
  pub lives : ℕ

abbrev pub id_of : Instance → ObjectId
id_of i = record { slot = i.slot; life = i.life }

-- no two instances have one slot, so the life only tells that it is still the same
abbrev pub is_in_slot : ℕ → Instance → Bool
is_in_slot slot i = i.slot == slot

abbrev pub in_slot : ℕ → List Instance → Option Instance
in_slot slot is = find (is_in_slot slot) is

abbrev pub is_life : ℕ → Option Instance → Bool
is_life life None = false
is_life life (Some i) = i.life == life

-- the instance of an id is there
abbrev pub is_there : ObjectId → List Instance → Bool
is_there id is = is_life id.life (in_slot id.slot is)

-- a row is an instance that is not retired
abbrev pub is_row : Instance → Bool
is_row i = not i.is_retired

abbrev pub is_row_of : List ℕ → Instance → Bool
is_row_of key i = is_row i && bytes_eq i.key key

-- the row of a key
abbrev pub row_of : List ℕ → List Instance → Option Instance
row_of key is = find (is_row_of key) is

abbrev pub is_same_id : ObjectId → ObjectId → Bool
is_same_id a b = (a.slot == b.slot) && (a.life == b.life)

-- a row that nobody follows and no exchange is bound to
abbrev pub is_idle : List ObjectId → Instance → Bool
is_idle busy i = is_row i && ((i.followers == 0) && not (list_any (is_same_id (id_of i)) busy))

abbrev pub followers_of : Option Instance → ℕ
followers_of None = 0
followers_of (Some i) = i.followers

abbrev pub table_of : Instance → Table
table_of i = record { owner = i.slot; total = i.version.length; cells = i.cells }

abbrev pub cells_of : Option Instance → List (Option Cell)
cells_of None = []
cells_of (Some i) = i.cells

abbrev pub total_of : Option Instance → ℕ
total_of None = 0
total_of (Some i) = i.version.length

abbrev pub fields_of : Option Instance → List Field
fields_of None = []
fields_of (Some i) = i.fields

-- the fields that are kept with the instance in a slot
abbrev pub fields_at : ℕ → List Instance → List Field
fields_at slot is = fields_of (in_slot slot is)

-- what the instance in a slot has in memory
abbrev pub cells_at : ℕ → List Instance → List (Option Cell)
cells_at slot is = cells_of (in_slot slot is)

abbrev pub total_at : ℕ → List Instance → ℕ
total_at slot is = total_of (in_slot slot is)

abbrev pub table_at : ℕ → List Instance → Table
table_at slot is = record { owner = slot; total = total_at slot is; cells = cells_at slot is }
