-- Entries in the order in which they came, and a table of their names.
use Rattle.std.specs.Prelude.{◌≡◌, ◌≤◌, ℕ, ◌-◌, nat_lt, cond, List, Some, None, option_map, bytes_eq, count_by}
use Rattle.std.specs.BTreeMap.{BTreeMap, get}
use Rattle.std.specs.List.{position}
use Rattle.pp_world.specs.Files.{name_order}
use Rattle.pp_store.specs.declared.rows.Rows.TheInside.{Inside}
use Rattle.pp_store.specs.Kept.{Kept, is_under}

abbrev pub Places : Type 0
Places = BTreeMap (List ℕ) ℕ

-- at which place of the list the entry under a name stands
abbrev pub AreAt : Places → List Kept → Type 0
AreAt places list = (name : List ℕ) → get name_order places name ≡ position (is_under name) list

abbrev pub rows_in : Inside → List Kept
rows_in rows = rows.list.items

pub record IsTable (rows : Inside) : Type 0 where
  pub at : AreAt rows.places rows.list.items
  pub once : (name : List ℕ) → count_by (is_under name) rows.list.items ≤ 1

-- where what stands behind this place moves up by one
abbrev pub moved_up : ℕ → ℕ → ℕ
moved_up gone place = cond (nat_lt gone place) (place - 1) place

-- a name is gone, and what stood behind it has moved up
abbrev pub Leaves : List ℕ → Places → Places → Type 0
Leaves name old new = (gone : ℕ) → get name_order old name ≡ Some gone → (other : List ℕ) → get name_order new other ≡ cond (bytes_eq name other) None (option_map (moved_up gone) (get name_order old other))
