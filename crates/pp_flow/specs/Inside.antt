-- How the exchanges are kept: each in a box of its own, the unused boxes in a list.
use Rattle.std.specs.Prelude.{◌≡◌, ◌<◌, ◌≤◌, ◌+◌, ℕ, false, true, List, length, map, take, get_or, vec_capacity}
use Rattle.std.specs.List.{list_any}
use Rattle.std.specs.Global.{Box}
use Rattle.pp_flow.specs.declared.entry.Entry.{Entry}
use Rattle.pp_flow.specs.declared.flow.Flow.TheInside.{Inside}
use Rattle.pp_flow.specs.Changes.{Exchanges}
use Rattle.pp_flow.specs.Entries.{is_number}

abbrev pub entries : List (Box Entry) → List Entry
entries boxes = map (λ b. b.value) boxes

-- the first exchange with this number stands there
pub record IsFirst (number : ℕ) (es : List Entry) (index : ℕ) : Type 0 where
  pub within : index < length es
  pub before : list_any (is_number number) (take index es) ≡ false
  pub here : (d : Entry) → is_number number (get_or es index d) ≡ true

abbrev pub exchanges_in : Inside → Exchanges
exchanges_in o = record { waiting = entries o.waiting.items; placed = entries o.placed.items; begun = o.begun }

-- each of the boxes is in one of the lists, and each list has room for all
pub record IsSound (o : Inside) : Type 0 where
  pub boxes : length o.waiting.items + length o.placed.items + length o.spare.items ≡ 1024
  pub waiting_room : 1024 ≤ vec_capacity o.waiting
  pub placed_room : 1024 ≤ vec_capacity o.placed
  pub spare_room : 1024 ≤ vec_capacity o.spare
