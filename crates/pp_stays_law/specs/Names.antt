-- There is room to note which entries stand for no row any more, whatever is asked for (ours): the cache notes at most 2,048 names, each once.
use Rattle.std.specs.Prelude.{◌≡◌, ◌<◌, ◌+◌, ℕ, Bool, true, not, List, [], ◌∷◌, count_by, length, slice_get, Some, bytes_eq, ⊤}
use Rattle.std.specs.List.{list_any}
use Rattle.pp_cache.specs.Memory.{Memory}
use Rattle.pp_flow.specs.declared.entry.Entry.{Entry}
use Rattle.pp_seats.specs.Heads.{asked_in, owned_in}
use Rattle.pp_seats.specs.declared.key.Key.{Key}
use Rattle.pp_seats.specs.declared.seat.Seat.{Seat}
use Rattle.pp_state.specs.Ends.{Parts}
use Rattle.pp_target.specs.Name.{name_of}

-- it is one of these
abbrev pub is_among : List (List ℕ) → List ℕ → Bool
is_among names name = list_any (bytes_eq name) names

-- a name that is not noted yet
abbrev pub is_unnoted : List (List ℕ) → List ℕ → Bool
is_unnoted noted name = not (is_among noted name)

-- the name of the key of its request is one of these
abbrev pub AsksAmong : List (List ℕ) → Seat → Type 0
AsksAmong names seat = (key : Key) → owned_in (asked_in seat.front) ≡ Some key → is_among names (name_of key.text.items) ≡ true

-- and so is that of each exchange
abbrev pub AllAskAmong : List (List ℕ) → List Entry → Type 0
AllAskAmong names [] = ⊤
AllAskAmong names (x ∷ xs) = (is_among names (name_of x.key.items) ≡ true) × AllAskAmong names xs

-- with what is noted, as many more as are not noted of these
abbrev pub HasRoomFor : List (List ℕ) → Memory → Type 0
HasRoomFor names m = length m.outdated + count_by (is_unnoted m.outdated) names < 2048

-- the names of all keys that clients and exchanges have: no step of a turn brings another in, behind its event
pub record HasRoomToNote (p : Parts) : Type 0 where
  pub names : List (List ℕ)
  pub seats : (i : ℕ) (seat : Seat) → slice_get p.seats i ≡ Some seat → AsksAmong names seat
  pub waiting : AllAskAmong names p.flow.waiting
  pub placed : AllAskAmong names p.flow.placed
  pub room : HasRoomFor names p.cache
