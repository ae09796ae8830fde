-- What rounds rest on of a turn, beside what stands and a log that obeys the law (ours).
use Rattle.std.specs.Prelude.{◌≡◌, ◌≤◌, ◌+◌, ◌-◌, ◌^◌, ℕ, false, length, List, slice_get, Some}
use Rattle.std.specs.List.{list_any}
use Rattle.pp_turns_law.specs.Unread.{IsCountedOn}
use Rattle.pp_law.specs.Connections.{conn}
use Rattle.pp_law.specs.State.{State, Conn}
use Rattle.pp_law.specs.Store.{is_closed}
use Rattle.pp_seats.specs.Dues.{is_refused_in}
use Rattle.pp_seats.specs.declared.seat.Seat.{Seat}
use Rattle.pp_shelf_law.specs.Shelf.{ShowsShelf}
use Rattle.pp_state.specs.declared.state.State.{State as Turn}
use Rattle.pp_store.specs.Kept.{KeptMap}

-- memory was refused for no row that an exchange brought to any of these clients that goes on: a life in which it was goes astray
abbrev pub NoneIsRefused : List Seat → Type 0
NoneIsRefused seats = (i : ℕ) (seat : Seat) → slice_get seats i ≡ Some seat → seat.is_closing ≡ false → is_refused_in seat.brought ≡ false

-- of followers and dials
pub record RestsOn (shelf : KeptMap) (p : Turn) (s : State) : Type 0 where
  pub given : NoneIsRefused p.seats.items
  -- the shelf shows the law's entries, none of which has a closed name: as Keeping is left (Stands.`StandsToKeep` of pp_keeps_law), and rounds leave it
  pub shows : ShowsShelf shelf s
  pub names : list_any (λ e. is_closed s e.name) s.entries ≡ false

-- no count ends at 2 ^ 64: there is a number for an exchange of each that is looked at. A premise of the life
abbrev pub HasNumbers : Turn → State → Type 0
HasNumbers p s = s.next_exchange + length p.awake.items ≤ 2 ^ 64 - 1

-- as much is counted of what is dropped as came: Supplies.`RoundSupplies` of pp_rounds_law, `counted`
abbrev pub AreCounted : Turn → State → Type 0
AreCounted p s = (n : ℕ) (k : Conn) → conn s n ≡ Some k → IsCountedOn p.flow k
