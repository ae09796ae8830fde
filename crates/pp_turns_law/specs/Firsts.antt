-- Of all clients for whom something is due, the one that comes first (ours: in the order of their numbers).
use Rattle.std.specs.Prelude.{◌≡◌, ◌⊎◌, ℕ, false, true, List, [], ◌∷◌, ◌++◌, length, slice_get, Option, Some, None, option_map}
use Rattle.std.specs.Option.{option_and_then}
use Rattle.pp_cache_law.specs.Kept.{AreAsKept}
use Rattle.pp_flow_law.specs.Tables.{AreGiven, Leaving}
use Rattle.pp_law.specs.Deciding.{is_for_memory}
use Rattle.pp_law.specs.Due.{Due, first_due}
use Rattle.pp_law.specs.Lists.{Bytes, has_number}
use Rattle.pp_law.specs.State.{State}
use Rattle.pp_law.specs.Table.{row, row_on_disk}
use Rattle.pp_peers.specs.declared.peers.Peer.{Peer}
use Rattle.pp_seats.specs.Heads.{asked_in, owned_in}
use Rattle.pp_seats.specs.Seats.{is_silent}
use Rattle.pp_seats.specs.declared.due.Due.{Due as SeatDue}
use Rattle.pp_seats.specs.declared.due.Due.TheVariants.{Decide as IsDecided}
use Rattle.pp_seats.specs.declared.key.Key.{Key as OwnedKey}
use Rattle.pp_seats.specs.declared.seat.Seat.{Seat}
use Rattle.pp_seats_law.specs.Dues.{due_as}
use Rattle.pp_due.specs.Due.{due_at}
use Rattle.pp_due.specs.Entering.{Comes, FirstDue, IsRefused, is_due_at, key_at}
use Rattle.pp_state.specs.declared.state.State.{State as Turn}
use Rattle.pp_store.specs.Kept.{KeptMap}
use Rattle.pp_turns_law.specs.Rows.{ShowsDisk, with_row_of}
use Rattle.pp_world.specs.declared.note.Decision.{Decision}

-- ---- who is looked at

-- whoever sent no whole head, and may send more, while the clock did not tick
pub record IsAsleep (p : Turn) (seat : Seat) : Type 0 where
  pub silent : is_silent seat ≡ true
  pub ticked : p.is_ticked ≡ false

-- the places of those who are looked at rise; the others are asleep
pub record AreAwake (p : Turn) : Type 0 where
  pub order : AreGiven 0 (length p.seats.items) p.awake.items
  pub others : (i : ℕ) (seat : Seat) → slice_get p.seats.items i ≡ Some seat → has_number i p.awake.items ≡ false → IsAsleep p seat

-- ---- as the program finds it

abbrev pub HasRowInMemory : KeptMap → Option Bytes → Turn → Turn → Type 0
HasRowInMemory shelf None old new = new ≡ old
HasRowInMemory shelf (Some key) old new = Comes shelf key old new

-- what is due of the client at a place, where memory is not refused for its kept row
abbrev pub IsDueInMemory : KeptMap → ℕ → Turn → Turn → Option SeatDue → Type 0
IsDueInMemory shelf i old new due = elim (is_due_at shelf i old) [ true ↦ HasRowInMemory shelf (key_at i old) old new × (due ≡ due_at i new) | false ↦ (new ≡ old) × (due ≡ None) ]

-- and what is due first among the clients at these places
unfoldable pub FirstDueInMemory : KeptMap → List ℕ → Turn → Turn → Option (ℕ × SeatDue) → Type 0
FirstDueInMemory shelf [] old new found = (new ≡ old) × (found ≡ None)
FirstDueInMemory shelf (i ∷ places) old new found =
    (now : Turn) × (due : Option SeatDue) × IsDueInMemory shelf i old now due × (elim due [ Some d ↦ (new ≡ now) × (found ≡ Some (i, d)) | None ↦ FirstDueInMemory shelf places now new found ])

-- or memory is refused for one to whom something is due, before which nothing is
pub record IsRefusedFirst (shelf : KeptMap) (places : List ℕ) (old : Turn) : Type 0 where
  pub before : List ℕ
  pub place : ℕ
  pub behind : List ℕ
  pub parts : places ≡ before ++ place ∷ behind
  pub then : Turn
  pub passed : FirstDueInMemory shelf before old then None
  pub due : is_due_at shelf place then ≡ true
  pub key : Bytes
  pub names : key_at place then ≡ Some key
  pub now : Turn
  pub refused : IsRefused place then now

abbrev pub MemoryIsGivenOrRefused : Type 0
MemoryIsGivenOrRefused = (shelf : KeptMap) (places : List ℕ) (old new : Turn) (found : Option (ℕ × SeatDue)) → FirstDue shelf places old new found → FirstDueInMemory shelf places old new found ⊎ IsRefusedFirst shelf places old

-- ---- it is the law's

-- of the client at that place
abbrev pub first_as : List Seat → Option (ℕ × SeatDue) → Option Due
first_as seats found = option_and_then (λ x. option_map (λ seat. due_as seat.client.id seat.index x.1) (slice_get seats x.0)) found

abbrev pub with_row_if : Option Bytes → State → State
with_row_if None s = s
with_row_if (Some key) s = with_row_of key s

-- the row of the client that is found comes in, and no other
abbrev pub with_its_row : Turn → Option (ℕ × SeatDue) → State → State
with_its_row p None s = s
with_its_row p (Some x) s = with_row_if (key_at x.0 p) s

-- where that is a decision, and not one for want of memory, the row of its key is in memory, if it has one
abbrev pub HasItsRowIn : Turn → State → Option (ℕ × SeatDue) → Type 0
HasItsRowIn p s found = (i : ℕ) (d : Decision) (seat : Seat) (key : OwnedKey) → found ≡ Some (i, IsDecided d) → is_for_memory d ≡ false → slice_get p.seats.items i ≡ Some seat → owned_in (asked_in seat.front) ≡ Some key → row s key.text.items ≡ None
    → row_on_disk s key.text.items ≡ None

-- what is due first in the law is found, also with that row; the turn shows the law's state with it
pub record IsFirst (l : Leaving) (peers : List Peer) (shelf : KeptMap) (p q : Turn) (s : State) (found : Option (ℕ × SeatDue)) : Type 0 where
  pub number : ℕ → ℕ
  pub shows : ShowsDisk number l peers shelf q (with_its_row p found s)
  pub due : first_as q.seats.items found ≡ first_due s
  pub still : first_due (with_its_row p found s) ≡ first_due s
  pub has : HasItsRowIn q (with_its_row p found s) found

abbrev pub FirstDueIsTheLaws : Type 0
FirstDueIsTheLaws = (number : ℕ → ℕ) (l : Leaving) (peers : List Peer) (shelf : KeptMap) (p q : Turn) (s : State) (found : Option (ℕ × SeatDue)) → ShowsDisk number l peers shelf p s → AreAsKept shelf → AreAwake p → FirstDueInMemory shelf p.awake.items p q found
    → IsFirst l peers shelf p q s found
