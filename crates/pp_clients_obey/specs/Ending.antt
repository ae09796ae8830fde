-- The last bytes of a reply are what the law permits, and behind them the next request stands, or the client is closed (RFC 2616,
-- sections 6, 8.1 and 8.1.2.2).
use Rattle.std.specs.Prelude.{◌≡◌, ℕ, ◌+◌, ◌-◌, ◌^◌, ◌≤◌, Bool, true, false, ◌==◌, List, [], ◌∷◌, length, Option, Some, None, slice_get, slice_set, ⊤}
use Rattle.pp_client.specs.Replies.{is_said, left_next, said}
use Rattle.pp_world.specs.declared.happening.Happening.TheVariants.{Said}
use Rattle.pp_law.specs.After.{paid}
use Rattle.pp_law.specs.Connections.{client}
use Rattle.pp_law.specs.Lists.{Bytes}
use Rattle.pp_law.specs.Replies.{end_replies}
use Rattle.pp_law.specs.State.{State, Client}
use Rattle.pp_obeys.specs.Moves.{Leads}
use Rattle.pp_seats.specs.declared.front.Asked.{Asked}
use Rattle.pp_seats.specs.declared.seat.Seat.{Seat}
use Rattle.pp_seats.specs.Heads.{asked_in}
use Rattle.pp_seats.specs.Seats.{IsRead, at_next_request, finished_in, told_by}
use Rattle.pp_seats_law.specs.Clients.{IsAt}
use Rattle.pp_clients_obey.specs.Closing.{IsClosed}
use Rattle.pp_clients_obey.specs.Hearing.{AreSeen, Sits}
use Rattle.pp_clients_obey.specs.Saying.{OwesWrite, told_to}

-- ---- the others

-- its reply is not over, and something that it sent is left to answer, or more may come
pub record IsSettled (seat : Seat) : Type 0 where
  pub said : seat.is_closing ≡ false → is_said seat.client.reply ≡ false
  pub finished : finished_in seat ≡ false

-- all but the client of this number
abbrev pub AreSettledBut : ℕ → List Seat → Type 0
AreSettledBut n [] = ⊤
AreSettledBut n (seat ∷ seats) = ((seat.client.id == n) ≡ false → IsSettled seat) × AreSettledBut n seats

-- ---- a client of whom nothing is left to answer

-- it is closed where nothing is left, and else stays as it is
abbrev pub IsLeftAs : Bool → Seat → Seat → Type 0
IsLeftAs false seat new = new ≡ seat
IsLeftAs true seat new = IsClosed seat new

-- behind a read, or bytes that were said, as long as its reply is not over
abbrev pub RestsAreTheLaws : Type 0
RestsAreTheLaws = (number : ℕ → ℕ) (n i : ℕ) (owed : List Bytes) (seats : List Seat) (seat new : Seat) (s : State) → IsAt n i seats → slice_get seats i ≡ Some seat → AreSettledBut n seats → (seat.is_closing ≡ false → is_said seat.client.reply ≡ false)
    → IsLeftAs (finished_in seat) seat new → AreSeen number owed seats s → AreSeen number owed (slice_set seats i new) (end_replies s)

-- ---- the last bytes

pub record LeavesNone (seat : Seat) (bytes : Bytes) : Type 0 where
  pub few : length bytes ≤ left_next seat.client.reply
  pub all : is_said (said (length bytes) seat.client.reply) ≡ true

abbrev pub keeps_open_in : Option Asked → Bool
keeps_open_in None = false
keeps_open_in (Some a) = a.keeps_open

-- its reply is not the last, and requests can be counted still
pub record GoesOn (seat : Seat) : Type 0 where
  pub stays : seat.closes ≡ false
  pub keeps : keeps_open_in (asked_in seat.front) ≡ true
  pub counted : seat.index + 1 ≤ 2 ^ 64 - 1

-- the next request stands, or nothing is left
abbrev pub EndsLead : Type 0
EndsLead = (number : ℕ → ℕ) (n i offered : ℕ) (owed : List Bytes) (seats : List Seat) (seat next after : Seat) (bytes : Bytes) (c : Client) (s : State) → client s n ≡ Some c → Sits n i seats seat → AreSettledBut n seats → LeavesNone seat bytes → GoesOn seat
    → IsRead (at_next_request (told_by (length bytes) seat)) next → IsLeftAs (finished_in next) next after → OwesWrite number owed n offered bytes seats s
    → Leads (Said n offered bytes ∷ []) s (paid (end_replies (told_to (length bytes) n c s))) × AreSeen number owed (slice_set seats i after) (end_replies (told_to (length bytes) n c s))

-- behind the last reply the client is closed
abbrev pub LastsLead : Type 0
LastsLead = (number : ℕ → ℕ) (n i offered : ℕ) (owed : List Bytes) (seats : List Seat) (seat after : Seat) (bytes : Bytes) (c : Client) (s : State) → client s n ≡ Some c → Sits n i seats seat → AreSettledBut n seats → LeavesNone seat bytes → seat.closes ≡ true
    → IsClosed seat after → OwesWrite number owed n offered bytes seats s
    → Leads (Said n offered bytes ∷ []) s (paid (end_replies (told_to (length bytes) n c s))) × AreSeen number owed (slice_set seats i after) (end_replies (told_to (length bytes) n c s))
