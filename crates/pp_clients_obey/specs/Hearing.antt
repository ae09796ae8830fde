-- A read of a client is what the law permits, and leads where the law leads (RFC 2616, section 5).
use Rattle.std.specs.Prelude.{◌≡◌, ℕ, ◌≤◌, true, false, List, [], ◌∷◌, length, Some, None, slice_get, slice_set}
use Rattle.pp_client.specs.Requests.{room_of}
use Rattle.pp_world.specs.declared.happening.Happening.TheVariants.{Heard, HungUp, NoneYet}
use Rattle.pp_law.specs.After.{paid}
use Rattle.pp_law.specs.Connections.{on_client}
use Rattle.pp_law.specs.Hearing.{heard_by}
use Rattle.pp_law.specs.Lists.{Bytes}
use Rattle.pp_law.specs.Replies.{end_replies}
use Rattle.pp_law.specs.State.{State, Client, ReadOf}
use Rattle.pp_obeys.specs.Moves.{Leads}
use Rattle.pp_seats.specs.declared.seat.Seat.{Seat}
use Rattle.pp_seats.specs.Seats.{IsRead}
use Rattle.pp_seats_law.specs.Clients.{AreShown, IsAt}
use Rattle.pp_seats_law.specs.Reads.{heard_on}

-- a read of that client is owed, and the seats show the clients
pub record OwesRead (number : ℕ → ℕ) (owed : List Bytes) (n : ℕ) (seats : List Seat) (s : State) : Type 0 where
  pub none : s.has_made_room ≡ None
  pub reads : s.owed ≡ ReadOf n
  pub shown : AreShown number s.settings.name owed seats s.clients

-- the seats show its clients
abbrev pub AreSeen : (ℕ → ℕ) → List Bytes → List Seat → State → Type 0
AreSeen number owed seats s = AreShown number s.settings.name owed seats s.clients

-- the seat of that client, at its place, which is not closing
pub record Sits (n i : ℕ) (seats : List Seat) (seat : Seat) : Type 0 where
  pub at : IsAt n i seats
  pub there : slice_get seats i ≡ Some seat
  pub going : seat.is_closing ≡ false

-- no more came than there was room for
pub record HasCome (seat : Seat) (bytes : Bytes) : Type 0 where
  pub some : 1 ≤ length bytes
  pub within : length bytes ≤ room_of seat.client.heard

-- behind the read the replies end that were said whole, and the seats show the clients as they are before
abbrev pub ReadsLead : Type 0
ReadsLead = (number : ℕ → ℕ) (n i : ℕ) (owed : List Bytes) (seats : List Seat) (seat after : Seat) (bytes : Bytes) (s : State) → Sits n i seats seat → HasCome seat bytes → IsRead (heard_on bytes seat) after → OwesRead number owed n seats s
    → Leads (Heard n bytes ∷ []) s (paid (end_replies (on_client n (heard_by bytes) s))) × AreSeen number owed (slice_set seats i after) (on_client n (heard_by bytes) s)

abbrev pub hung_up : Client → Client
hung_up c = record c { has_hung_up = true }

abbrev pub HangUpsLead : Type 0
HangUpsLead = (number : ℕ → ℕ) (n i : ℕ) (owed : List Bytes) (seats : List Seat) (seat : Seat) (s : State) → Sits n i seats seat → OwesRead number owed n seats s
    → Leads (HungUp n ∷ []) s (paid (end_replies (on_client n hung_up s))) × AreSeen number owed (slice_set seats i (record seat { has_hung_up = true })) (on_client n hung_up s)

abbrev pub NonesLead : Type 0
NonesLead = (number : ℕ → ℕ) (n : ℕ) (owed : List Bytes) (seats : List Seat) (s : State) → OwesRead number owed n seats s → Leads (NoneYet n ∷ []) s (paid s)
