-- Bytes that are said to a client are what the law permits, and lead where the law leads (RFC 2616, section 6).
use Rattle.std.specs.Prelude.{◌≡◌, ℕ, ◌≤◌, true, false, List, [], ◌∷◌, length, Some, None, slice_set}
use Rattle.pp_client.specs.Replies.{is_said, left_next, said}
use Rattle.pp_world.specs.declared.happening.Happening.TheVariants.{Said}
use Rattle.pp_law.specs.After.{paid}
use Rattle.pp_law.specs.Connections.{client, on_client}
use Rattle.pp_law.specs.Lists.{Bytes}
use Rattle.pp_law.specs.Offers.{offer}
use Rattle.pp_law.specs.Permits.{is_said_of}
use Rattle.pp_law.specs.Replies.{end_replies, said_by, use_said}
use Rattle.pp_law.specs.State.{State, Client, WriteTo}
use Rattle.pp_obeys.specs.Moves.{Leads}
use Rattle.pp_seats.specs.declared.seat.Seat.{Seat}
use Rattle.pp_seats.specs.Seats.{told_by}
use Rattle.pp_seats_law.specs.Clients.{AreShown}
use Rattle.pp_clients_obey.specs.Hearing.{AreSeen, Sits}

-- a write to that client is owed, the seats show the clients, and of what is there to be said these are the first, of so many that
-- were offered
pub record OwesWrite (number : ℕ → ℕ) (owed : List Bytes) (n offered : ℕ) (bytes : Bytes) (seats : List Seat) (s : State) : Type 0 where
  pub none : s.has_made_room ≡ None
  pub writes : s.owed ≡ WriteTo n
  pub shown : AreShown number s.settings.name owed seats s.clients
  pub first : (c : Client) → client s n ≡ Some c → is_said_of offered bytes (offer s c) ≡ true

-- some of what stands next, and not the last of the reply
pub record LeavesSome (seat : Seat) (bytes : Bytes) : Type 0 where
  pub few : length bytes ≤ left_next seat.client.reply
  pub more : is_said (said (length bytes) seat.client.reply) ≡ false

-- as the law has it, before the replies end that were said whole
abbrev pub told_to : ℕ → ℕ → Client → State → State
told_to k n c s = on_client n (said_by k) (use_said k c s)

abbrev pub WritesLead : Type 0
WritesLead = (number : ℕ → ℕ) (n i offered : ℕ) (owed : List Bytes) (seats : List Seat) (seat : Seat) (bytes : Bytes) (c : Client) (s : State) → client s n ≡ Some c → Sits n i seats seat → LeavesSome seat bytes → OwesWrite number owed n offered bytes seats s
    → Leads (Said n offered bytes ∷ []) s (paid (end_replies (told_to (length bytes) n c s))) × AreSeen number owed (slice_set seats i (told_by (length bytes) seat)) (told_to (length bytes) n c s)
