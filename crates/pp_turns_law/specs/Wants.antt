-- What stands in the wants at a wait, of the clients, is what has to stand there by the law (ours).
use Rattle.std.specs.Prelude.{◌≡◌, ℕ, Bool, true, false, ◌&&◌, not, nat_lt, List, length, slice_get, filter, Some}
use Rattle.std.specs.List.{list_all}
use Rattle.pp_client.specs.Requests.{room_of}
use Rattle.pp_turns_law.specs.Turns.{IsFollowing, ShowsTurn}
use Rattle.pp_flow_law.specs.Tables.{Leaving}
use Rattle.pp_law.specs.Asking.{has_room}
use Rattle.pp_law.specs.Lists.{has_number}
use Rattle.pp_law.specs.Offers.{has_to_say}
use Rattle.pp_law.specs.Served.{accepts, may_read, may_write}
use Rattle.pp_law.specs.State.{State, Client}
use Rattle.pp_peers.specs.declared.peers.Peer.{Peer}
use Rattle.pp_seats.specs.Seats.{is_silent}
use Rattle.pp_seats.specs.declared.seat.Seat.{Seat}
use Rattle.pp_due.specs.Due.{is_dry}
use Rattle.pp_state.specs.Ends.{numbers_of}
use Rattle.pp_state.specs.declared.state.State.{State as Turn}

-- ---- as it is written down

-- it may send more, and there is room for what it sends
abbrev pub is_read : Seat → Bool
is_read seat = not seat.has_hung_up && nat_lt 0 (room_of seat.client.heard)

-- something is left to say to it; to one that is silent nothing is
abbrev pub is_written : Turn → Seat → Bool
is_written p seat = not (is_silent seat) && not (is_dry p seat)

-- the numbers of those, in their order
abbrev pub numbers_with : (Seat → Bool) → List Seat → List ℕ
numbers_with test seats = numbers_of (filter test seats)

-- ---- at the end of a turn

-- no client is closing any more, and what each follows is there
pub record ShowsEnd (number : ℕ → ℕ) (l : Leaving) (peers : List Peer) (p : Turn) (s : State) : Type 0 where
  pub turn : ShowsTurn number l peers p s
  pub going : (i : ℕ) (c : Client) → slice_get s.clients i ≡ Some c → c.is_closing ≡ false
  pub follows : (i : ℕ) (seat : Seat) → slice_get p.seats.items i ≡ Some seat → IsFollowing p.cache seat

-- of all that do
abbrev pub OfEnds : ((ℕ → ℕ) → Turn → State → Type 0) → Type 0
OfEnds P = (number : ℕ → ℕ) (l : Leaving) (peers : List Peer) (p : Turn) (s : State) → ShowsEnd number l peers p s → P number p s

-- one client more is accepted
abbrev pub AcceptsAreTheLaws : Type 0
AcceptsAreTheLaws = OfEnds (λ number p s. nat_lt (length p.seats.items) 256 ≡ accepts s)

-- a client is written to where there is something to say to it
abbrev pub WritesAreTheLaws : Type 0
WritesAreTheLaws = OfEnds (λ number p s. (i : ℕ) (c : Client) → slice_get s.clients i ≡ Some c → has_number c.number (numbers_with (is_written p) p.seats.items) ≡ has_to_say s c)

-- and is read where it may send more, and there is room
abbrev pub ReadsAreTheLaws : Type 0
ReadsAreTheLaws = OfEnds (λ number p s. (i : ℕ) (c : Client) → slice_get s.clients i ≡ Some c → has_number c.number (numbers_with is_read p.seats.items) ≡ (not c.has_hung_up && has_room c))

-- and no other is
abbrev pub NoMoreIsWritten : Type 0
NoMoreIsWritten = OfEnds (λ number p s. list_all (may_write s) (numbers_with (is_written p) p.seats.items) ≡ true)

abbrev pub NoMoreIsRead : Type 0
NoMoreIsRead = OfEnds (λ number p s. list_all (may_read s) (numbers_with is_read p.seats.items) ≡ true)
