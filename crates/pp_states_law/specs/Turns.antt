-- How a turn begins: a client is accepted, and the clock ticks.
use Rattle.std.specs.Prelude.{◌≡◌, ◌≤◌, ℕ, true, false, [], ◌∷◌, ◌++◌, map, count_by, find, slice_get, slice_set, Some, None}
use Rattle.pp_client.specs.Clients.{new_client as new_side}
use Rattle.pp_law.specs.After.{opened}
use Rattle.pp_law.specs.Connections.{client, conn, is_conn}
use Rattle.pp_law.specs.Turn.{is_leap, marks_anew, touch}
use Rattle.pp_peers.specs.Peers.{is_number, with_peer}
use Rattle.pp_peers.specs.declared.peers.Peer.{Peer}
use Rattle.pp_seats.specs.Seats.{new_seat}
use Rattle.pp_seats.specs.declared.account.Account.{Account}
use Rattle.pp_seats.specs.declared.seat.Seat.{Seat}
use Rattle.pp_seats_law.specs.Clients.{IsAt}
use Rattle.pp_states_law.specs.States.{OfStates, Parts, ShowsState}

-- it has the last of the seats, whether its replies are logged or not
abbrev pub OpensAreTheLaws : Type 0
OpensAreTheLaws = OfStates (λ number name owed l p s. (n : ℕ) (account : Account) → ShowsState number name owed l (record p { seats = p.seats ++ record (new_seat (new_side n s.clock)) { account = account } ∷ [] }) (opened n s))

-- all wait their patience anew
abbrev pub marked_seat : ℕ → Seat → Seat
marked_seat now seat = record seat { client = record seat.client { mark = now } }

abbrev pub marked_peer : ℕ → Peer → Peer
marked_peer now peer = record peer { mark = now }

abbrev pub all_marked : ℕ → Parts → Parts
all_marked now p = record p { seats = map (marked_seat now) p.seats; peers = map (marked_peer now) p.peers }

-- where the clock leaps
abbrev pub LeapsAreTheLaws : Type 0
LeapsAreTheLaws = OfStates (λ number name owed l p s. (now : ℕ) → ShowsState number name owed l (elim (is_leap now s) [ true ↦ all_marked now p | false ↦ p ]) (marks_anew now s))

-- the clock itself is no part of what is shown
abbrev pub ClocksAreTheLaws : Type 0
ClocksAreTheLaws = OfStates (λ number name owed l p s. (now : ℕ) → ShowsState number name owed l p (record s { clock = now; is_ticked = true; has_lost_draft = false }))

-- an event comes on the connection of a client, or of an origin: it is not idle
abbrev pub TouchesAreTheLaws : Type 0
TouchesAreTheLaws = OfStates (λ number name owed l p s. (n i : ℕ) (seat : Seat) → IsAt n i p.seats → slice_get p.seats i ≡ Some seat → conn s n ≡ None
    → ShowsState number name owed l (record p { seats = slice_set p.seats i (marked_seat s.clock seat) }) (touch n s))

abbrev pub OriginTouchesAreTheLaws : Type 0
OriginTouchesAreTheLaws = OfStates (λ number name owed l p s. (n : ℕ) (peer : Peer) → count_by (is_conn n) s.conns ≤ 1 → find (is_number n) p.peers ≡ Some peer → client s n ≡ None
    → ShowsState number name owed l (record p { peers = with_peer n (marked_peer s.clock peer) p.peers }) (touch n s))
