-- What a tick and a wait change of the clients is what the law changes of them (ours).
use Rattle.std.specs.Prelude.{◌≡◌, ℕ, true, false, ◌&&◌, not, map, length, List, [], ◌∷◌, slice_get, Some}
use Rattle.pp_turns_law.specs.Rows.{AreReady, IsReady}
use Rattle.pp_turns_law.specs.Turns.{ShowsTurn}
use Rattle.pp_flow_law.specs.Tables.{AreGiven, Leaving}
use Rattle.pp_law.specs.Lists.{Bytes, has_number}
use Rattle.pp_law.specs.Offers.{has_to_say}
use Rattle.pp_law.specs.Sharing.{is_sharing as shares_by_law}
use Rattle.pp_law.specs.State.{State, Client}
use Rattle.pp_law.specs.Turn.{renew_marks, rested_client, waits_for_exchange as waits_by_law}
use Rattle.pp_peers.specs.declared.peers.Peer.{Peer}
use Rattle.pp_seats.specs.Seats.{is_silent}
use Rattle.pp_seats.specs.declared.seat.Seat.{Seat}
use Rattle.pp_seats_law.specs.Seats.{ShowsSeat}
use Rattle.pp_decide.specs.Sharing.{is_sharing}
use Rattle.pp_state.specs.Ends.{changed_at}
use Rattle.pp_due.specs.Waits.{is_waiting, rested_seat, waits_for_exchange, woken_seat}
use Rattle.pp_state.specs.declared.state.State.{State as Turn}

-- ---- who waits

-- of all seats that show a client, and go on, amid a turn that shows the law's state
abbrev pub OfWaiting : (Turn → State → Seat → Client → Type 0) → Type 0
OfWaiting P = (number : ℕ → ℕ) (l : Leaving) (peers : List Peer) (p : Turn) (s : State) (name : Bytes) (seat : Seat) (c : Client) → ShowsTurn number l peers p s → ShowsSeat number name [] seat c → c.is_closing ≡ false → IsReady number p.cache s.next_instance seat → P p s seat c

-- it shares what another one asks
abbrev pub SharingIsTheLaws : Type 0
SharingIsTheLaws = OfWaiting (λ p s seat c. is_sharing p seat ≡ shares_by_law s c)

-- it waits for an exchange
abbrev pub WaitsAreTheLaws : Type 0
WaitsAreTheLaws = OfWaiting (λ p s seat c. waits_for_exchange p seat ≡ waits_by_law s c)

-- and nothing is there to be said to it
abbrev pub WaitingIsTheLaws : Type 0
WaitingIsTheLaws = OfWaiting (λ p s seat c. is_waiting p seat ≡ (waits_by_law s c && not (has_to_say s c)))

-- ---- of all clients

-- the clients alone are changed
pub record HasSeats (seats : List Seat) (p q : Turn) : Type 0 where
  pub are : q.seats.items ≡ seats
  pub rest : record q { seats = p.seats } ≡ p

-- at a tick, before the clock is set
abbrev pub TicksAreTheLaws : Type 0
TicksAreTheLaws = (number : ℕ → ℕ) (l : Leaving) (peers : List Peer) (p q : Turn) (s : State) (now : ℕ) → ShowsTurn number l peers p s → AreReady number p.cache s.next_instance p.seats.items → HasSeats (map (woken_seat now p) p.seats.items) p q
    → ShowsTurn number l peers q (renew_marks now s)

-- at a wait those at these places, one behind the other
abbrev pub all_rested : Turn → List ℕ → List Seat → List Seat
all_rested p [] seats = seats
all_rested p (i ∷ is) seats = all_rested p is (changed_at i (rested_seat p) seats)

-- the places of those who are looked at rise, and the others are silent
pub record AreLoud (p : Turn) : Type 0 where
  pub order : AreGiven 0 (length p.seats.items) p.awake.items
  pub others : (i : ℕ) (seat : Seat) → slice_get p.seats.items i ≡ Some seat → has_number i p.awake.items ≡ false → is_silent seat ≡ true

abbrev pub with_rested : State → State
with_rested s = record s { clients = map (rested_client s) s.clients }

abbrev pub RestingIsTheLaws : Type 0
RestingIsTheLaws = (number : ℕ → ℕ) (l : Leaving) (peers : List Peer) (p q : Turn) (s : State) → ShowsTurn number l peers p s → AreLoud p → AreReady number p.cache s.next_instance p.seats.items → HasSeats (all_rested p p.awake.items p.seats.items) p q
    → ShowsTurn number l peers q (with_rested s)
