-- Who is waited for is marked anew at a tick, and noted at the end of a turn.
use Rattle.std.specs.Prelude.{◌≡◌, ℕ, Bool, false, ◌&&◌, not, if◌then◌else◌, List, map, slice_get, Some}
use Rattle.pp_law.specs.Lists.{Bytes}
use Rattle.pp_law.specs.Offers.{has_to_say}
use Rattle.pp_law.specs.State.{State, Client, Conn}
use Rattle.pp_law.specs.Turn.{is_waited_for, renew_marks, rested_conn, waits_for_exchange}
use Rattle.pp_peers.specs.declared.peers.Peer.{Peer}
use Rattle.pp_peers_law.specs.Peers.{ShowsConn}
use Rattle.pp_seats.specs.declared.seat.Seat.{Seat}
use Rattle.pp_seats_law.specs.Seats.{ShowsSeat}
use Rattle.pp_states_law.specs.States.{OfStates, Parts, ShowsState}
use Rattle.pp_states_law.specs.Turns.{marked_seat}
use Rattle.pp_world.specs.declared.event.Wants.{Wants}

-- of each that is not closing the program tells as the law whether it waits for an exchange, and has nothing to say
abbrev pub TellsWhoWaits : (ℕ → ℕ) → Bytes → List Bytes → Parts → State → (Seat → Bool) → Type 0
TellsWhoWaits number name owed p s waits = (i : ℕ) (seat : Seat) (c : Client) → slice_get p.seats i ≡ Some seat → slice_get s.clients i ≡ Some c → ShowsSeat number name owed seat c → c.is_closing ≡ false
    → waits seat ≡ (waits_for_exchange s c && not (has_to_say s c))

abbrev pub marked_if : (Seat → Bool) → ℕ → Seat → Seat
marked_if waits now seat = if waits seat then marked_seat now seat else seat

abbrev pub RenewalsAreTheLaws : Type 0
RenewalsAreTheLaws = OfStates (λ number name owed l p s. (now : ℕ) (waits : Seat → Bool) → TellsWhoWaits number name owed p s waits → ShowsState number name owed l (record p { seats = map (marked_if waits now) p.seats }) (renew_marks now s))

-- and of each connection whether it is waited for
abbrev pub TellsWhatIsWaitedFor : Parts → State → Wants → (Peer → Bool) → Type 0
TellsWhatIsWaitedFor p s w waited = (i : ℕ) (peer : Peer) (k : Conn) → slice_get p.peers i ≡ Some peer → slice_get s.conns i ≡ Some k → ShowsConn s peer k → waited peer ≡ is_waited_for w k

abbrev pub rested_peer : (Peer → Bool) → ℕ → Peer → Peer
rested_peer waited now peer = record peer { has_waited = waited peer; mark = if waited peer && peer.has_waited then peer.mark else now }

-- it waits from then on where it did not before
abbrev pub RestingAreTheLaws : Type 0
RestingAreTheLaws = OfStates (λ number name owed l p s. (w : Wants) (waited : Peer → Bool) → TellsWhatIsWaitedFor p s w waited
    → ShowsState number name owed l (record p { peers = map (rested_peer waited s.clock) p.peers }) (record s { conns = map (rested_conn s w) s.conns }))
