-- Bytes are asked on a connection (RFC 2616, sections 5 and 8.2).
use Rattle.std.specs.Prelude.{◌≡◌, ◌≤◌, ◌+◌, ◌-◌, ℕ, true, false, length, find, slice_get, slice_set, Some}
use Rattle.pp_client.specs.Requests.{body_in, body_taken}
use Rattle.pp_flow.specs.Changes.{entry_of, with_errand}
use Rattle.pp_flow.specs.declared.entry.Entry.{Entry}
use Rattle.pp_law.specs.Asking.{ask, asking, left_to_ask}
use Rattle.pp_law.specs.Connections.{conn, is_outstanding}
use Rattle.pp_law.specs.State.{State, Conn, Exchange}
use Rattle.pp_peers.specs.Peers.{is_number, with_pipe}
use Rattle.pp_peers.specs.declared.peers.Peer.{Peer}
use Rattle.pp_pipe.specs.Line.{taken}
use Rattle.pp_seats.specs.declared.seat.Seat.{Seat}
use Rattle.pp_seats_law.specs.Clients.{IsAt}
use Rattle.pp_states_law.specs.Decisions.{AreApart}
use Rattle.pp_states_law.specs.States.{OfStates, Parts, ShowsState}

-- the exchange is asked next on this connection, which goes on
pub record IsNext (p : Parts) (s : State) (x : Entry) (e : Exchange) (k : Conn) : Type 0 where
  pub entry : entry_of e.number p.flow ≡ Some x
  pub there : conn s k.number ≡ Some k
  pub next : asking s k.number ≡ Some e
  pub goes_on : k.is_closing ≡ false

-- so many bytes of its text, of those that are left
abbrev pub TextsAreTheLaws : Type 0
TextsAreTheLaws = OfStates (λ number name owed l p s. (m : ℕ) (x : Entry) (e : Exchange) (peer : Peer) (k : Conn) → AreApart s → find (is_number k.number) p.peers ≡ Some peer → IsNext p s x e k → is_outstanding e ≡ false → m ≤ length (left_to_ask s e)
    → ShowsState number name owed l (record p {
      flow = with_errand e.number (record x.errand { asked = x.errand.asked + m; requested = s.clock }) p.flow;
      peers = with_pipe k.number (taken m peer.pipe) p.peers;
    }) (ask k.number m s))

-- of the body of its request, which its client sends: so many of the bytes that are there of it
abbrev pub asked_of : ℕ → Seat → Seat
asked_of m seat = record seat { client = record seat.client { heard = body_taken m seat.client.heard }; body_left = seat.body_left - m }

abbrev pub BodiesAreTheLaws : Type 0
BodiesAreTheLaws = OfStates (λ number name owed l p s. (n i m : ℕ) (seat : Seat) (x : Entry) (e : Exchange) (k : Conn) → IsNext p s x e k → is_outstanding e ≡ true → e.asker ≡ Some n → IsAt n i p.seats → slice_get p.seats i ≡ Some seat
    → m ≤ length (body_in seat.client.heard)
    → ShowsState number name owed l (record p {
      seats = slice_set p.seats i (asked_of m seat);
      flow = with_errand e.number (record x.errand { body_left = x.errand.body_left - m }) p.flow;
    }) (ask k.number m s))
