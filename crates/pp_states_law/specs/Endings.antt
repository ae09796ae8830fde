-- A response is whole: the exchange that stands first in the line of its connection is over (RFC 2616, sections 8.1 and 8.1.2.2).
use Rattle.std.specs.Prelude.{◌≡◌, ℕ, true, false, List, ◌∷◌, find, Some}
use Rattle.pp_flow.specs.Changes.{without}
use Rattle.pp_flow_law.specs.Frames.{emptied, still}
use Rattle.pp_head.specs.Response.{Response}
use Rattle.pp_law.specs.Connections.{conn, end_exchange, exchange, is_outstanding, on_conn}
use Rattle.pp_law.specs.Responses.{rested}
use Rattle.pp_law.specs.State.{State, Conn, Exchange}
use Rattle.pp_peers.specs.Peers.{is_number, with_peer}
use Rattle.pp_peers.specs.declared.peers.Peer.{Peer}
use Rattle.pp_peers_law.specs.Peers.{has_alone}
use Rattle.pp_pipe.specs.Front.{fate_of, stays_open}
use Rattle.pp_pipe.specs.Line.{Line, answered}
use Rattle.pp_pipe.specs.Reading.{behind_it}
use Rattle.pp_states_law.specs.Decisions.{AreApart}
use Rattle.pp_states_law.specs.States.{OfStates, Parts, ShowsState}

-- its text was asked whole, on a connection that goes on
pub record IsFirst (p : Parts) (s : State) (peer : Peer) (k : Conn) (e : Exchange) (others : List ℕ) : Type 0 where
  pub linked : find (is_number k.number) p.peers ≡ Some peer
  pub there : conn s k.number ≡ Some k
  pub goes_on : k.is_closing ≡ false
  pub line : k.line ≡ e.number ∷ others
  pub known : exchange s e.number ≡ Some e
  pub whole : is_outstanding e ≡ true

abbrev pub without_first : ℕ → Parts → Parts
without_first n p = record p { flow = record p.flow { waiting = without n p.flow.waiting; placed = without n p.flow.placed } }

-- the connection rests behind a response that does not end it. Others stand behind it where it may be pipelined: else none that goes alone
abbrev pub RestsAreTheLaws : Type 0
RestsAreTheLaws = OfStates (λ number name owed l p s. (peer : Peer) (k : Conn) (e : Exchange) (others : List ℕ) (head : Response) → AreApart s → IsFirst p s peer k e others → (k.may_pipeline ≡ false → has_alone s others ≡ false) → stays_open head ≡ true
    → ShowsState number name owed l (record (without_first e.number p) {
      peers = with_peer k.number (record peer { pipe = record (answered (fate_of head) peer.pipe) { reading = behind_it (fate_of head) }; has_brought = true }) p.peers;
    }) (on_conn k.number (rested head) (end_exchange e.number s)))

-- it is closed behind it, whatever its pipe is then: the others of its line still have to leave it
abbrev pub ClosesBehindAreTheLaws : Type 0
ClosesBehindAreTheLaws = OfStates (λ number name owed l p s. (peer : Peer) (k : Conn) (e : Exchange) (others : List ℕ) (head : Response) (pipe : Line) → AreApart s → IsFirst p s peer k e others
    → ShowsState number name owed (still k.number others l) (record (without_first e.number p) {
      peers = with_peer k.number (record peer { pipe = pipe; has_brought = true; is_closing = true }) p.peers;
    }) (on_conn k.number emptied (on_conn k.number (rested head) (end_exchange e.number s))))
