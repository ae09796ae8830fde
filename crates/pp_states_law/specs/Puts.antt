-- An exchange gets a place (RFC 2616, sections 8.1.2.2 and 8.1.4).
use Rattle.std.specs.Prelude.{◌≡◌, true, false, find, Some}
use Rattle.pp_flow.specs.Changes.{placed_on, with_errand}
use Rattle.pp_flow.specs.Entries.{is_number as is_entry}
use Rattle.pp_flow.specs.declared.entry.Entry.{Entry}
use Rattle.pp_law.specs.Connections.{conn, exchange, put_on}
use Rattle.pp_law.specs.Requests.{goes_alone}
use Rattle.pp_law.specs.Responses.{asks_head}
use Rattle.pp_law.specs.State.{State, Conn, Exchange}
use Rattle.pp_peers.specs.Peers.{is_number, with_pipe}
use Rattle.pp_peers.specs.declared.peers.Peer.{Peer}
use Rattle.pp_pipe.specs.Line.{pushed}
use Rattle.pp_states_law.specs.Decisions.{AreApart}
use Rattle.pp_states_law.specs.States.{OfStates, Parts, ShowsState}

-- it waits for one, and does not go alone where others are asked; the connection is there, and goes on
pub record IsPut (p : Parts) (s : State) (x : Entry) (e : Exchange) (peer : Peer) (k : Conn) : Type 0 where
  pub waits : find (is_entry e.number) p.flow.waiting ≡ Some x
  pub known : exchange s e.number ≡ Some e
  pub with_others : k.may_pipeline ≡ true → goes_alone e.head ≡ false
  pub linked : find (is_number k.number) p.peers ≡ Some peer
  pub there : conn s k.number ≡ Some k
  pub goes_on : k.is_closing ≡ false

-- it is the last of that line, and is asked from the front of its text on
abbrev pub PutsAreTheLaws : Type 0
PutsAreTheLaws = OfStates (λ number name owed l p s. (x : Entry) (e : Exchange) (peer : Peer) (k : Conn) → AreApart s → IsPut p s x e peer k
    → ShowsState number name owed l (record p {
      flow = with_errand e.number (record x.errand { asked = 0 }) (placed_on k.number e.number p.flow);
      peers = with_pipe k.number (pushed e.text (asks_head e) peer.pipe) p.peers;
    }) (put_on e.number k.number s))
