-- What is waited for of connections to origins at the end of a turn is what the law has to be waited for, and what a wait changes of the
-- table is what the law changes of it (ours).
--
-- Where the premises come from: `AreApart` is `apart` of `IsSoundTurn` (pp_laws_turn), `short` its `bounded`, `alone` its `bodies` with its
-- `by_itself`. Of connections that are closing none is left when a turn ends (`goes_on`: they are dropped before). `AreLoud` is the clause
-- of pp_turns_law; `going` and `follows` of `ShowsEnd` are of `close_over` and of `sources`.
use Rattle.std.specs.Prelude.{◌≡◌, ◌≤◌, ◌==◌, ℕ, ◌&&◌, not, true, false, length, map, slice_get, List, [], ◌∷◌, Some}
use Rattle.pp_flow_law.specs.Tables.{none_leaves}
use Rattle.pp_law.specs.Connections.{exchange, front_of_line}
use Rattle.pp_law.specs.Lists.{has_number, is_some_with}
use Rattle.pp_law.specs.Served.{has_to_ask, is_held_back, is_stopped, reads_rightly, wants_read}
use Rattle.pp_law.specs.State.{State, Conn, Exchange}
use Rattle.pp_law.specs.Turn.{rested_instance}
use Rattle.pp_law.specs.Unseen.{rested_exchange}
use Rattle.pp_peers.specs.declared.peers.Peer.{Peer}
use Rattle.pp_state.specs.Ends.{parts}
use Rattle.pp_state.specs.Unseen.{all_rested}
use Rattle.pp_state.specs.declared.state.State.{State as Turn}
use Rattle.pp_states_law.specs.Decisions.{AreApart}
use Rattle.pp_states_law.specs.States.{OfStates, ShowsState}
use Rattle.pp_states_law.specs.Steps.{ShowsSteps}
use Rattle.pp_turns_law.specs.Marks.{AreLoud, with_rested}
use Rattle.pp_turns_law.specs.Wants.{ShowsEnd}
use Rattle.pp_wants.specs.Awaited.{is_asked, is_read}
use Rattle.pp_world.specs.declared.event.Wants.{Wants}

-- ---- who is read

-- a connection that was reached, unless reading stops for the first exchange of its line: by the law for who is written to
abbrev pub OriginsAreReadAsTheLaws : Type 0
OriginsAreReadAsTheLaws = (number : ℕ → ℕ) (peers : List Peer) (p : Turn) (s : State) (i : ℕ) (peer : Peer) (k : Conn) → ShowsEnd number none_leaves peers p s → AreLoud p → AreApart s → slice_get peers i ≡ Some peer → slice_get s.conns i ≡ Some k
    → is_read p.awake.items (parts p) peer ≡ (k.is_reached && not (is_some_with (is_stopped s) (front_of_line s k)))

-- of the law: one that is read so is read rightly, where reading that stops does for somebody who is written to
abbrev pub ReadsAreRight : Type 0
ReadsAreRight = (s : State) (w : Wants) (k : Conn) → wants_read w k.number ≡ not (is_some_with (is_stopped s) (front_of_line s k)) → ((e : Exchange) → front_of_line s k ≡ Some e → is_stopped s e ≡ true → is_held_back s w e ≡ true) → reads_rightly s w k ≡ true

-- ---- who is asked

-- no line is longer than the program looks, and one whose request's body is left to ask is alone in its line
pub record MayBeAsked (s : State) (k : Conn) : Type 0 where
  pub goes_on : k.is_closing ≡ false
  pub short : length k.line ≤ 16
  pub alone : (m : ℕ) (e : Exchange) → has_number m k.line ≡ true → exchange s m ≡ Some e → (e.body_left == 0) ≡ false → k.line ≡ m ∷ []

-- a connection that was reached, where something of its line is there to be asked
abbrev pub OriginsAreAskedAsTheLaws : Type 0
OriginsAreAskedAsTheLaws = (number : ℕ → ℕ) (peers : List Peer) (p : Turn) (s : State) (i : ℕ) (peer : Peer) (k : Conn) → ShowsEnd number none_leaves peers p s → AreApart s → slice_get peers i ≡ Some peer → slice_get s.conns i ≡ Some k → MayBeAsked s k
    → is_asked (parts p) peer ≡ (k.is_reached && has_to_ask s k)

-- ---- behind a wait

-- how far each body is wanted is where the furthest of its followers stands
abbrev pub with_wanted : State → State
with_wanted s = record s { exchanges = map (rested_exchange s) s.exchanges }

abbrev pub ExchangesRestAsTheLaws : Type 0
ExchangesRestAsTheLaws = (number : ℕ → ℕ) (peers : List Peer) (p : Turn) (s : State) → ShowsEnd number none_leaves peers p s → AreLoud p
    → ShowsSteps number p.name.items none_leaves peers (record (parts p) { flow = all_rested p.awake.items p.seats.items p.flow }) (with_wanted s)

-- of the law: it is the same behind the change of the clients, which the program makes before
abbrev pub WantedBehindClients : Type 0
WantedBehindClients = (s : State) (e : Exchange) → rested_exchange (with_rested s) e ≡ rested_exchange s e

-- no instance is new: that is no part of what is shown
abbrev pub InstancesRestAsTheLaws : Type 0
InstancesRestAsTheLaws = OfStates (λ number name owed l p s. ShowsState number name owed l p (record s { instances = map rested_instance s.instances }))
