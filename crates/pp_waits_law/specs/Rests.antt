-- Behind a wait the turn has what the law has: who shares an ask waits for its exchange, it is noted which connections were waited for, and
-- how far each body is wanted; no client and no instance is new (ours).
--
-- Where the premises come from: all of `StandsToWait` is of the end of a turn (Ends.`HasEnded` of pp_rounds_law). In the wants clients stand
-- first, and origins behind them (`all_got` of pp_wants, which adds to what is read of clients): no number of the front is an origin's, as no
-- two connections have one number.
use Rattle.std.specs.Prelude.{◌≡◌, ℕ, false, take, List, slice_get, Some}
use Rattle.pp_desk.specs.Closings.{peer_numbers}
use Rattle.pp_desk.specs.declared.desk.Desk.{Desk}
use Rattle.pp_flow_law.specs.Tables.{none_leaves}
use Rattle.pp_law.specs.Lists.{has_number}
use Rattle.pp_law.specs.Phases.{has_closings}
use Rattle.pp_law.specs.State.{State, Awaiting, Free}
use Rattle.pp_law.specs.Turn.{rest_with}
use Rattle.pp_peers.specs.declared.peers.Peer.{Peer}
use Rattle.pp_proxy.specs.Awaiting.{Awaits, Rests}
use Rattle.pp_state.specs.Ends.{numbers_of}
use Rattle.pp_turns_law.specs.Firsts.{AreAwake}
use Rattle.pp_turns_law.specs.Marks.{AreLoud}
use Rattle.pp_turns_law.specs.Rows.{AreReady}
use Rattle.pp_turns_law.specs.Turns.{ShowsTurn}
use Rattle.pp_world.specs.declared.event.Wants.{Wants}

-- ---- where it waits

-- the turn shows the law's state, each client can be decided, and nobody is closing any more
pub record StandsToWait (number : ℕ → ℕ) (d : Desk) (s : State) : Type 0 where
  pub turn : ShowsTurn number none_leaves d.peers d.state s
  pub ready : AreReady number d.state.cache s.next_instance d.state.seats.items
  pub awake : AreAwake d.state
  pub closed : has_closings s ≡ false

-- once the wants are written those alone are looked at that are not silent
pub record StandsLoud (number : ℕ → ℕ) (d : Desk) (s : State) : Type 0 where
  pub turn : ShowsTurn number none_leaves d.peers d.state s
  pub ready : AreReady number d.state.cache s.next_instance d.state.seats.items
  pub loud : AreLoud d.state
  pub closed : has_closings s ≡ false

abbrev pub WantsLeaveTurns : Type 0
WantsLeaveTurns = (number : ℕ → ℕ) (before : List ℕ) (w : Wants) (clients : ℕ) (d e : Desk) (s : State) → StandsToWait number d s → Awaits before w clients d e → StandsLoud number e s

-- ---- what it leaves

-- none of those that stand first is an origin
abbrev pub StandBehind : List Peer → Wants → ℕ → Type 0
StandBehind peers w clients = (i : ℕ) (peer : Peer) → slice_get peers i ≡ Some peer → has_number peer.number (take clients w.read.items) ≡ false

-- the turn shows the law's state behind the wait, and stands as it awaits an event: nothing is owed, and who is not looked at is asleep. Its
-- clients and connections are those of before
pub record HasRested (number : ℕ → ℕ) (e f : Desk) (s t : State) : Type 0 where
  pub turn : ShowsTurn number none_leaves f.peers f.state t
  pub ready : AreReady number f.state.cache t.next_instance f.state.seats.items
  pub awake : AreAwake f.state
  pub closed : has_closings t ≡ false
  pub still : f.state.is_ticked ≡ false
  pub ticked : f.state.has_ticked ≡ e.state.has_ticked
  pub clients : numbers_of f.state.seats.items ≡ numbers_of e.state.seats.items
  pub origins : peer_numbers f.peers ≡ peer_numbers e.peers
  pub at : t.phase ≡ Awaiting
  pub owes : t.owed ≡ Free
  pub none : t.made_room_for ≡ s.made_room_for
  pub has_ticked : t.has_ticked ≡ s.has_ticked
  pub top : t.top ≡ s.top

abbrev pub RestsAreTheLaws : Type 0
RestsAreTheLaws = (number : ℕ → ℕ) (w : Wants) (clients : ℕ) (e f : Desk) (s : State) → StandsLoud number e s → StandBehind e.peers w clients → Rests w clients e f → HasRested number e f s (rest_with w s)
