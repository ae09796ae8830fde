-- Nothing is over of whom a turn seats: no reply of a client that goes on, and of nobody all is answered (RFC 2616, sections 6 and 8.1.4).
use Rattle.std.specs.Prelude.{ℕ, List}
use Rattle.pp_events_law.specs.Hears.{AreSettled}
use Rattle.pp_flow_law.specs.Tables.{Leaving}
use Rattle.pp_law.specs.State.{State, Term}
use Rattle.pp_obeys.specs.Obeys.{Obeys}
use Rattle.pp_peers.specs.declared.peers.Peer.{Peer}
use Rattle.pp_state.specs.declared.state.State.{State as Turn}
use Rattle.pp_turns_law.specs.Turns.{ShowsTurn}
use Rattle.pp_world.specs.Log.{Log}

-- as the turn shows a state that a lawful log may go on as from
abbrev pub AwaitedOnesAreSettled : Type 0
AwaitedOnesAreSettled = (terms : List Term) (number : ℕ → ℕ) (l : Leaving) (peers : List Peer) (p : Turn) (s : State) (log : Log) → Obeys terms s log → ShowsTurn number l peers p s → AreSettled p.seats.items
