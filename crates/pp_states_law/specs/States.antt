-- How the state of the program stands for that of the law: clients, exchanges, connections and the table, by one map of numbers.
use Rattle.std.specs.Prelude.{ℕ, List}
use Rattle.pp_cache.specs.Memory.{Memory}
use Rattle.pp_cache_law.specs.Tables.{ShowsCache}
use Rattle.pp_flow.specs.Changes.{Exchanges}
use Rattle.pp_flow_law.specs.Tables.{Leaving, ShowsFlow}
use Rattle.pp_law.specs.Lists.{Bytes}
use Rattle.pp_law.specs.State.{State}
use Rattle.pp_peers.specs.declared.peers.Peer.{Peer}
use Rattle.pp_peers_law.specs.Peers.{ShowConns}
use Rattle.pp_seats.specs.declared.seat.Seat.{Seat}
use Rattle.pp_seats_law.specs.Clients.{AreShown}

-- the parts of the program's state that stand for those of the law's
pub record Parts : Type 0 where
  pub seats : List Seat
  pub flow : Exchanges
  pub memory : Memory
  pub peers : List Peer

-- by the law's numbers of lives, the name of the proxy, the keys of rows whose leaving is not noted yet, and the exchanges that still
-- have to leave a line
pub record ShowsState (number : ℕ → ℕ) (name : Bytes) (owed : List Bytes) (l : Leaving) (p : Parts) (s : State) : Type 0 where
  pub clients : AreShown number name owed p.seats s.clients
  pub exchanges : ShowsFlow number l p.flow s
  pub table : ShowsCache number p.memory s
  pub conns : ShowConns s p.peers s.conns

-- of all that do
abbrev pub OfStates : ((ℕ → ℕ) → Bytes → List Bytes → Leaving → Parts → State → Type 0) → Type 0
OfStates P = (number : ℕ → ℕ) (name : Bytes) (owed : List Bytes) (l : Leaving) (p : Parts) (s : State) → ShowsState number name owed l p s → P number name owed l p s
