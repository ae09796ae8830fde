-- How what the steps of a turn change together stands for the state of the law.
use Rattle.std.specs.Prelude.{◌≡◌, ℕ, List, []}
use Rattle.pp_flow_law.specs.Tables.{Leaving}
use Rattle.pp_law.specs.Lists.{Bytes}
use Rattle.pp_law.specs.State.{State}
use Rattle.pp_peers.specs.declared.peers.Peer.{Peer}
use Rattle.pp_states_law.specs.States.{Parts as Whole, ShowsState}
use Rattle.pp_state.specs.Ends.{AreInOrder, Parts, numbers_of}
use Rattle.pp_states_law.specs.Told.{AreTold}

-- with the connections
abbrev pub whole : Parts → List Peer → Whole
whole p peers = record { seats = p.seats; flow = p.flow; memory = p.cache; peers = peers }

-- the clients stand in the order of their numbers, what exchanges are bound to is told by its number, and memory was refused for no row
-- in this turn
pub record ShowsSteps (number : ℕ → ℕ) (name : Bytes) (l : Leaving) (peers : List Peer) (p : Parts) (s : State) : Type 0 where
  pub shows : ShowsState number name [] l (whole p peers) s
  pub order : AreInOrder (numbers_of p.seats)
  pub told : AreTold number p.cache s.next_instance p.flow
  pub refused : p.refused ≡ []

-- of all that do
abbrev pub OfSteps : ((ℕ → ℕ) → Bytes → Leaving → List Peer → Parts → State → Type 0) → Type 0
OfSteps P = (number : ℕ → ℕ) (name : Bytes) (l : Leaving) (peers : List Peer) (p : Parts) (s : State) → ShowsSteps number name l peers p s → P number name l peers p s
