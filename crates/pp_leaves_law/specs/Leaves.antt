-- What is noted of rows and chunks that leave memory is what the law permits, and leads where the law leads (ours).
use Rattle.std.specs.Prelude.{◌≡◌, ℕ, zero, suc, true, List, [], length, None}
use Rattle.pp_cache_law.specs.Reads.{ArePinned}
use Rattle.pp_flow_law.specs.Tables.{Leaving}
use Rattle.pp_law.specs.After.{evicted}
use Rattle.pp_law.specs.Chunks.{floor}
use Rattle.pp_law.specs.Lists.{Bytes}
use Rattle.pp_law.specs.Phases.{is_done}
use Rattle.pp_law.specs.State.{State, Evicting}
use Rattle.pp_law.specs.Table.{pins as pins_by}
use Rattle.pp_obeys.specs.Moves.{AreCalm, Leads}
use Rattle.pp_peers.specs.declared.peers.Peer.{Peer}
use Rattle.pp_state.specs.Bodies.{IsButForCells}
use Rattle.pp_state.specs.Ends.{parts}
use Rattle.pp_steps.specs.Evicting.{leaving_notes, left_memory}
use Rattle.pp_state.specs.Pins.{pins}
use Rattle.pp_state.specs.declared.state.State.{State as Steps}
use Rattle.pp_states_law.specs.Steps.{ShowsSteps}

-- rows and chunks leave memory: the same rows are to be noted, the marks are the law's, and the same chunks are pinned
pub record AreLeaving (number : ℕ → ℕ) (name : Bytes) (l : Leaving) (peers : List Peer) (st : Steps) (s : State) : Type 0 where
  pub none : s.made_room_for ≡ None
  pub at : s.phase ≡ Evicting
  pub shows : ShowsSteps number name l peers (parts st) s
  pub forgotten : st.forgotten ≡ s.forgotten
  pub evicting : st.is_evicting ≡ s.is_evicting
  pub floor_is : st.floor ≡ floor s
  pub pinned : ArePinned number st.cache (pins st) (pins_by s)

-- they have left, and no more has to be noted, nor to go
pub record HaveLeft (number : ℕ → ℕ) (name : Bytes) (l : Leaving) (peers : List Peer) (st : Steps) (s : State) : Type 0 where
  pub none : s.made_room_for ≡ None
  pub at : s.phase ≡ Evicting
  pub shows : ShowsSteps number name l peers (parts st) s
  pub done : is_done s ≡ true

-- as the law has it: the rows are noted, and the chunk that has to go next goes, one after another
abbrev pub evicted_on : ℕ → State → State
evicted_on zero s = s
evicted_on (suc more) s = evicted_on more (evicted s)

abbrev pub left_by : State → State
left_by s = evicted_on (length s.chunks) (record s { forgotten = [] })

-- there the notes lead
abbrev pub LeavingsLead : Type 0
LeavingsLead = (number : ℕ → ℕ) (name : Bytes) (l : Leaving) (peers : List Peer) (st after : Steps) (s : State) → IsButForCells (left_memory st) after → AreLeaving number name l peers st s
    → Leads (leaving_notes st) s (left_by s) × HaveLeft number name l peers after (left_by s)

abbrev pub LeavingsAreCalm : Type 0
LeavingsAreCalm = (st : Steps) → AreCalm (leaving_notes st)
