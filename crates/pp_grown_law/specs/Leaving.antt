-- What leaves memory leaves nothing more to keep (ours).
use Rattle.pp_flow.specs.Changes.{numbers as flow_numbers}
use Rattle.pp_proxy.specs.Leaving.{Leaves}
use Rattle.pp_proxy.specs.Moving.{Moving}
use Rattle.pp_state.specs.Bodies.{IsButForCells}
use Rattle.pp_state.specs.Ends.{AreInOrder}
use Rattle.pp_state.specs.declared.state.State.{State as Turn}
use Rattle.pp_steps.specs.Evicting.{left_memory}
use Rattle.pp_store.specs.Kept.{KeptMap}
use Rattle.pp_world.specs.Log.{Log}
use Rattle.pp_grown_law.specs.Less.{BringsNothing}

-- chunks go, and each instance that is there stays
abbrev pub LeavingsBringNothing : Type 0
LeavingsBringNothing = (p q : Turn) (shelf : KeptMap) → IsButForCells (left_memory p) q → BringsNothing p q shelf shelf

-- and so all that is done behind an event, up to the disk; where exchanges that wait stand in the order of their beginnings
abbrev pub LeavesBringNothing : Type 0
LeavesBringNothing = (x y : Moving) (log : Log) (shelf : KeptMap) → AreInOrder (flow_numbers x.desk.state.flow.waiting) → Leaves x log y → BringsNothing x.desk.state y.desk.state shelf shelf
