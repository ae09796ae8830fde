use Rattle.pp_joints_law.proofs.Left.{leavings_carry}
use Rattle.pp_joints_law.proofs.Near.{memory_may}
use Rattle.pp_joints_law.proofs.leaving.memory_may_be_left_behind_events.Goals as goal

pub returns : goal.returns
returns c = record { may = memory_may; carries = leavings_carry }
