use Rattle.pp_joints_law.proofs.Resting.{waits}
use Rattle.pp_joints_law.proofs.settling.waits_carry.Goals as goal

pub returns : goal.returns
returns c = record { carries = waits }
