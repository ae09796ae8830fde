use Rattle.pp_joints_law.proofs.EnoughLogs.{waits_leave_enough}
use Rattle.pp_joints_law.proofs.ReadsBegin.{reads_begin}
use Rattle.pp_joints_law.proofs.moments.reads_begin_noted.Goals as goal

pub returns : goal.returns
returns c = record { begins = reads_begin; enough = waits_leave_enough }
