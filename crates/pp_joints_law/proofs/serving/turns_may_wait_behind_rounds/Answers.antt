use Rattle.pp_joints_law.proofs.Served.{may_wait}
use Rattle.pp_joints_law.proofs.serving.turns_may_wait_behind_rounds.Goals as goal

pub returns : goal.returns
returns c = record { waits = may_wait }
