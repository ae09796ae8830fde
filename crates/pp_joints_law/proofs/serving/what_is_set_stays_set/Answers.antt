use Rattle.pp_joints_law.proofs.Settled.{settles_work}
use Rattle.pp_joints_law.proofs.serving.what_is_set_stays_set.Goals as goal

pub returns : goal.returns
returns c = record { set = settles_work }
