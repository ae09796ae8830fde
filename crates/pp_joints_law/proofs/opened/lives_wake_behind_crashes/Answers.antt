use Rattle.pp_joints_law.proofs.OpenedCrash.{crashes_may}
use Rattle.pp_joints_law.proofs.opened.lives_wake_behind_crashes.Goals as goal

pub returns : goal.returns
returns c = record { woke = crashes_may }
