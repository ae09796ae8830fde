use Rattle.pp_joints_law.proofs.OpenedTops.{tops_are}
use Rattle.pp_joints_law.proofs.opened.numbers_are_the_logs.Goals as goal

pub returns : goal.returns
returns c = record { tops = tops_are }
