use Rattle.pp_joints_law.proofs.OpenedLife.{lives_begin, told_begin}
use Rattle.pp_joints_law.proofs.opened.lives_begin_as_by_the_law.Goals as goal

pub returns : goal.returns
returns c = record { begin = lives_begin; told = told_begin }
