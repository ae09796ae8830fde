use Rattle.pp_joints_law.proofs.TiedData.{data_tie}
use Rattle.pp_joints_law.proofs.heads.data_tie_as_they_come.Goals as goal

pub returns : goal.returns
returns c = record { tie = data_tie }
