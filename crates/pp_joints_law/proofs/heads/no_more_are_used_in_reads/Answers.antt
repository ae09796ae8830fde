use Rattle.pp_joints_law.proofs.NoMore.{no_more_are_used}
use Rattle.pp_joints_law.proofs.heads.no_more_are_used_in_reads.Goals as goal

pub returns : goal.returns
returns c = record { used = no_more_are_used }
