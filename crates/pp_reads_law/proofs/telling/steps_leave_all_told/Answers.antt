use Rattle.pp_reads_law.proofs.QuietSteps.{steps_tell}
use Rattle.pp_reads_law.proofs.telling.steps_leave_all_told.Goals as goal

pub returns : goal.returns
returns c = steps_tell
