use Rattle.pp_turn_law.proofs.LeftLogs.{closed, left, stand}
use Rattle.pp_turn_law.proofs.waking.crashes_leave_the_disk.Goals as goal

pub returns : goal.returns
returns c = record { closed = closed; stand = stand; left = left }
