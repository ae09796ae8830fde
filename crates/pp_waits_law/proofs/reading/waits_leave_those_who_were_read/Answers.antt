use Rattle.pp_waits_law.proofs.StillRead.{left_read}
use Rattle.pp_waits_law.proofs.reading.waits_leave_those_who_were_read.Goals as goal

pub returns : goal.returns
returns c = record { left = left_read }
