use Rattle.pp_laws_quiet.proofs.Left.{left}
use Rattle.pp_laws_quiet.proofs.Unticked.{unticked}
use Rattle.pp_laws_quiet.proofs.quiet.quiet_happenings_leave_the_disk.Goals as goal

pub returns : goal.returns
returns c = record { left = left; clock = unticked }
