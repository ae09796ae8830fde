use Rattle.pp_waits_law.proofs.Left.{wants_leave}
use Rattle.pp_waits_law.proofs.resting.wants_leave_turns_as_they_were.Goals as goal

pub returns : goal.returns
returns c = record { left = wants_leave }
