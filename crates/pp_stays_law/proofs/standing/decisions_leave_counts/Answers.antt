use Rattle.pp_stays_law.proofs.Bodies.{decisions_count}
use Rattle.pp_stays_law.proofs.standing.decisions_leave_counts.Goals as goal

pub returns : goal.returns
returns c = decisions_count
