use Rattle.pp_flow_law.proofs.Left.{decisions}
use Rattle.pp_flow_law.proofs.ending.decisions_leave_as_the_laws.Goals as goal

pub returns : goal.returns
returns c = record { decisions = decisions }
