use Rattle.pp_keeps_law.proofs.Steps.{runs_lead_on}
use Rattle.pp_keeps_law.proofs.writing.runs_lead_on.Goals as goal

pub returns : goal.returns
returns c = runs_lead_on
