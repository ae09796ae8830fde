use Rattle.pp_keeps_law.proofs.Taking.{takings_lead_on}
use Rattle.pp_keeps_law.proofs.removing.takings_lead_on.Goals as goal

pub returns : goal.returns
returns c = takings_lead_on
