use Rattle.pp_keeps_law.proofs.AllKept.{keepings_lead_on}
use Rattle.pp_keeps_law.proofs.turning.keepings_lead_on.Goals as goal

pub returns : goal.returns
returns c = keepings_lead_on
