use Rattle.pp_waits_law.proofs.Waited.{waits_lead}
use Rattle.pp_waits_law.proofs.waiting.waits_lead_as_by_the_law.Goals as goal

pub returns : goal.returns
returns c = record { leads = waits_lead }
