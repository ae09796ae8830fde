use Rattle.pp_deciding_law.proofs.Cuts.{cuts_lead}
use Rattle.pp_deciding_law.proofs.cutting.cuts_lead_as_by_the_law.Goals as goal

pub returns : goal.returns
returns c = record { leads = cuts_lead }
