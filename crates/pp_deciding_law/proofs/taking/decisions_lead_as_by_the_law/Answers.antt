use Rattle.pp_deciding_law.proofs.Leads.{leads}
use Rattle.pp_deciding_law.proofs.taking.decisions_lead_as_by_the_law.Goals as goal

pub returns : goal.returns
returns c = record { leads = leads }
