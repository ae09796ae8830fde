use Rattle.pp_rounds_law.proofs.Decisions.{all_lead}
use Rattle.pp_rounds_law.proofs.deciding.all_decisions_lead_as_by_the_law.Goals as goal

pub returns : goal.returns
returns c = record { all = all_lead }
