use Rattle.pp_shelf_law.proofs.Runs.{done_lead, drafts_lead, failed_lead}
use Rattle.pp_shelf_law.proofs.working.operations_are_permitted.Goals as goal

pub returns : goal.returns
returns c = record { done = done_lead; failed = failed_lead; lost = drafts_lead }
