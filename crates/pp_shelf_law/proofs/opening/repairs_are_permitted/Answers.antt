use Rattle.pp_shelf_law.proofs.Repaired.{repairs_lead, syncs_lead}
use Rattle.pp_shelf_law.proofs.opening.repairs_are_permitted.Goals as goal

pub returns : goal.returns
returns c = record { closed = repairs_lead; synced = syncs_lead }
