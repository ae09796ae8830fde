use Rattle.pp_shelf_law.proofs.Joined.{drafts_lead_on, seals_lead, takings_lead}
use Rattle.pp_shelf_law.proofs.calling.turns_of_the_disk_lead_on.Goals as goal

pub returns : goal.returns
returns c = record { taken = takings_lead; sealed = seals_lead; drafted = drafts_lead_on }
