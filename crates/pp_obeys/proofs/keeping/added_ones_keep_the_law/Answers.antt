use Rattle.pp_obeys.proofs.Adding.{added_keep, additions_join, calm_add}
use Rattle.pp_obeys.proofs.Moving.{lead_joined}
use Rattle.pp_obeys.proofs.keeping.added_ones_keep_the_law.Goals as goal

pub returns : goal.returns
returns c = record { added = added_keep; calm = calm_add; joined = additions_join; lead = lead_joined }
