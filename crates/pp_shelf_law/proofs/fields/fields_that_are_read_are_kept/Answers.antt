use Rattle.pp_shelf_law.proofs.KeptFields.{allowed_kept, read_kept}
use Rattle.pp_shelf_law.proofs.KeptStand.{kept_allowed}
use Rattle.pp_shelf_law.proofs.fields.fields_that_are_read_are_kept.Goals as goal

pub returns : goal.returns
returns c = record { allowed = allowed_kept; kept = kept_allowed; read = read_kept }
