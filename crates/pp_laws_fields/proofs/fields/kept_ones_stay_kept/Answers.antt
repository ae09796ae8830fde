use Rattle.pp_laws_fields.proofs.Laws.{turns_keep_fields}
use Rattle.pp_laws_fields.proofs.fields.kept_ones_stay_kept.Goals as goal

pub returns : goal.returns
returns c = record { kept = turns_keep_fields }
