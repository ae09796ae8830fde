use Rattle.pp_rounds_law.proofs.Coming.{coming_keeps}
use Rattle.pp_rounds_law.proofs.keeping.what_is_come_to_is_kept.Goals as goal

pub returns : goal.returns
returns c = record { keeps = coming_keeps }
