use Rattle.pp_laws_waits.proofs.Laws.{nobody_waits}
use Rattle.pp_laws_waits.proofs.waits.nobody_waits_on_nothing.Goals as goal

pub returns : goal.returns
returns c = record { served = nobody_waits }
