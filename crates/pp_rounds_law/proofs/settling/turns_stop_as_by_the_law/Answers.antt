use Rattle.pp_rounds_law.proofs.Stopped.{stopped}
use Rattle.pp_rounds_law.proofs.settling.turns_stop_as_by_the_law.Goals as goal

pub returns : goal.returns
returns c = record { stops = stopped }
