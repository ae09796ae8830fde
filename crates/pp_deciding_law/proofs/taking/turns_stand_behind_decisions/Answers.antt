use Rattle.pp_deciding_law.proofs.Behind.{stand}
use Rattle.pp_deciding_law.proofs.taking.turns_stand_behind_decisions.Goals as goal

pub returns : goal.returns
returns c = record { stand = stand }
