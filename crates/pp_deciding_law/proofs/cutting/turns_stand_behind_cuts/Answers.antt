use Rattle.pp_deciding_law.proofs.CutBehind.{cut_stand}
use Rattle.pp_deciding_law.proofs.cutting.turns_stand_behind_cuts.Goals as goal

pub returns : goal.returns
returns c = record { stand = cut_stand }
