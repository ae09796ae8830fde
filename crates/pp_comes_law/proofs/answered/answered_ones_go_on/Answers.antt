use Rattle.pp_comes_law.proofs.KeptOpen.{goes_on, kept_open}
use Rattle.pp_comes_law.proofs.answered.answered_ones_go_on.Goals as goal

pub returns : goal.returns
returns c = record { kept = kept_open; goes = goes_on }
