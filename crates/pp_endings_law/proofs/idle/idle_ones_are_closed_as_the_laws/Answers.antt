use Rattle.pp_endings_law.proofs.IdleOnes.{all_idle, idle_one}
use Rattle.pp_endings_law.proofs.idle.idle_ones_are_closed_as_the_laws.Goals as goal

pub returns : goal.returns
returns c = record { one = idle_one; all = all_idle }
