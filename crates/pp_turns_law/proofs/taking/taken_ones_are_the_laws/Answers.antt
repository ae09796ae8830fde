use Rattle.pp_turns_law.proofs.Taken.{takes, regains}
use Rattle.pp_turns_law.proofs.Unentered.{refuses}
use Rattle.pp_turns_law.proofs.taking.taken_ones_are_the_laws.Goals as goal

pub returns : goal.returns
returns c = record { takes = takes; refuses = refuses; regains = regains }
