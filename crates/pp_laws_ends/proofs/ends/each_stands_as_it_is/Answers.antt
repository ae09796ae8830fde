use Rattle.pp_laws_ends.proofs.Standing.{all_stand}
use Rattle.pp_laws_ends.proofs.ends.each_stands_as_it_is.Goals as goal

pub returns : goal.returns
returns c = record { stands = all_stand }
