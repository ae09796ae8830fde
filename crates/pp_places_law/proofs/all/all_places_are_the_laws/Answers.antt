use Rattle.pp_places_law.proofs.Loops.{all}
use Rattle.pp_places_law.proofs.all.all_places_are_the_laws.Goals as goal

pub returns : goal.returns
returns c = record { all = all }
