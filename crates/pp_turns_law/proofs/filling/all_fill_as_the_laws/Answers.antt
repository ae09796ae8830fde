use Rattle.pp_turns_law.proofs.All.{fills_all}
use Rattle.pp_turns_law.proofs.filling.all_fill_as_the_laws.Goals as goal

pub returns : goal.returns
returns c = record { all = fills_all }
