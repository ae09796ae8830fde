use Rattle.pp_turns_law.proofs.Filled.{fills_one}
use Rattle.pp_turns_law.proofs.filling.one_fills_as_the_laws.Goals as goal

pub returns : goal.returns
returns c = record { one = fills_one }
