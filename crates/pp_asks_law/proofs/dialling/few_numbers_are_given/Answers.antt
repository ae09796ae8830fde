use Rattle.pp_asks_law.proofs.GoWithout.{few_given}
use Rattle.pp_asks_law.proofs.dialling.few_numbers_are_given.Goals as goal

pub returns : goal.returns
returns c = record { few = few_given }
