use Rattle.pp_laws.proofs.Laws.{own_numbers}
use Rattle.pp_laws.proofs.numbers.numbers_are_distinct.Goals as goal

pub returns : goal.returns
returns c = record { numbers = own_numbers }
