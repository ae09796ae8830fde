use Rattle.pp_laws_ends.proofs.Apart.{numbers_apart}
use Rattle.pp_laws_ends.proofs.ends.numbers_are_apart.Goals as goal

pub returns : goal.returns
returns c = record { apart = numbers_apart }
