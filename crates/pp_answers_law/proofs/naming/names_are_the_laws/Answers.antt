use Rattle.pp_answers_law.proofs.Sites.{names_same}
use Rattle.pp_answers_law.proofs.naming.names_are_the_laws.Goals as goal

pub returns : goal.returns
returns c = record { names = names_same }
