use Rattle.pp_turns_law.proofs.First.{first_dues}
use Rattle.pp_turns_law.proofs.firsts.first_due_is_the_laws.Goals as goal

pub returns : goal.returns
returns c = record { first = first_dues }
