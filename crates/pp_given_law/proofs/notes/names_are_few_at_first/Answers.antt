use Rattle.pp_given_law.proofs.NamesFirst.{few_at_first, few_of_nobody}
use Rattle.pp_given_law.proofs.notes.names_are_few_at_first.Goals as goal

pub returns : goal.returns
returns c = record { first = few_at_first; nobody = few_of_nobody }
