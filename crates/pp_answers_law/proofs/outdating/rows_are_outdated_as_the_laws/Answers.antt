use Rattle.pp_answers_law.proofs.Disproved.{disproveds}
use Rattle.pp_answers_law.proofs.outdating.rows_are_outdated_as_the_laws.Goals as goal

pub returns : goal.returns
returns c = record { disproved = disproveds }
