use Rattle.pp_answers_law.proofs.Told.{tells}
use Rattle.pp_answers_law.proofs.telling.tells_are_the_laws.Goals as goal

pub returns : goal.returns
returns c = record { tells = tells }
