use Rattle.pp_laws_answers.proofs.Firsts.{answers_to_firsts}
use Rattle.pp_laws_answers.proofs.answers.answers_are_to_firsts.Goals as goal

pub returns : goal.returns
returns c = record { firsts = answers_to_firsts }
