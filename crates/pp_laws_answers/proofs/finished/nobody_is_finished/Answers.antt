use Rattle.pp_laws_answers.proofs.NoneFinished.{nobody_is_finished}
use Rattle.pp_laws_answers.proofs.finished.nobody_is_finished.Goals as goal

pub returns : goal.returns
returns c = record { finished = nobody_is_finished }
