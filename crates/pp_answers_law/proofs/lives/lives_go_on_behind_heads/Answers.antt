use Rattle.pp_answers_law.proofs.GivenAnswers.{heads_on}
use Rattle.pp_answers_law.proofs.lives.lives_go_on_behind_heads.Goals as goal

pub returns : goal.returns
returns c = heads_on
