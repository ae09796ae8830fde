use Rattle.pp_answers_law.proofs.QuietAnswers.{heads_joined}
use Rattle.pp_answers_law.proofs.lives.what_heads_join_is_there.Goals as goal

pub returns : goal.returns
returns c = heads_joined
