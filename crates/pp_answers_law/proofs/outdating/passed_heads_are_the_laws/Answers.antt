use Rattle.pp_answers_law.proofs.Places.{passed_heads}
use Rattle.pp_answers_law.proofs.Through.{throughs}
use Rattle.pp_answers_law.proofs.outdating.passed_heads_are_the_laws.Goals as goal

pub returns : goal.returns
returns c = record { through = throughs; places = passed_heads }
