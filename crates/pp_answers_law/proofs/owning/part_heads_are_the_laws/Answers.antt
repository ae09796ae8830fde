use Rattle.pp_answers_law.proofs.Filled.{part_heads}
use Rattle.pp_answers_law.proofs.owning.part_heads_are_the_laws.Goals as goal

pub returns : goal.returns
returns c = record { part = part_heads }
