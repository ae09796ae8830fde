use Rattle.pp_answers_law.proofs.Dropped.{drops}
use Rattle.pp_answers_law.proofs.Useless.{not_shareds, uselesses}
use Rattle.pp_answers_law.proofs.dropping.answers_are_dropped_as_the_laws.Goals as goal

pub returns : goal.returns
returns c = record { drops = drops; useless = uselesses; not_shared = not_shareds }
