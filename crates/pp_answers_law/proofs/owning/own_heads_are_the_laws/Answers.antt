use Rattle.pp_answers_law.proofs.Filled.{owns_taken}
use Rattle.pp_answers_law.proofs.Owned.{owns}
use Rattle.pp_answers_law.proofs.owning.own_heads_are_the_laws.Goals as goal

pub returns : goal.returns
returns c = record { own = owns; taken = owns_taken }
