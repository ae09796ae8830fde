use Rattle.pp_turns_law.proofs.Walk.{begins}
use Rattle.pp_turns_law.proofs.beginning.replies_begin_as_the_laws.Goals as goal

pub returns : goal.returns
returns c = record { all = begins }
