use Rattle.pp_turn_law.proofs.Waited.{turns_wait}
use Rattle.pp_turn_law.proofs.waiting.turns_wait.Goals as goal

pub returns : goal.returns
returns c = turns_wait
