use Rattle.pp_turn_law.proofs.NextWait.{apart_again}
use Rattle.pp_turn_law.proofs.over.origins_are_apart_again.Goals as goal

pub returns : goal.returns
returns c = apart_again
