use Rattle.pp_laws_left.proofs.BodiedWants.{some_wait_is_permitted, turns_can_wait}
use Rattle.pp_laws_left.proofs.left.turns_can_wait.Goals as goal

pub returns : goal.returns
returns c = record { good = turns_can_wait; some = some_wait_is_permitted }
