use Rattle.pp_turn_law.proofs.NextWait.{room_behind}
use Rattle.pp_turn_law.proofs.over.names_have_room_behind_waits.Goals as goal

pub returns : goal.returns
returns c = room_behind
