use Rattle.pp_turn_law.proofs.BesideOn.{stands_beside}
use Rattle.pp_turn_law.proofs.staying.next_waits_stand_beside.Goals as goal

pub returns : goal.returns
returns c = stands_beside
