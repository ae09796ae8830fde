use Rattle.pp_stays_law.proofs.Starts.{room_at_first}
use Rattle.pp_stays_law.proofs.kept.names_have_room.Goals as goal

pub returns : goal.returns
returns c = room_at_first
