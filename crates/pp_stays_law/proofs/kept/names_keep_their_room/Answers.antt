use Rattle.pp_stays_law.proofs.Alone.{room_stays}
use Rattle.pp_stays_law.proofs.kept.names_keep_their_room.Goals as goal

pub returns : goal.returns
returns c = room_stays
