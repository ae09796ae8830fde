use Rattle.pp_laws_room.proofs.RoomLaws.{turns_have_room}
use Rattle.pp_laws_room.proofs.room.turns_leave_room.Goals as goal

pub returns : goal.returns
returns c = record { room = turns_have_room }
