use Rattle.pp_comes_law.proofs.PipeRooms.{pipes_have_room}
use Rattle.pp_comes_law.proofs.moments.pipes_have_room_in_reads.Goals as goal

pub returns : goal.returns
returns c = pipes_have_room
