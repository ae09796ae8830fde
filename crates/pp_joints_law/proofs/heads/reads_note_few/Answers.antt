use Rattle.pp_joints_law.proofs.PlacesFew.{places_few, room_for_all, unsafe_alone}
use Rattle.pp_joints_law.proofs.heads.reads_note_few.Goals as goal

pub returns : goal.returns
returns c = record { places = places_few; alone = unsafe_alone; room = room_for_all }
