use Rattle.pp_given_law.proofs.HeadRoom.{heads_are_short}
use Rattle.pp_given_law.proofs.limits.heads_have_room.Goals as goal

pub returns : goal.returns
returns c = heads_are_short
