use Rattle.pp_stays_law.proofs.Alone.{texts_stay}
use Rattle.pp_stays_law.proofs.seats.texts_keep_their_room.Goals as goal

pub returns : goal.returns
returns c = texts_stay
