use Rattle.pp_given_law.proofs.Stands.{texts_wait}
use Rattle.pp_given_law.proofs.texts.texts_have_room_over_waits.Goals as goal

pub returns : goal.returns
returns c = texts_wait
