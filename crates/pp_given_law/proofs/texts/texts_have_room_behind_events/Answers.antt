use Rattle.pp_given_law.proofs.Stands.{texts_behind}
use Rattle.pp_given_law.proofs.texts.texts_have_room_behind_events.Goals as goal

pub returns : goal.returns
returns c = texts_behind
