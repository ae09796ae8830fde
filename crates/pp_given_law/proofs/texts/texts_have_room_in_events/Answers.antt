use Rattle.pp_given_law.proofs.Stands.{texts_events}
use Rattle.pp_given_law.proofs.texts.texts_have_room_in_events.Goals as goal

pub returns : goal.returns
returns c = texts_events
