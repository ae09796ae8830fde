use Rattle.pp_given_law.proofs.Begun.{texts_begin}
use Rattle.pp_given_law.proofs.texts.texts_have_room_as_replies_begin.Goals as goal

pub returns : goal.returns
returns c = texts_begin
