use Rattle.pp_laws_texts.proofs.Heads.{heads_have_room}
use Rattle.pp_laws_texts.proofs.Laws.{turns_have_lines}
use Rattle.pp_laws_texts.proofs.texts.lines_have_room.Goals as goal

pub returns : goal.returns
returns c = record { lines = turns_have_lines; heads = heads_have_room }
