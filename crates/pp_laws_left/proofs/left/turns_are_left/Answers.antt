use Rattle.pp_laws_left.proofs.Laws.{turns_are_left}
use Rattle.pp_laws_left.proofs.left.turns_are_left.Goals as goal

pub returns : goal.returns
returns c = record { left = turns_are_left }
