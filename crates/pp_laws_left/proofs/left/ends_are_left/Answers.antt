use Rattle.pp_laws_left.proofs.Laws.{ends_are_left}
use Rattle.pp_laws_left.proofs.left.ends_are_left.Goals as goal

pub returns : goal.returns
returns c = record { left = ends_are_left }
