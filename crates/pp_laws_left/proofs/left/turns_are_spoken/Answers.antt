use Rattle.pp_laws_left.proofs.SpokenLaws.{ends_are_spoken, turns_are_spoken}
use Rattle.pp_laws_left.proofs.left.turns_are_spoken.Goals as goal

pub returns : goal.returns
returns c = record { spoken = turns_are_spoken; ends = ends_are_spoken }
