use Rattle.pp_obeys.proofs.Laws.{done_goes}
use Rattle.pp_obeys.proofs.going.phases_are_left.Goals as goal

pub returns : goal.returns
returns c = record { left = done_goes }
