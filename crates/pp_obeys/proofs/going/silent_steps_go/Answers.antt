use Rattle.pp_obeys.proofs.Laws.{silent_go}
use Rattle.pp_obeys.proofs.going.silent_steps_go.Goals as goal

pub returns : goal.returns
returns c = record { go = silent_go }
