use Rattle.pp_grown_law.proofs.Gone.{leaves_bring_nothing, leavings_bring_nothing}
use Rattle.pp_grown_law.proofs.leaving.leavings_bring_nothing.Goals as goal

pub returns : goal.returns
returns c = record { memory = leavings_bring_nothing; turn = leaves_bring_nothing }
