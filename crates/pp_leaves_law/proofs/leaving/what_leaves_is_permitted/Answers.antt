use Rattle.pp_leaves_law.proofs.Left.{calm, leavings}
use Rattle.pp_leaves_law.proofs.leaving.what_leaves_is_permitted.Goals as goal

pub returns : goal.returns
returns c = record { leavings = leavings; calm = calm }
