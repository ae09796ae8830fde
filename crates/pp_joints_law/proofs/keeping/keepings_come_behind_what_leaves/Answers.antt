use Rattle.pp_joints_law.proofs.Kept.{keepings_carry, stands_to_keep}
use Rattle.pp_joints_law.proofs.keeping.keepings_come_behind_what_leaves.Goals as goal

pub returns : goal.returns
returns c = record { stands = stands_to_keep; carries = keepings_carry }
