use Rattle.pp_joints_law.proofs.Ends.{origin_ends_carry}
use Rattle.pp_joints_law.proofs.behind.ends_of_origins_carry.Goals as goal

pub returns : goal.returns
returns c = record { carries = origin_ends_carry }
