use Rattle.pp_joints_law.proofs.Losses.{losses_carry}
use Rattle.pp_joints_law.proofs.behind.losses_of_chunks_carry.Goals as goal

pub returns : goal.returns
returns c = record { carries = losses_carry }
