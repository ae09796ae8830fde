use Rattle.pp_joints_law.proofs.Carries.{breaks_carry, origin_writes_carry}
use Rattle.pp_joints_law.proofs.behind.calls_of_origins_carry.Goals as goal

pub returns : goal.returns
returns c = record { writes = origin_writes_carry; breaks = breaks_carry }
