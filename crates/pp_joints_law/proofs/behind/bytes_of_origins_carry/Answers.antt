use Rattle.pp_joints_law.proofs.BytesBehind.{origin_bytes_carry}
use Rattle.pp_joints_law.proofs.behind.bytes_of_origins_carry.Goals as goal

pub returns : goal.returns
returns c = record { carries = origin_bytes_carry }
