use Rattle.pp_joints_law.proofs.LoadedSo.{loads_carry}
use Rattle.pp_joints_law.proofs.behind.loads_of_chunks_carry.Goals as goal

pub returns : goal.returns
returns c = record { carries = loads_carry }
