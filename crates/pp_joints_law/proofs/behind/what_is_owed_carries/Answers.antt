use Rattle.pp_joints_law.proofs.OwedSo.{reads_owed, writes_owed}
use Rattle.pp_joints_law.proofs.behind.what_is_owed_carries.Goals as goal

pub returns : goal.returns
returns c = record { reads = reads_owed; writes = writes_owed }
