use Rattle.pp_joints_law.proofs.ToLoad.{carried_on_disk, none_leaves, owed_first}
use Rattle.pp_joints_law.proofs.loading.what_is_carried_may_be_read_back.Goals as goal

pub returns : goal.returns
returns c = record { waits = none_leaves; owed = owed_first; disk = carried_on_disk }
