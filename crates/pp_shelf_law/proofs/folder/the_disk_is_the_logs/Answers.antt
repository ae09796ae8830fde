use Rattle.pp_shelf_law.proofs.Disks.{disks, files}
use Rattle.pp_shelf_law.proofs.folder.the_disk_is_the_logs.Goals as goal

pub returns : goal.returns
returns c = record { disks = disks; files = files }
