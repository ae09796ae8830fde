use Rattle.pp_shelf_law.proofs.Clean.{closed_ones}
use Rattle.pp_shelf_law.proofs.Recovered.{folders, recoveries}
use Rattle.pp_shelf_law.proofs.opening.recovery_is_permitted.Goals as goal

pub returns : goal.returns
returns c = record { folder = folders; names = recoveries; closed = closed_ones }
