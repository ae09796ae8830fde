use Rattle.pp_stays_law.proofs.Whole.{disk_stays}
use Rattle.pp_stays_law.proofs.kept.entries_stay_noted.Goals as goal

pub returns : goal.returns
returns c = disk_stays
