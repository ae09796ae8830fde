use Rattle.pp_grown_law.proofs.AsKept.{kept_stays}
use Rattle.pp_grown_law.proofs.behind.kept_stays_as_kept.Goals as goal

pub returns : goal.returns
returns c = kept_stays
