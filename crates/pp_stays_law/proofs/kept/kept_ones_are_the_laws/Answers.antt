use Rattle.pp_stays_law.proofs.Starts.{kept_so}
use Rattle.pp_stays_law.proofs.kept.kept_ones_are_the_laws.Goals as goal

pub returns : goal.returns
returns c = kept_so
