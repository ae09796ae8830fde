use Rattle.pp_stays_law.proofs.Afforded.{afforded}
use Rattle.pp_stays_law.proofs.affording.what_is_lawful_is_afforded.Goals as goal

pub returns : goal.returns
returns c = afforded
