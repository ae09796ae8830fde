use Rattle.pp_given_law.proofs.Stands.{given_waits}
use Rattle.pp_given_law.proofs.given.nobody_is_refused_over_waits.Goals as goal

pub returns : goal.returns
returns c = given_waits
