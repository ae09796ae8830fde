use Rattle.pp_given_law.proofs.NumbersOnce.{stay_apart}
use Rattle.pp_given_law.proofs.apart.origins_stay_apart.Goals as goal

pub returns : goal.returns
returns c = stay_apart
