use Rattle.pp_stays_law.proofs.Alone.{given_stays}
use Rattle.pp_stays_law.proofs.seats.nobody_is_refused.Goals as goal

pub returns : goal.returns
returns c = given_stays
