use Rattle.pp_laws_served.proofs.Joined.{as_good_ones}
use Rattle.pp_laws_served.proofs.served.as_good_ones_serve.Goals as goal

pub returns : goal.returns
returns c = record { serve = as_good_ones }
