use Rattle.pp_laws_served.proofs.Asking.{followers_ask}
use Rattle.pp_laws_served.proofs.served.followers_ask.Goals as goal

pub returns : goal.returns
returns c = record { ask = followers_ask }
