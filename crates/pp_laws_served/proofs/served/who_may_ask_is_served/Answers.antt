use Rattle.pp_laws_served.proofs.Asks.{who_may_ask}
use Rattle.pp_laws_served.proofs.served.who_may_ask_is_served.Goals as goal

pub returns : goal.returns
returns c = record { asks = who_may_ask }
