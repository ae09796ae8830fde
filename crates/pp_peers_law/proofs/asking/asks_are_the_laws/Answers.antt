use Rattle.pp_peers_law.proofs.Asks.{asks}
use Rattle.pp_peers_law.proofs.asking.asks_are_the_laws.Goals as goal

pub returns : goal.returns
returns c = record { asks = asks }
