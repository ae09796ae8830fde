use Rattle.pp_peers_law.proofs.Asks.{lines}
use Rattle.pp_peers_law.proofs.asking.lines_are_the_laws.Goals as goal

pub returns : goal.returns
returns c = record { lines = lines }
