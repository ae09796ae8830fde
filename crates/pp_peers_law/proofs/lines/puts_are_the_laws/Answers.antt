use Rattle.pp_peers_law.proofs.LineEnds.{puts}
use Rattle.pp_peers_law.proofs.lines.puts_are_the_laws.Goals as goal

pub returns : goal.returns
returns c = record { puts = puts }
