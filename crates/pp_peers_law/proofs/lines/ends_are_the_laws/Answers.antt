use Rattle.pp_peers_law.proofs.LineEnds.{ends}
use Rattle.pp_peers_law.proofs.lines.ends_are_the_laws.Goals as goal

pub returns : goal.returns
returns c = record { ends = ends }
