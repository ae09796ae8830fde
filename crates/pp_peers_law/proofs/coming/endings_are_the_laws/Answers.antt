use Rattle.pp_peers_law.proofs.Endings.{endings}
use Rattle.pp_peers_law.proofs.coming.endings_are_the_laws.Goals as goal

pub returns : goal.returns
returns c = record { endings = endings }
