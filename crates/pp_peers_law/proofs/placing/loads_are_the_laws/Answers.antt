use Rattle.pp_peers_law.proofs.Loads.{loads}
use Rattle.pp_peers_law.proofs.placing.loads_are_the_laws.Goals as goal

pub returns : goal.returns
returns c = record { loads = loads }
