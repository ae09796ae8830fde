use Rattle.pp_peers_law.proofs.Heads.{early, heads}
use Rattle.pp_peers_law.proofs.coming.heads_are_the_laws.Goals as goal

pub returns : goal.returns
returns c = record { heads = heads; early = early }
