use Rattle.pp_peers_law.proofs.Awaits.{awaits}
use Rattle.pp_peers_law.proofs.coming.awaited_is_the_laws.Goals as goal

pub returns : goal.returns
returns c = record { awaited = awaits }
