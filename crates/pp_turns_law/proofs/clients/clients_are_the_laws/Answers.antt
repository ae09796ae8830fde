use Rattle.pp_turns_law.proofs.Leaving.{leaves_client}
use Rattle.pp_turns_law.proofs.clients.clients_are_the_laws.Goals as goal

pub returns : goal.returns
returns c = record { leaves = leaves_client }
