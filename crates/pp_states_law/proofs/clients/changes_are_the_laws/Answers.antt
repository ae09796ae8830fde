use Rattle.pp_states_law.proofs.Changed.{changes, askers, nobodys}
use Rattle.pp_states_law.proofs.clients.changes_are_the_laws.Goals as goal

pub returns : goal.returns
returns c = record { changes = changes; askers = askers; nobodys = nobodys }
