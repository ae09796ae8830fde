use Rattle.pp_states_law.proofs.Ended.{leaves}
use Rattle.pp_states_law.proofs.exchanges.leaves_are_the_laws.Goals as goal

pub returns : goal.returns
returns c = record { leaves = leaves }
