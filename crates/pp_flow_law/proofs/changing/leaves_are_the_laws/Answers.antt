use Rattle.pp_flow_law.proofs.Turned.{leaves}
use Rattle.pp_flow_law.proofs.changing.leaves_are_the_laws.Goals as goal

pub returns : goal.returns
returns c = record { leaves = leaves }
