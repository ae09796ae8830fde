use Rattle.pp_flow_law.proofs.Errands.{errands}
use Rattle.pp_flow_law.proofs.changing.errands_are_the_laws.Goals as goal

pub returns : goal.returns
returns c = record { errands = errands }
