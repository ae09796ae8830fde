use Rattle.pp_flow_law.proofs.Begun.{begins}
use Rattle.pp_flow_law.proofs.beginning.begins_are_the_laws.Goals as goal

pub returns : goal.returns
returns c = record { begins = begins }
