use Rattle.pp_flow_law.proofs.Put.{puts}
use Rattle.pp_flow_law.proofs.placing.puts_are_the_laws.Goals as goal

pub returns : goal.returns
returns c = record { puts = puts }
