use Rattle.pp_flow_law.proofs.Ended.{ends}
use Rattle.pp_flow_law.proofs.ending.ends_are_the_laws.Goals as goal

pub returns : goal.returns
returns c = record { ends = ends }
