use Rattle.pp_flow_law.proofs.Begun.{beginnings}
use Rattle.pp_flow_law.proofs.beginning.beginnings_are_the_laws.Goals as goal

pub returns : goal.returns
returns c = record { beginnings = beginnings }
