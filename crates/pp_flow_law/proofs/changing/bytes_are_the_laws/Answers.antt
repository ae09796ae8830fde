use Rattle.pp_flow_law.proofs.Errands.{bytes}
use Rattle.pp_flow_law.proofs.changing.bytes_are_the_laws.Goals as goal

pub returns : goal.returns
returns c = record { bytes = bytes }
