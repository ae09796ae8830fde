use Rattle.pp_flow_law.proofs.Framed.{closings, dials, drops}
use Rattle.pp_flow_law.proofs.framing.connections_are_the_laws.Goals as goal

pub returns : goal.returns
returns c = record { dials = dials; closings = closings; drops = drops }
