use Rattle.pp_flow_law.proofs.Framed.{frames}
use Rattle.pp_flow_law.proofs.framing.frames_are_the_laws.Goals as goal

pub returns : goal.returns
returns c = record { frames = frames }
