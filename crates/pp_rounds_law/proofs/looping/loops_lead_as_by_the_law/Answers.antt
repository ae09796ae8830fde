use Rattle.pp_rounds_law.proofs.Loops.{loops}
use Rattle.pp_rounds_law.proofs.looping.loops_lead_as_by_the_law.Goals as goal

pub returns : goal.returns
returns c = record { loops = loops }
