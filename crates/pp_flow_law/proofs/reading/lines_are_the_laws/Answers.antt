use Rattle.pp_flow_law.proofs.Told.{lines}
use Rattle.pp_flow_law.proofs.reading.lines_are_the_laws.Goals as goal

pub returns : goal.returns
returns c = record { lines = lines }
