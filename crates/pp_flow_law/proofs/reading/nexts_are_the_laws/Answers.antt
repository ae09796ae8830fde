use Rattle.pp_flow_law.proofs.Told.{nexts}
use Rattle.pp_flow_law.proofs.reading.nexts_are_the_laws.Goals as goal

pub returns : goal.returns
returns c = record { nexts = nexts }
