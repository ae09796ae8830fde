use Rattle.pp_rounds_law.proofs.Ended.{ends}
use Rattle.pp_rounds_law.proofs.ending.turns_end_as_the_laws.Goals as goal

pub returns : goal.returns
returns c = record { ends = ends }
