use Rattle.pp_turn_law.proofs.EarlyEnds.{early_ends}
use Rattle.pp_turn_law.proofs.living.early_ends_are_lawful.Goals as goal

pub returns : goal.returns
returns c = record { ends = early_ends }
