use Rattle.pp_rounds_law.proofs.Settled.{settled}
use Rattle.pp_rounds_law.proofs.settling.turns_settle_as_by_the_law.Goals as goal

pub returns : goal.returns
returns c = record { settles = settled }
