use Rattle.pp_rounds_law.proofs.Round.{rounds, rounds_end}
use Rattle.pp_rounds_law.proofs.going.rounds_lead_as_by_the_law.Goals as goal

pub returns : goal.returns
returns c = record { round = rounds; ends = rounds_end }
