use Rattle.pp_stays_law.proofs.Whole.{turns_stand}
use Rattle.pp_stays_law.proofs.standing.turns_stand_through_decisions_and_rounds.Goals as goal

pub returns : goal.returns
returns c = turns_stand
