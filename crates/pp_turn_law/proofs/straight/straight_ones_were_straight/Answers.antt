use Rattle.pp_turn_law.proofs.OrderTurns.{were_straight}
use Rattle.pp_turn_law.proofs.straight.straight_ones_were_straight.Goals as goal

pub returns : goal.returns
returns c = were_straight
