use Rattle.pp_turn_law.proofs.TurnOver.{turns_go}
use Rattle.pp_turn_law.proofs.going.turns_go_on.Goals as goal

pub returns : goal.returns
returns c = turns_go
