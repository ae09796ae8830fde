use Rattle.pp_turn_law.proofs.Kept.{go_to_decide}
use Rattle.pp_turn_law.proofs.keeping.handled_ones_go_to_decide.Goals as goal

pub returns : goal.returns
returns c = go_to_decide
