use Rattle.pp_turn_law.proofs.LostSo.{lost_go_to_decide}
use Rattle.pp_turn_law.proofs.lost.lost_ones_go_to_decide.Goals as goal

pub returns : goal.returns
returns c = lost_go_to_decide
