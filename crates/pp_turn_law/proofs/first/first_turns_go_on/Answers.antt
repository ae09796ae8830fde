use Rattle.pp_turn_law.proofs.FirstOver.{first_turns, opened_sized}
use Rattle.pp_turn_law.proofs.first.first_turns_go_on.Goals as goal

pub returns : goal.returns
returns c = record { turns = first_turns; sized = opened_sized }
