use Rattle.pp_laws_left.proofs.Unended.{happenings_end_no_turn, turns_may_end}
use Rattle.pp_laws_left.proofs.left.happenings_end_no_turn.Goals as goal

pub returns : goal.returns
returns c = record { early = happenings_end_no_turn; may = turns_may_end }
