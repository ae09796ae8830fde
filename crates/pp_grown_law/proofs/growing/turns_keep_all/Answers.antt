use Rattle.pp_grown_law.proofs.Turns.{turns_carry, turns_may_keep, waits_carry}
use Rattle.pp_grown_law.proofs.growing.turns_keep_all.Goals as goal

pub returns : goal.returns
returns c = record { may = turns_may_keep; carried = turns_carry; waits = waits_carry }
