use Rattle.pp_turn_law.proofs.WaitsAgain.{turns_note, waits_again}
use Rattle.pp_turn_law.proofs.again.served_ones_wait_again.Goals as goal

pub returns : goal.returns
returns c = record { noted = turns_note; again = waits_again }
