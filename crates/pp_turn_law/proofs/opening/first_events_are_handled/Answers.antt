use Rattle.pp_turn_law.proofs.FirstEvents.{first_awaited, first_handled}
use Rattle.pp_turn_law.proofs.FirstWait.{first_alone, first_stand, first_wait}
use Rattle.pp_turn_law.proofs.opening.first_events_are_handled.Goals as goal

pub returns : goal.returns
returns c = record { stands = first_stand; waits = first_wait; alone = first_alone; comes = first_awaited; handled = first_handled }
