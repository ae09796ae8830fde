use Rattle.pp_turn_law.proofs.WaysOut.{none_made, turns_come, turns_last}
use Rattle.pp_turn_law.proofs.ways.turns_have_events.Goals as goal

pub returns : goal.returns
returns c = record { events = turns_come; last = turns_last; none = none_made }
