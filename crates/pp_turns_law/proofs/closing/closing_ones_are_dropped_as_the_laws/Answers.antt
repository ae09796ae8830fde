use Rattle.pp_turns_law.proofs.AllDropped.{closing_drop}
use Rattle.pp_turns_law.proofs.closing.closing_ones_are_dropped_as_the_laws.Goals as goal

pub returns : goal.returns
returns c = record { dropped = closing_drop }
