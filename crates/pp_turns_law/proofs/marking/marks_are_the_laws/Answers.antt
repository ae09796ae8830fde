use Rattle.pp_turns_law.proofs.Rested.{rests_all}
use Rattle.pp_turns_law.proofs.Woken.{wakes_all}
use Rattle.pp_turns_law.proofs.marking.marks_are_the_laws.Goals as goal

pub returns : goal.returns
returns c = record { ticks = wakes_all; waits = rests_all }
