use Rattle.pp_joints_law.proofs.Unnoted.{keepings_none, leavings_note, settlings_none, waits_none}
use Rattle.pp_joints_law.proofs.noting.what_left_memory_is_noted.Goals as goal

pub returns : goal.returns
returns c = record { leavings = leavings_note; keepings = keepings_none; settlings = settlings_none; waits = waits_none }
