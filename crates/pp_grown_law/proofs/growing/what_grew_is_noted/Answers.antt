use Rattle.pp_grown_law.proofs.Grown.{events_note, keepings_leave, leavings_note, noted_grown, settlings_leave, waits_leave}
use Rattle.pp_grown_law.proofs.growing.what_grew_is_noted.Goals as goal

pub returns : goal.returns
returns c = record { keepings = keepings_leave; settlings = settlings_leave; waits = waits_leave; events = events_note; leavings = leavings_note; grown = noted_grown }
