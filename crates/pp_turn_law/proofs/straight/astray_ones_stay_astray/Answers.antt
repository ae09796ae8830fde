use Rattle.pp_turn_law.proofs.OrderTurns.{turns_astray}
use Rattle.pp_turn_law.proofs.StayAstray.{keepings, leavings, settlings}
use Rattle.pp_turn_law.proofs.straight.astray_ones_stay_astray.Goals as goal

pub returns : goal.returns
returns c = record { leavings = leavings; keepings = keepings; settlings = settlings; turns = turns_astray }
