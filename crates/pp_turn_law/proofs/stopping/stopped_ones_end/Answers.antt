use Rattle.pp_turn_law.proofs.StoppedOnes.{deciding_stop, handled_stop, stops_said}
use Rattle.pp_turn_law.proofs.stopping.stopped_ones_end.Goals as goal

pub returns : goal.returns
returns c = record { said = stops_said; deciding = deciding_stop; handled = handled_stop }
