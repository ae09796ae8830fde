use Rattle.pp_turn_law.proofs.SilentOnes.{broken_handled, clients_handled, reached_handled, stops_handled, ticks_handled}
use Rattle.pp_turn_law.proofs.handling.silent_ones_are_handled.Goals as goal

pub returns : goal.returns
returns c = record { stops = stops_handled; reached = reached_handled; clients = clients_handled; ticks = ticks_handled; broken = broken_handled }
