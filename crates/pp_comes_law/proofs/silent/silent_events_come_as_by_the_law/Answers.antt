use Rattle.pp_comes_law.proofs.SilentOnes.{clients_come, reached_come, stops_come, ticks_come}
use Rattle.pp_comes_law.proofs.silent.silent_events_come_as_by_the_law.Goals as goal

pub returns : goal.returns
returns c = record { stops = stops_come; ticks = ticks_come; reached = reached_come; clients = clients_come }
