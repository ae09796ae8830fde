use Rattle.pp_events_law.proofs.Breaks.{breaks}
use Rattle.pp_events_law.proofs.breaking.connections_break_as_by_the_law.Goals as goal

pub returns : goal.returns
returns c = record { leads = breaks }
