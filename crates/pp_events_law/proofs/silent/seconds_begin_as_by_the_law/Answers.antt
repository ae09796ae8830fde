use Rattle.pp_events_law.proofs.Ticks.{ticks}
use Rattle.pp_events_law.proofs.silent.seconds_begin_as_by_the_law.Goals as goal

pub returns : goal.returns
returns c = record { leads = ticks }
