use Rattle.pp_events_law.proofs.Reaches.{reaches}
use Rattle.pp_events_law.proofs.silent.connections_are_reached_as_by_the_law.Goals as goal

pub returns : goal.returns
returns c = record { leads = reaches }
