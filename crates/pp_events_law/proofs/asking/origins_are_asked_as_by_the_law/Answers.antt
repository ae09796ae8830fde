use Rattle.pp_events_law.proofs.Asks.{askings}
use Rattle.pp_events_law.proofs.WriteWhole.{writes_whole}
use Rattle.pp_events_law.proofs.asking.origins_are_asked_as_by_the_law.Goals as goal

pub returns : goal.returns
returns c = record { leads = askings; whole = writes_whole }
