use Rattle.pp_events_law.proofs.Accepts.{accepts}
use Rattle.pp_events_law.proofs.silent.clients_come_as_by_the_law.Goals as goal

pub returns : goal.returns
returns c = record { leads = accepts }
