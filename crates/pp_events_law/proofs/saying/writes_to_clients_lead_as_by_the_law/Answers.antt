use Rattle.pp_events_law.proofs.Sayings.{sayings_lead}
use Rattle.pp_events_law.proofs.Whole.{writes_whole}
use Rattle.pp_events_law.proofs.saying.writes_to_clients_lead_as_by_the_law.Goals as goal

pub returns : goal.returns
returns c = record { leads = sayings_lead; whole = writes_whole }
