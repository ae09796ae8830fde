use Rattle.pp_events_law.proofs.Hears.{hearings_lead}
use Rattle.pp_events_law.proofs.ReadWhole.{reads_whole}
use Rattle.pp_events_law.proofs.reading.clients_are_heard_as_by_the_law.Goals as goal

pub returns : goal.returns
returns c = record { leads = hearings_lead; whole = reads_whole }
