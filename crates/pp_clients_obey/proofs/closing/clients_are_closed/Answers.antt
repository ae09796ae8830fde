use Rattle.pp_clients_obey.proofs.Closes.{cuts_lead, losses_lead, shuts_lead}
use Rattle.pp_clients_obey.proofs.closing.clients_are_closed.Goals as goal

pub returns : goal.returns
returns c = record { lost = losses_lead; cut = cuts_lead; shut = shuts_lead }
