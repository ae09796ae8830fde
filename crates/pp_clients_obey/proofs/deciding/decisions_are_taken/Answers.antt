use Rattle.pp_clients_obey.proofs.Decides.{asks_lead, follows_lead, pages_lead, relays_lead}
use Rattle.pp_clients_obey.proofs.deciding.decisions_are_taken.Goals as goal

pub returns : goal.returns
returns c = record { pages = pages_lead; asks = asks_lead; follows = follows_lead; relays = relays_lead }
