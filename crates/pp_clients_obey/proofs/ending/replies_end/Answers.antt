use Rattle.pp_clients_obey.proofs.Ends.{ends_lead, lasts_lead, rests}
use Rattle.pp_clients_obey.proofs.ending.replies_end.Goals as goal

pub returns : goal.returns
returns c = record { rests = rests; next = ends_lead; last = lasts_lead }
