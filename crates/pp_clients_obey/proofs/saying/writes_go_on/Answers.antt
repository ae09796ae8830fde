use Rattle.pp_clients_obey.proofs.Says.{writes_lead}
use Rattle.pp_clients_obey.proofs.saying.writes_go_on.Goals as goal

pub returns : goal.returns
returns c = record { said = writes_lead }
