use Rattle.pp_laws_bounds.proofs.Laws.{few_clients}
use Rattle.pp_laws_bounds.proofs.bounds.clients_are_few.Goals as goal

pub returns : goal.returns
returns c = record { few = few_clients }
