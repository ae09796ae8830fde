use Rattle.pp_laws_bounds.proofs.Laws.{few_connections}
use Rattle.pp_laws_bounds.proofs.bounds.connections_are_few.Goals as goal

pub returns : goal.returns
returns c = record { few = few_connections }
