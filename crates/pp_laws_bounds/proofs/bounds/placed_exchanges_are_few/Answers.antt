use Rattle.pp_laws_bounds.proofs.Placed.{few_placed}
use Rattle.pp_laws_bounds.proofs.bounds.placed_exchanges_are_few.Goals as goal

pub returns : goal.returns
returns c = record { few = few_placed }
