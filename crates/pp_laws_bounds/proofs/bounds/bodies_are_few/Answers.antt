use Rattle.pp_laws_bounds.proofs.SmallLaws.{few_bodies}
use Rattle.pp_laws_bounds.proofs.bounds.bodies_are_few.Goals as goal

pub returns : goal.returns
returns c = record { few = few_bodies }
