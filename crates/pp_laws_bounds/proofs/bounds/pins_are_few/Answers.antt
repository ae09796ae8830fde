use Rattle.pp_laws_bounds.proofs.SmallLaws.{few_pins}
use Rattle.pp_laws_bounds.proofs.bounds.pins_are_few.Goals as goal

pub returns : goal.returns
returns c = record { few = few_pins }
