use Rattle.pp_laws_sides.proofs.Linked.{numbers_rise}
use Rattle.pp_laws_sides.proofs.sides.numbers_rise.Goals as goal

pub returns : goal.returns
returns c = record { rise = numbers_rise }
