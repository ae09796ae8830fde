use Rattle.pp_laws_sides.proofs.Tops.{come_once, tops_are}
use Rattle.pp_laws_sides.proofs.sides.numbers_come_once.Goals as goal

pub returns : goal.returns
returns c = record { tops = tops_are; once = come_once }
