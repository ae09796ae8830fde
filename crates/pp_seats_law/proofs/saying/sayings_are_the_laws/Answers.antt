use Rattle.pp_seats_law.proofs.SaidOn.{sayings}
use Rattle.pp_seats_law.proofs.SaidWhole.{endings, ends_same}
use Rattle.pp_seats_law.proofs.saying.sayings_are_the_laws.Goals as goal

pub returns : goal.returns
returns c = record { said = sayings; over = ends_same; ended = endings }
