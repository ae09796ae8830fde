use Rattle.pp_bodies_law.proofs.Delivered.{delivers}
use Rattle.pp_bodies_law.proofs.joining.delivers_are_the_laws.Goals as goal

pub returns : goal.returns
returns c = record { delivers = delivers }
