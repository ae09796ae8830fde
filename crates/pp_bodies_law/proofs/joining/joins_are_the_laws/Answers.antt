use Rattle.pp_bodies_law.proofs.Joined.{joins}
use Rattle.pp_bodies_law.proofs.joining.joins_are_the_laws.Goals as goal

pub returns : goal.returns
returns c = record { joins = joins }
