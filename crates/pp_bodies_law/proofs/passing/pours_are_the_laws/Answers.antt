use Rattle.pp_bodies_law.proofs.Bytes.{pours_are}
use Rattle.pp_bodies_law.proofs.passing.pours_are_the_laws.Goals as goal

pub returns : goal.returns
returns c = record { pours = pours_are }
