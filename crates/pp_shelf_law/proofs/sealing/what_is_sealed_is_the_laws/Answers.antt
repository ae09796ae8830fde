use Rattle.pp_shelf_law.proofs.Sealed.{seals}
use Rattle.pp_shelf_law.proofs.sealing.what_is_sealed_is_the_laws.Goals as goal

pub returns : goal.returns
returns c = seals
