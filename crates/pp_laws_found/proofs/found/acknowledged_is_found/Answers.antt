use Rattle.pp_laws_found.proofs.FoundLaws.{acknowledged_found}
use Rattle.pp_laws_found.proofs.found.acknowledged_is_found.Goals as goal

pub returns : goal.returns
returns c = record { found = acknowledged_found }
