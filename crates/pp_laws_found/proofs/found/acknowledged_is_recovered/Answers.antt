use Rattle.pp_laws_found.proofs.FoundLaws.{acknowledged_recovered}
use Rattle.pp_laws_found.proofs.found.acknowledged_is_recovered.Goals as goal

pub returns : goal.returns
returns c = record { recovered = acknowledged_recovered }
