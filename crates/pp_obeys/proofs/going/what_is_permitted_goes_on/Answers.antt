use Rattle.pp_obeys.proofs.Laws.{permitted_goes}
use Rattle.pp_obeys.proofs.going.what_is_permitted_goes_on.Goals as goal

pub returns : goal.returns
returns c = record { permitted = permitted_goes }
