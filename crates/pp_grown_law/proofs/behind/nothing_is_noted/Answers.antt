use Rattle.pp_grown_law.proofs.Noted.{nothing_is_noted}
use Rattle.pp_grown_law.proofs.behind.nothing_is_noted.Goals as goal

pub returns : goal.returns
returns c = nothing_is_noted
