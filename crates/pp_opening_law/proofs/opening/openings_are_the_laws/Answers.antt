use Rattle.pp_opening_law.proofs.Beginning.{memory_is, set_as}
use Rattle.pp_opening_law.proofs.opening.openings_are_the_laws.Goals as goal

pub returns : goal.returns
returns c = record { memory = memory_is; settings = set_as }
