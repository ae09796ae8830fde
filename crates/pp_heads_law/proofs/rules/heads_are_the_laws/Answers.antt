use Rattle.pp_heads_law.proofs.Ruled.{clears, disproved, private}
use Rattle.pp_heads_law.proofs.rules.heads_are_the_laws.Goals as goal

pub returns : goal.returns
returns c = record { clears = clears; private = private; disproves = disproved }
