-- The definitions of this crate computed on literals.
use Rattle.std.specs.Prelude.{⊤}
use Rattle.httpdate.proofs.OnLiterals.{httpdate_on_literals}

-- what an answer unfolds to compute this crate's specs on a literal
unfoldable pub pp_valid_on_literals : ⊤
unfolding httpdate_on_literals
pp_valid_on_literals = tt
