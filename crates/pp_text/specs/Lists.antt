-- Comma lists (RFC 2616, section 2.1, the rule "#element").
use Rattle.std.specs.Prelude.{ℕ, cond, ◌==◌, ◌&&◌, not, List, [], ◌∷◌, filter, map}
use Rattle.pp_text.specs.declared.quoting.Quoting.{Quoting}
use Rattle.pp_text.specs.declared.quoting.Quoting.TheVariants.{Outside}
use Rattle.pp_text.specs.Bytes.{is_empty, trim}
use Rattle.pp_text.specs.Quoting.{quoting_after, is_outside}

abbrev pub comma : ℕ
comma = 44

-- a byte joins the first piece
abbrev pub onto_first : ℕ → List (List ℕ) → List (List ℕ)
onto_first b [] = (b ∷ []) ∷ []
onto_first b (piece ∷ pieces) = (b ∷ piece) ∷ pieces

-- the pieces between the commas that stand outside quoted strings
abbrev pub split_from : Quoting → List ℕ → List (List ℕ)
split_from quoting [] = [] ∷ []
split_from quoting (b ∷ text) =
    cond ((b == comma) && is_outside quoting)
    ([] ∷ split_from Outside text)
    (onto_first b (split_from (quoting_after quoting b) text))

-- "null elements are allowed, but do not contribute to the count of elements present"
abbrev pub items_of : List ℕ → List (List ℕ)
items_of text = filter (λ item. not (is_empty item)) (map trim (split_from Outside text))
