-- The first piece of a text and the others, and the items that they give.
use Rattle.std.proofs.Common.{◌≡◌, ℕ, true, false, cond, List, [], ◌∷◌, ◌++◌, refl}
use Rattle.std.specs.Prelude.{◌==◌, ◌&&◌}
use Rattle.pp_text.specs.declared.quoting.Quoting.{Quoting}
use Rattle.pp_text.specs.declared.quoting.Quoting.TheVariants.{Outside}
use Rattle.pp_text.specs.Quoting.{quoting_after, is_outside}
use Rattle.pp_text.specs.Lists.{comma, onto_first, split_from}

-- what stands before the first piece joins it
abbrev pub onto_front : List ℕ → List (List ℕ) → List (List ℕ)
onto_front front [] = front ∷ []
onto_front front (piece ∷ pieces) = (front ++ piece) ∷ pieces

onto_front-nothing : (b : ℕ) (pieces : List (List ℕ)) → onto_front [] (onto_first b pieces) ≡ onto_first b pieces
onto_front-nothing b [] = refl
onto_front-nothing b (piece ∷ pieces) = refl

-- nothing stands before the whole text
pub split_all : (quoting : Quoting) (text : List ℕ) → onto_front [] (split_from quoting text) ≡ split_from quoting text
split_all quoting [] = refl
split_all quoting (b ∷ text) =
    let pieces : List (List ℕ) = split_from (quoting_after quoting b) text in
    let others : List (List ℕ) = split_from Outside text in
    elim ((b == comma) && is_outside quoting) as (λ ends. onto_front [] (cond ends ([] ∷ others) (onto_first b pieces)) ≡ cond ends ([] ∷ others) (onto_first b pieces)) [
      | true ↦ refl
      | false ↦ onto_front-nothing b pieces
    ]
