-- A name has a field exactly where it has a first value.
use Rattle.std.proofs.Common.{◌≡◌, ℕ, true, false, cond, ◌||◌, List, [], ◌∷◌, map, refl, ap, ◌∙◌, Bor, Option, Some, None}
use Rattle.std.specs.Prelude.{filter, slice_get, is_some, option_copied}
use Rattle.pp_text.specs.Fields.{Field, is_named, has_field, first_value}

is_some-first_value : (name : List ℕ) (fields : List Field) → is_some (first_value name fields) ≡ has_field name fields
is_some-first_value name [] = refl
is_some-first_value name (field ∷ fields) =
    elim (is_named name field)
    as (λ b. is_some (slice_get (map (λ f. f.1) (cond b (field ∷ filter (is_named name) fields) (filter (is_named name) fields))) 0) ≡ (b || has_field name fields)) [
      | true ↦ refl
      | false ↦ is_some-first_value name fields
    ]

pub has_by_first : (name : List ℕ) (fields : List Field) (first : Option (Bor (List ℕ)))
    → option_copied first ≡ first_value name fields → is_some first ≡ has_field name fields
has_by_first name fields None e = ap is_some e ∙ is_some-first_value name fields
has_by_first name fields (Some value) e = ap is_some e ∙ is_some-first_value name fields
