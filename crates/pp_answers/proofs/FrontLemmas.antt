-- A text begins with another, but for the case of letters.
use Rattle.std.proofs.Common.{ℕ, List, ◌≡◌, ◌∙◌, ap, sym, nat_eq, min, length, take}
use Rattle.std.proofs.lemmas.List.{length-map, take-map, take_min}
use Rattle.std.specs.Char.{to_ascii_lowercase}
use Rattle.std.specs.List.{starts_with}
use Rattle.std.specs.Prelude.{bytes_eq}
use Rattle.pp_text.specs.Bytes.{is_same, lower}

pub front_same : (name value : List ℕ) → is_same name (take (min (length name) (length value)) value) ≡ starts_with nat_eq (lower value) (lower name)
front_same name value =
    let cut : lower (take (length name) value) ≡ take (length (lower name)) (lower value) =
    sym (take-map to_ascii_lowercase (length name) value) ∙ ap (λ n. take n (lower value)) (sym (length-map name to_ascii_lowercase)) in
    ap (λ t. is_same name t) (take_min (length name) value) ∙ ap (λ t. bytes_eq (lower name) t) cut
