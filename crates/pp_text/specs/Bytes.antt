-- Octets, and their comparison but for ASCII case (RFC 2616, sections 2.1 and 2.2).
use Rattle.std.specs.Prelude.{ℕ, Bool, true, false, cond, ◌==◌, ◌||◌, List, [], ◌∷◌, map, reverse, bytes_eq}
use Rattle.std.specs.Char.{to_ascii_lowercase}

-- SP and HT, the blanks of LWS
abbrev pub is_blank : ℕ → Bool
is_blank b = (b == 32) || (b == 9)

-- "words or field names are case-insensitive" (section 2.1)
abbrev pub lower : List ℕ → List ℕ
lower text = map to_ascii_lowercase text

abbrev pub is_same : List ℕ → List ℕ → Bool
is_same a b = bytes_eq (lower a) (lower b)

abbrev pub is_empty : {A : Type 0} → List A → Bool
is_empty [] = true
is_empty (x ∷ xs) = false

abbrev pub skip_blanks : List ℕ → List ℕ
skip_blanks [] = []
skip_blanks (b ∷ text) = cond (is_blank b) (skip_blanks text) (b ∷ text)

-- leading and trailing LWS "may be removed without changing the semantics" (section 4.2)
abbrev pub trim : List ℕ → List ℕ
trim text = reverse (skip_blanks (reverse (skip_blanks text)))
