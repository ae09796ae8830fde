-- Words for lists of records.
use Rattle.std.specs.Prelude.{ℕ, Bool, true, false, not, ◌==◌, List, [], ◌∷◌, map, filter, bytes_eq, Option, Some, None}
use Rattle.std.specs.List.{list_any}

abbrev pub Bytes : Type 0
Bytes = List ℕ

-- those of which the test holds are changed
abbrev pub change : {A : Type 0} → (A → Bool) → (A → A) → List A → List A
change test to xs = map (λ x. elim (test x) [ true ↦ to x | false ↦ x ]) xs

abbrev pub without : {A : Type 0} → (A → Bool) → List A → List A
without test xs = filter (λ x. not (test x)) xs

-- what the first has that has any
abbrev pub first_some : {A B : Type 0} → (A → Option B) → List A → Option B
first_some f [] = None
first_some f (x ∷ xs) = elim (f x) [ Some y ↦ Some y | None ↦ first_some f xs ]

abbrev pub has_number : ℕ → List ℕ → Bool
has_number n ns = list_any (λ m. m == n) ns

abbrev pub has_text : Bytes → List Bytes → Bool
has_text text texts = list_any (λ t. bytes_eq t text) texts

-- there is one, and the test holds of it
abbrev pub is_some_with : {A : Type 0} → (A → Bool) → Option A → Bool
is_some_with test None = false
is_some_with test (Some x) = test x

abbrev pub is_this : ℕ → Option ℕ → Bool
is_this n None = false
is_this n (Some m) = m == n
