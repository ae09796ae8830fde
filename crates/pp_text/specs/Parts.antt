-- Parts of a text and of a list.
use Rattle.std.specs.Prelude.{ℕ, ◌+◌, ◌==◌, List, [], ◌∷◌, take, drop, position, Option, Some, None, option_map}

-- what stands before the first such byte, and behind it
abbrev pub cut_at : ℕ → List ℕ → Option (List ℕ × List ℕ)
cut_at byte text = option_map (λ at. (take at text, drop (at + 1) text)) (position (λ b. b == byte) text)

-- the one element, if there is just one
abbrev pub sole : {A : Type 0} → List A → Option A
sole [] = None
sole (x ∷ []) = Some x
sole (x ∷ y ∷ xs) = None
