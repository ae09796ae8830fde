-- Two lists whose elements belong together, one each, in their order.
use Rattle.std.specs.Prelude.{List, [], ◌∷◌, Option, Some, None, ⊤}

abbrev pub AreAll : {A B : Type 0} → (A → B → Type 0) → List A → List B → Type 0
AreAll R [] [] = ⊤
AreAll R (x ∷ xs) (y ∷ ys) = R x y × AreAll R xs ys
AreAll R xs ys = ⊥

-- both are there and belong together, or neither is there
abbrev pub AreBoth : {A B : Type 0} → (A → B → Type 0) → Option A → Option B → Type 0
AreBoth R None None = ⊤
AreBoth R (Some x) (Some y) = R x y
AreBoth R x y = ⊥
