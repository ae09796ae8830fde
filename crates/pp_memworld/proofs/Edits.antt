-- Each place of a list is changed in its turn.
use Rattle.std.proofs.Common.{◌≡◌, ℕ, zero, suc, ◌+◌, ◌<◌, List, [], ◌∷◌, ◌++◌, length, take, drop, map, set, get_or, refl, sym, ◌∙◌, ap, arith, add-one}

module _ {A : Type 0} where
  -- those before this place are changed
  abbrev pub changed_front : (A → A) → ℕ → List A → List A
  changed_front f i xs = map f (take i xs) ++ drop i xs

  at : (f : A → A) (xs : List A) (i : ℕ) (d : A) → get_or (changed_front f i xs) i d ≡ get_or xs i d
  at f [] zero d = refl
  at f [] (suc i) d = refl
  at f (x ∷ xs) zero d = refl
  at f (x ∷ xs) (suc i) d = at f xs i d

  more : (f : A → A) (xs : List A) (i : ℕ) (d : A) → i < length xs → set (changed_front f i xs) i (f (get_or xs i d)) ≡ changed_front f (suc i) xs
  more f [] i d within = absurd (omega arith)
  more f (x ∷ xs) zero d within = refl
  more f (x ∷ xs) (suc i) d within = ap (λ ys. f x ∷ ys) (more f xs i d (omega arith))

  pub one_more : (f : A → A) (xs ys : List A) (i : ℕ) (p q : A) → i < length xs → ys ≡ changed_front f i xs → p ≡ get_or ys i p → q ≡ f p
      → set ys i q ≡ changed_front f (i + 1) xs
  one_more f xs ys i p q within so is changed =
      let seen : p ≡ get_or xs i p = is ∙ ap (λ zs. get_or zs i p) so ∙ at f xs i p in
      ap (λ r. set ys i r) (changed ∙ ap f seen) ∙ ap (λ zs. set zs i (f (get_or xs i p))) so ∙ more f xs i p within ∙ ap (λ n. changed_front f n xs) (sym (add-one i))
