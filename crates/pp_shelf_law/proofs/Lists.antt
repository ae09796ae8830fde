-- Tests that agree on the elements of a list, and what they leave.
use Rattle.std.proofs.Common.{◌≡◌, refl, sym, ap, ap₂, ◌∙◌, Bool, true, false, not, cond, find, filter, List, [], ◌∷◌, ◌||◌, ◌&&◌, Some}
use Rattle.std.specs.List.{list_any}
use Rattle.pp_law.specs.Lists.{without}

-- two tests agree on each element
abbrev pub Agree : {A : Type 0} → (A → Bool) → (A → Bool) → List A → Type 0
Agree p q [] = Unit {0}
Agree p q (x ∷ xs) = (p x ≡ q x) × Agree p q xs

-- where the one holds the other holds
abbrev pub Covers : {A : Type 0} → (A → Bool) → (A → Bool) → List A → Type 0
Covers p q [] = Unit {0}
Covers p q (x ∷ xs) = (q x ≡ true → p x ≡ true) × Covers p q xs

pub true_false : {A : Type 0} → true ≡ false → A
true_false is = absurd (cc is)

module _ {A : Type 0} (p q : A → Bool) where
  pub agree_without : (xs : List A) → Agree p q xs → without p xs ≡ without q xs
  agree_without [] agree = refl
  agree_without (x ∷ xs) agree = ap₂ (λ (b : Bool) (ys : List A). cond (not b) (x ∷ ys) ys) agree.0 (agree_without xs agree.1)

  agree_by : (r : A → Bool) (x : A) (xs : List A) (b : Bool) → p x ≡ q x → Agree p q (filter r xs) → Agree p q (cond b (x ∷ filter r xs) (filter r xs))
  agree_by r x xs true same rest = (same, rest)
  agree_by r x xs false same rest = rest

  pub agree_filter : (r : A → Bool) (xs : List A) → Agree p q xs → Agree p q (filter r xs)
  agree_filter r [] agree = tt
  agree_filter r (x ∷ xs) agree = agree_by r x xs (r x) agree.0 (agree_filter r xs agree.1)

  out : (r : A → Bool) (x : A) (ys : List A) (b : Bool) → r x ≡ b → without r (x ∷ ys) ≡ cond (not b) (x ∷ without r ys) (without r ys)
  out r x ys b is = ap (λ (c : Bool). cond (not c) (x ∷ without r ys) (without r ys)) is

  swap_by : (x : A) (xs : List A) (a b : Bool) → p x ≡ a → q x ≡ b → without p (without q xs) ≡ without q (without p xs)
      → without p (cond (not b) (x ∷ without q xs) (without q xs)) ≡ without q (cond (not a) (x ∷ without p xs) (without p xs))
  swap_by x xs true true ia ib rest = rest
  swap_by x xs true false ia ib rest = out p x (without q xs) true ia ∙ rest
  swap_by x xs false true ia ib rest = rest ∙ sym (out q x (without p xs) true ib)
  swap_by x xs false false ia ib rest = out p x (without q xs) false ia ∙ ap (λ (ys : List A). x ∷ ys) rest ∙ sym (out q x (without p xs) false ib)

  pub without_swap : (xs : List A) → without p (without q xs) ≡ without q (without p xs)
  without_swap [] = refl
  without_swap (x ∷ xs) = swap_by x xs (p x) (q x) refl refl (without_swap xs)

  covered_by : (x : A) (xs : List A) (b : Bool) → q x ≡ b → (q x ≡ true → p x ≡ true) → without p (without q xs) ≡ without p xs → without p (cond (not b) (x ∷ without q xs) (without q xs)) ≡ without p (x ∷ xs)
  covered_by x xs true is covers rest = rest ∙ sym (out p x xs true (covers is))
  covered_by x xs false is covers rest = ap (λ (ys : List A). cond (not (p x)) (x ∷ ys) ys) rest

  -- what the one leaves, the other has left already
  pub without_covered : (xs : List A) → Covers p q xs → without p (without q xs) ≡ without p xs
  without_covered [] covers = refl
  without_covered (x ∷ xs) covers = covered_by x xs (q x) refl covers.0 (without_covered xs covers.1)

  found_by : (x : A) (xs : List A) (y : A) (b : Bool) → (find q xs ≡ Some y → list_any (λ z. q z && p z) xs ≡ true) → cond b (Some x) (find q xs) ≡ Some y → p y ≡ true → ((b && p x) || list_any (λ z. q z && p z) xs) ≡ true
  found_by x xs y true rest eq holds = let same : x ≡ y = cc eq in ap (λ (b : Bool). b || list_any (λ z. q z && p z) xs) (ap p same ∙ holds)
  found_by x xs y false rest eq holds = rest eq

  -- what is found by one passes both
  pub any_found : (xs : List A) (y : A) → find q xs ≡ Some y → p y ≡ true → list_any (λ x. q x && p x) xs ≡ true
  any_found [] y found holds = absurd (cc found)
  any_found (x ∷ xs) y found holds = found_by x xs y (q x) (λ eq. any_found xs y eq holds) found holds

covers_itself : {A : Type 0} (p : A → Bool) (xs : List A) → Covers p p xs
covers_itself p [] = tt
covers_itself p (x ∷ xs) = ((λ is. is), covers_itself p xs)

pub without_twice : {A : Type 0} (p : A → Bool) (xs : List A) → without p (without p xs) ≡ without p xs
without_twice p xs = without_covered p p xs (covers_itself p xs)
