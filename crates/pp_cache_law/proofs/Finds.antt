-- What is found, and what is kept, of what is kept of a list.
use Rattle.std.proofs.Common.{◌≡◌, ◌≤◌, ◌+◌, refl, sym, ap, ◌∙◌, Bool, true, false, cond, find, List, [], ◌∷◌, ◌++◌, map, filter, Option, Some, None, option_map, arith}
use Rattle.std.specs.Prelude.{count_by}
use Rattle.pp_cache_law.proofs.Numbers.{some_is, true_false}
use Rattle.pp_cache_law.proofs.PairLemmas.{AreOnly, count_first}

abbrev pub first_of_two : {A : Type 0} → Option A → Option A → Option A
first_of_two None y = y
first_of_two (Some x) y = Some x

pub find_joined : {A : Type 0} (p : A → Bool) (xs ys : List A) → find p (xs ++ ys) ≡ first_of_two (find p xs) (find p ys)
find_joined p [] ys = refl
find_joined p (x ∷ xs) ys = by (p x) (find_joined p xs ys)
  where
    by : (b : Bool) → find p (xs ++ ys) ≡ first_of_two (find p xs) (find p ys) → cond b (Some x) (find p (xs ++ ys)) ≡ first_of_two (cond b (Some x) (find p xs)) (find p ys)
    by true same = refl
    by false same = same

isnt : (p q : Bool) → (p ≡ true → q ≡ true) → q ≡ false → p ≡ false
isnt true q to e = absurd (true_false (sym (to refl) ∙ e))
isnt false q to e = refl

-- it is among those that are kept
pub find_kept : {A : Type 0} (p q : A → Bool) (xs : List A) → ((x : A) → p x ≡ true → q x ≡ true) → find p (filter q xs) ≡ find p xs
find_kept p q [] to = refl
find_kept {A = A} p q (x ∷ xs) to = by (q x) refl (find_kept p q xs to)
  where
    by : (b : Bool) → q x ≡ b → find p (filter q xs) ≡ find p xs → find p (cond b (x ∷ filter q xs) (filter q xs)) ≡ cond (p x) (Some x) (find p xs)
    by true e same = ap (λ (u : Option A). cond (p x) (Some x) u) same
    by false e same = same ∙ sym (ap (λ (b : Bool). cond b (Some x) (find p xs)) (isnt (p x) (q x) (to x) e))

-- it is among those that are not
pub find_out : {A : Type 0} (p q : A → Bool) (xs : List A) → ((x : A) → q x ≡ true → p x ≡ false) → find p (filter q xs) ≡ None
find_out p q [] to = refl
find_out p q (x ∷ xs) to = by (q x) refl (find_out p q xs to)
  where
    by : (b : Bool) → q x ≡ b → find p (filter q xs) ≡ None → find p (cond b (x ∷ filter q xs) (filter q xs)) ≡ None
    by true e none = ap (λ (b : Bool). cond b (Some x) (find p (filter q xs))) (to x e) ∙ none
    by false e none = none

pub find_mapped : {A : Type 0} (p : A → Bool) (f : A → A) (xs : List A) → ((x : A) → p (f x) ≡ p x) → find p (map f xs) ≡ option_map f (find p xs)
find_mapped p f [] same = refl
find_mapped p f (x ∷ xs) same = ap (λ (b : Bool). cond b (Some (f x)) (find p (map f xs))) (same x) ∙ by (p x) (find_mapped p f xs same)
  where
    by : (b : Bool) → find p (map f xs) ≡ option_map f (find p xs) → cond b (Some (f x)) (find p (map f xs)) ≡ option_map f (cond b (Some x) (find p xs))
    by true rest = refl
    by false rest = rest

none_some : {A : Type 0} (x : A) → None ≡ Some x → ⊥
none_some x e = absurd cc

-- where there is none, there is none of those that are kept
pub none_within : {A : Type 0} (p q : A → Bool) (xs : List A) → find p xs ≡ None → find p (filter q xs) ≡ None
none_within p q [] none = refl
none_within p q (x ∷ xs) none = by (p x) refl (q x) (λ f. none_within p q xs f) none
  where
    by : (b : Bool) → p x ≡ b → (c : Bool) → (find p xs ≡ None → find p (filter q xs) ≡ None) → cond b (Some x) (find p xs) ≡ None → find p (cond c (x ∷ filter q xs) (filter q xs)) ≡ None
    by true e c rest f = absurd (none_some x (sym f))
    by false e true rest f = ap (λ (b : Bool). cond b (Some x) (find p (filter q xs))) e ∙ rest f
    by false e false rest f = rest f

-- nor does it hold of one that another test finds
pub none_passes : {A : Type 0} (p q : A → Bool) (xs : List A) (y : A) → find p xs ≡ None → find q xs ≡ Some y → p y ≡ false
none_passes p q [] y none e = absurd (none_some y e)
none_passes {A = A} p q (x ∷ xs) y none e = by (p x) refl (q x) (λ f g. none_passes p q xs y f g) none e
  where
    by : (b : Bool) → p x ≡ b → (c : Bool) → (find p xs ≡ None → find q xs ≡ Some y → p y ≡ false) → cond b (Some x) (find p xs) ≡ None → cond c (Some x) (find q xs) ≡ Some y → p y ≡ false
    by true is c rest f g = absurd (none_some x (sym f))
    by false isnt true rest f g = ap (λ (z : A). p z) (sym (some_is x y g)) ∙ isnt
    by false isnt false rest f g = rest f g

-- ---- where a test holds once at most

pub none_kept : {A : Type 0} (p : A → Bool) (xs : List A) → find p xs ≡ None → filter p xs ≡ []
none_kept p [] e = refl
none_kept p (x ∷ xs) e = by (p x) (λ f. none_kept p xs f) e
  where
    by : (b : Bool) → (find p xs ≡ None → filter p xs ≡ []) → cond b (Some x) (find p xs) ≡ None → cond b (x ∷ filter p xs) (filter p xs) ≡ []
    by true rest f = absurd (none_some x (sym f))
    by false rest f = rest f

pub none_counted : {A : Type 0} (p : A → Bool) (xs : List A) → count_by p xs ≡ 0 → filter p xs ≡ []
none_counted p [] e = refl
none_counted p (x ∷ xs) e = by (p x) (λ f. none_counted p xs f) (sym (count_first p x xs) ∙ e)
  where
    by : (b : Bool) → (count_by p xs ≡ 0 → filter p xs ≡ []) → cond b 1 0 + count_by p xs ≡ 0 → cond b (x ∷ filter p xs) (filter p xs) ≡ []
    by true rest f = absurd (omega (arith, f))
    by false rest f = rest (omega (arith, f))

pub none_found : {A : Type 0} (p : A → Bool) (xs : List A) → find p xs ≡ None → count_by p xs ≡ 0
none_found p [] e = refl
none_found p (x ∷ xs) e = count_first p x xs ∙ by (p x) (λ f. none_found p xs f) e
  where
    by : (b : Bool) → (find p xs ≡ None → count_by p xs ≡ 0) → cond b (Some x) (find p xs) ≡ None → cond b 1 0 + count_by p xs ≡ 0
    by true rest f = absurd (none_some x (sym f))
    by false rest f = omega (arith, rest f)

pub found_counted : {A : Type 0} (p : A → Bool) (xs : List A) (y : A) → find p xs ≡ Some y → 1 ≤ count_by p xs
found_counted p [] y e = absurd (none_some y e)
found_counted p (x ∷ xs) y e = by (p x) refl (λ f. found_counted p xs y f) e
  where
    by : (b : Bool) → p x ≡ b → (find p xs ≡ Some y → 1 ≤ count_by p xs) → cond b (Some x) (find p xs) ≡ Some y → 1 ≤ count_by p (x ∷ xs)
    by true is rest f = let first : count_by p (x ∷ xs) ≡ 1 + count_by p xs = count_first p x xs ∙ ap (λ (b : Bool). cond b 1 0 + count_by p xs) is in omega (arith, first)
    by false isnt rest f = let more : 1 ≤ count_by p xs = rest f in omega (arith, more, count_first p x xs)

pub one_kept : {A : Type 0} (p : A → Bool) (xs : List A) (y : A) → count_by p xs ≤ 1 → find p xs ≡ Some y → filter p xs ≡ y ∷ []
one_kept p [] y few e = absurd (none_some y e)
one_kept {A = A} p (x ∷ xs) y few e = by (p x) (λ less f. one_kept p xs y less f) (let e : cond (p x) 1 0 + count_by p xs ≤ 1 = omega (arith, few, count_first p x xs) in e) e
  where
    by : (b : Bool) → (count_by p xs ≤ 1 → find p xs ≡ Some y → filter p xs ≡ y ∷ []) → cond b 1 0 + count_by p xs ≤ 1 → cond b (Some x) (find p xs) ≡ Some y → cond b (x ∷ filter p xs) (filter p xs) ≡ y ∷ []
    by true rest less f =
        let none : count_by p xs ≡ 0 = omega (arith, less) in
        ap (λ (zs : List A). x ∷ zs) (none_counted p xs none) ∙ ap (λ (z : A). z ∷ []) (some_is x y f)
    by false rest less f = rest (omega (arith, less)) f

pub find_passes : {A : Type 0} (p : A → Bool) (xs : List A) (y : A) → find p xs ≡ Some y → p y ≡ true
find_passes p [] y e = absurd (none_some y e)
find_passes {A = A} p (x ∷ xs) y e = by (p x) refl (λ f. find_passes p xs y f) e
  where
    by : (b : Bool) → p x ≡ b → (find p xs ≡ Some y → p y ≡ true) → cond b (Some x) (find p xs) ≡ Some y → p y ≡ true
    by true is rest f = ap (λ (z : A). p z) (sym (some_is x y f)) ∙ is
    by false isnt rest f = rest f

none_only : {A : Type 0} (p : A → Bool) (y : A) (xs : List A) → count_by p xs ≡ 0 → AreOnly p y xs
none_only p y [] e = tt
none_only p y (x ∷ xs) e = by (p x) refl (λ f. none_only p y xs f) (sym (count_first p x xs) ∙ e)
  where
    by : (b : Bool) → p x ≡ b → (count_by p xs ≡ 0 → AreOnly p y xs) → cond b 1 0 + count_by p xs ≡ 0 → AreOnly p y (x ∷ xs)
    by true is rest f = absurd (omega (arith, f))
    by false isnt rest f = ((λ is. absurd (true_false (sym is ∙ isnt))), rest (omega (arith, f)))

pub one_only : {A : Type 0} (p : A → Bool) (xs : List A) (y : A) → count_by p xs ≤ 1 → find p xs ≡ Some y → AreOnly p y xs
one_only p [] y few e = tt
one_only p (x ∷ xs) y few e = by (p x) refl (λ less f. one_only p xs y less f) (let f : cond (p x) 1 0 + count_by p xs ≤ 1 = omega (arith, few, count_first p x xs) in f) e
  where
    by : (b : Bool) → p x ≡ b → (count_by p xs ≤ 1 → find p xs ≡ Some y → AreOnly p y xs) → cond b 1 0 + count_by p xs ≤ 1 → cond b (Some x) (find p xs) ≡ Some y → AreOnly p y (x ∷ xs)
    by true is rest less f = ((λ same. some_is x y f), none_only p y xs (omega (arith, less)))
    by false isnt rest less f = ((λ is. absurd (true_false (sym is ∙ isnt))), rest (omega (arith, less)) f)

-- one that another test finds
some_counted : {A : Type 0} (p q : A → Bool) (xs : List A) (y : A) → find q xs ≡ Some y → p y ≡ true → 1 ≤ count_by p xs
some_counted p q [] y e is = absurd (none_some y e)
some_counted {A = A} p q (x ∷ xs) y e is = by (q x) (λ f. some_counted p q xs y f is) e
  where
    by : (b : Bool) → (find q xs ≡ Some y → 1 ≤ count_by p xs) → cond b (Some x) (find q xs) ≡ Some y → 1 ≤ count_by p (x ∷ xs)
    by true rest f =
        let first : count_by p (x ∷ xs) ≡ 1 + count_by p xs = count_first p x xs ∙ ap (λ (b : Bool). cond b 1 0 + count_by p xs) (ap (λ (z : A). p z) (some_is x y f) ∙ is) in
        omega (arith, first)
    by false rest f = let more : 1 ≤ count_by p xs = rest f in omega (arith, more, count_first p x xs)

pub only_found : {A : Type 0} (p q : A → Bool) (xs : List A) (y : A) → find q xs ≡ Some y → p y ≡ true → count_by p xs ≤ 1 → AreOnly p y xs
only_found p q [] y e is few = tt
only_found {A = A} p q (x ∷ xs) y e is few = by (q x) (λ f less. only_found p q xs y f is less) e
  where
    by : (b : Bool) → (find q xs ≡ Some y → count_by p xs ≤ 1 → AreOnly p y xs) → cond b (Some x) (find q xs) ≡ Some y → AreOnly p y (x ∷ xs)
    by true rest f =
        let first : count_by p (x ∷ xs) ≡ 1 + count_by p xs = count_first p x xs ∙ ap (λ (b : Bool). cond b 1 0 + count_by p xs) (ap (λ (z : A). p z) (some_is x y f) ∙ is) in
        ((λ same. some_is x y f), none_only p y xs (omega (arith, first, few)))
    by false rest f = ((λ same. absurd (too_many same)), rest f (omega (arith, few, count_first p x xs)))
      where
        too_many : p x ≡ true → ⊥
        too_many same =
            let first : count_by p (x ∷ xs) ≡ 1 + count_by p xs = count_first p x xs ∙ ap (λ (b : Bool). cond b 1 0 + count_by p xs) same in
            absurd (omega (arith, first, few, some_counted p q xs y f is))

pub none_changed : {A : Type 0} (p : A → Bool) (f : A → A) (xs : List A) → find p xs ≡ None → map (λ x. elim (p x) as (λ b. A) [ true ↦ f x | false ↦ x ]) xs ≡ xs
none_changed p f [] e = refl
none_changed {A = A} p f (x ∷ xs) e = by (p x) (λ g. none_changed p f xs g) e
  where
    by : (b : Bool) → (find p xs ≡ None → map (λ y. elim (p y) as (λ c. A) [ true ↦ f y | false ↦ y ]) xs ≡ xs) → cond b (Some x) (find p xs) ≡ None → (elim b as (λ c. A) [ true ↦ f x | false ↦ x ]) ∷ map (λ y. elim (p y) as (λ c. A) [ true ↦ f y | false ↦ y ]) xs ≡ x ∷ xs
    by true rest g = absurd (none_some x (sym g))
    by false rest g = ap (λ (zs : List A). x ∷ zs) (rest g)
