-- Searches, counts and changes of a list.
use Rattle.std.proofs.Common.{ℕ, zero, suc, ◌+◌, ◌<◌, ◌≤◌, ◌≡◌, Bool, true, false, not, ◌||◌, cond, List, [], ◌∷◌, ◌++◌, length, map, filter, get_or, set, arith, refl, sym, ◌∙◌, ap, subst, Option, Some, None}
use Rattle.std.specs.Prelude.{count_by, is_some}
use Rattle.std.specs.List.{find, list_any, All, position, position_from}
use Rattle.std.proofs.lemmas.Iterator.Adapters.{position_from-zero}
use Rattle.std.proofs.lemmas.Grind.{common_steps}
use Rattle.std.proofs.lemmas.List.Elements.{All-nil, All-cons, All-head, All-tail}

abbrev pub one : Bool → ℕ
one b = cond b 1 0

pub no_more : (b : Bool) → one false ≤ one b
no_more b = omega arith

weaker_one : (a b : Bool) → (a ≡ true → b ≡ true) → one a ≤ one b
weaker_one true b h = omega (arith, ap one (h refl))
weaker_one false b h = omega arith

module _ {X : Type 0} where
  counted : (p : X → Bool) (x : X) (xs : List X) (b : Bool) → p x ≡ b → count_by p (x ∷ xs) ≡ one b + count_by p xs
  counted p x xs true e = grind (arith, common_steps, e)
  counted p x xs false e = grind (arith, common_steps, e)

  pub count-cons : (p : X → Bool) (x : X) (xs : List X) → count_by p (x ∷ xs) ≡ one (p x) + count_by p xs
  count-cons p x xs = counted p x xs (p x) refl

  pub count-append : (p : X → Bool) (xs ys : List X) → count_by p (xs ++ ys) ≡ count_by p xs + count_by p ys
  count-append p [] ys = omega arith
  count-append p (x ∷ xs) ys = omega (arith, count-cons p x (xs ++ ys), count-cons p x xs, count-append p xs ys)

  pub count-push : (p : X → Bool) (xs : List X) (x : X) → count_by p (xs ++ x ∷ []) ≡ count_by p xs + one (p x)
  count-push p xs x = omega (arith, count-append p xs (x ∷ []), count-cons p x [])

  pub count-filter : (p q : X → Bool) (xs : List X) → count_by p (filter q xs) ≤ count_by p xs
  count-filter p q [] = omega arith
  count-filter p q (x ∷ xs) = by (q x) (count-filter p q xs)
    where
      by : (b : Bool) → count_by p (filter q xs) ≤ count_by p xs → count_by p (cond b (x ∷ filter q xs) (filter q xs)) ≤ count_by p (x ∷ xs)
      by true ih = omega (arith, ih, count-cons p x xs, count-cons p x (filter q xs))
      by false ih = omega (arith, ih, count-cons p x xs)

  pub count-same : (p q : X → Bool) (f : X → X) (xs : List X) → ((x : X) → p (f x) ≡ p x) → count_by p (map (λ x. cond (q x) (f x) x) xs) ≡ count_by p xs
  count-same p q f [] same = refl
  count-same p q f (x ∷ xs) same = by (q x) (count-same p q f xs same)
    where
      by : (b : Bool) → count_by p (map (λ y. cond (q y) (f y) y) xs) ≡ count_by p xs → count_by p (cond b (f x) x ∷ map (λ y. cond (q y) (f y) y) xs) ≡ count_by p (x ∷ xs)
      by true ih = omega (arith, ih, count-cons p (f x) (map (λ y. cond (q y) (f y) y) xs), count-cons p x xs, ap one (same x))
      by false ih = omega (arith, ih, count-cons p x (map (λ y. cond (q y) (f y) y) xs), count-cons p x xs)

  pub count-weaker : (p q : X → Bool) (xs : List X) → ((x : X) → q x ≡ true → p x ≡ true) → count_by q xs ≤ count_by p xs
  count-weaker p q [] h = omega arith
  count-weaker p q (x ∷ xs) h = omega (arith, count-cons p x xs, count-cons q x xs, count-weaker p q xs h, weaker_one (q x) (p x) (h x))

  -- nothing is found where nothing passes
  pub find_none : (p : X → Bool) (xs : List X) → find p xs ≡ None → count_by p xs ≡ 0
  find_none p [] e = refl
  find_none p (x ∷ xs) e = by (p x) refl e (find_none p xs)
    where
      by : (b : Bool) → p x ≡ b → cond b (Some x) (find p xs) ≡ None → (find p xs ≡ None → count_by p xs ≡ 0) → count_by p (x ∷ xs) ≡ 0
      by true is e ih = absurd cc
      by false is e ih = omega (arith, count-cons p x xs, ap one is, ih e)

  pub any_none : (p : X → Bool) (xs : List X) → list_any p xs ≡ false → count_by p xs ≡ 0
  any_none p [] e = refl
  any_none p (x ∷ xs) e = by (p x) refl e (any_none p xs)
    where
      by : (b : Bool) → p x ≡ b → (b || list_any p xs) ≡ false → (list_any p xs ≡ false → count_by p xs ≡ 0) → count_by p (x ∷ xs) ≡ 0
      by true is e ih = absurd cc
      by false is e ih = omega (arith, count-cons p x xs, ap one is, ih e)

  pub none_pass : (p : X → Bool) (xs : List X) → count_by p xs ≡ 0 → All (λ x. p x ≡ false) xs
  none_pass p [] e = All-nil (λ x. p x ≡ false)
  none_pass p (x ∷ xs) e = All-cons (λ y. p y ≡ false) x xs (by (p x) refl) (none_pass p xs (omega (arith, e, count-cons p x xs)))
    where
      by : (b : Bool) → p x ≡ b → b ≡ false
      by true is = absurd (omega (arith, e, count-cons p x xs, ap one is))
      by false is = refl

  pub found_passes : (q : X → Bool) (xs : List X) (y : X) → find q xs ≡ Some y → q y ≡ true
  found_passes q [] y e = absurd cc
  found_passes q (x ∷ xs) y e = by (q x) refl e (found_passes q xs y)
    where
      same : Some x ≡ Some y → x ≡ y
      same is = cc

      by : (b : Bool) → q x ≡ b → cond b (Some x) (find q xs) ≡ Some y → (find q xs ≡ Some y → q y ≡ true) → q y ≡ true
      by true is e ih = sym (ap q (same e)) ∙ is
      by false is e ih = ih e

  pub found_counts : (p q : X → Bool) (xs : List X) (y : X) → ((x : X) → q x ≡ true → p x ≡ true) → find q xs ≡ Some y → 1 ≤ count_by p xs
  found_counts p q [] y h e = absurd cc
  found_counts p q (x ∷ xs) y h e = by (q x) refl e (found_counts p q xs y h)
    where
      by : (b : Bool) → q x ≡ b → cond b (Some x) (find q xs) ≡ Some y → (find q xs ≡ Some y → 1 ≤ count_by p xs) → 1 ≤ count_by p (x ∷ xs)
      by true is e ih = omega (arith, count-cons p x xs, ap one (h x is))
      by false is e ih = omega (arith, count-cons p x xs, ih e)

  -- one fewer passes without what is found
  pub one_out : (p q : X → Bool) (xs : List X) (y : X) → ((x : X) → q x ≡ true → p x ≡ true) → find q xs ≡ Some y → count_by p (filter (λ x. not (q x)) xs) + 1 ≤ count_by p xs
  one_out p q [] y h e = absurd cc
  one_out p q (x ∷ xs) y h e = by (q x) refl e (one_out p q xs y h)
    where
      by : (b : Bool) → q x ≡ b → cond b (Some x) (find q xs) ≡ Some y → (find q xs ≡ Some y → count_by p (filter (λ z. not (q z)) xs) + 1 ≤ count_by p xs)
          → count_by p (cond (not b) (x ∷ filter (λ z. not (q z)) xs) (filter (λ z. not (q z)) xs)) + 1 ≤ count_by p (x ∷ xs)
      by true is e ih = omega (arith, count-cons p x xs, ap one (h x is), count-filter p (λ z. not (q z)) xs)
      by false is e ih = omega (arith, count-cons p x xs, count-cons p x (filter (λ z. not (q z)) xs), ih e)

  -- where at most one passes, it is the one that is found
  pub only : (p q : X → Bool) (xs : List X) (y : X) → ((x : X) → q x ≡ true → p x ≡ true) → count_by p xs ≤ 1 → find q xs ≡ Some y → All (λ x. p x ≡ true → x ≡ y) xs
  only p q [] y h few e = absurd cc
  only p q (x ∷ xs) y h few e = by (q x) refl e (only p q xs y h)
    where
      same : Some x ≡ Some y → x ≡ y
      same is = cc

      never : (z : X) → p z ≡ false → p z ≡ true → z ≡ y
      never z differs passes = absurd cc

      by : (b : Bool) → q x ≡ b → cond b (Some x) (find q xs) ≡ Some y → (count_by p xs ≤ 1 → find q xs ≡ Some y → All (λ z. p z ≡ true → z ≡ y) xs) → All (λ z. p z ≡ true → z ≡ y) (x ∷ xs)
      by true is e ih =
          let none = none_pass p xs (omega (arith, few, count-cons p x xs, ap one (h x is))) in
          All-cons (λ z. p z ≡ true → z ≡ y) x xs (λ passes. same e) (λ k d lt. never (get_or xs k d) (none k d lt))
      by false is e ih =
          let some = found_counts p q xs y h e in
          All-cons (λ z. p z ≡ true → z ≡ y) x xs (λ passes. absurd (omega (arith, few, some, count-cons p x xs, ap one passes))) (ih (omega (arith, few, count-cons p x xs)) e)

  pub first_at : (p : X → Bool) (xs : List X) (i : ℕ) (d : X) → i < length xs → p (get_or xs i d) ≡ true → ((k : ℕ) → k < i → p (get_or xs k d) ≡ false) → find p xs ≡ Some (get_or xs i d)
  first_at p [] i d lt passes before = absurd (omega (arith, lt))
  first_at p (x ∷ xs) zero d lt passes before = ap (λ b. cond b (Some x) (find p xs)) passes
  first_at p (x ∷ xs) (suc i) d lt passes before = ap (λ b. cond b (Some x) (find p xs)) (before 0 (omega arith)) ∙ first_at p xs i d (omega (arith, lt)) passes (λ k less. before (suc k) (omega (arith, less)))

  unchanged : (q : X → Bool) (f : X → X) (xs : List X) → count_by q xs ≡ 0 → map (λ x. cond (q x) (f x) x) xs ≡ xs
  unchanged q f [] e = refl
  unchanged q f (x ∷ xs) e = by (q x) refl (unchanged q f xs (omega (arith, e, count-cons q x xs)))
    where
      by : (b : Bool) → q x ≡ b → map (λ y. cond (q y) (f y) y) xs ≡ xs → cond b (f x) x ∷ map (λ y. cond (q y) (f y) y) xs ≡ x ∷ xs
      by true is ih = absurd (omega (arith, e, count-cons q x xs, ap one is))
      by false is ih = ap (λ ys. x ∷ ys) ih

  passes_counts : (q : X → Bool) (xs : List X) (i : ℕ) (d : X) → i < length xs → q (get_or xs i d) ≡ true → 1 ≤ count_by q xs
  passes_counts q [] i d lt passes = absurd (omega (arith, lt))
  passes_counts q (x ∷ xs) zero d lt passes = omega (arith, count-cons q x xs, ap one passes)
  passes_counts q (x ∷ xs) (suc i) d lt passes = omega (arith, count-cons q x xs, passes_counts q xs i d (omega (arith, lt)) passes)

  -- a change at the one place that passes
  pub changed_at : (q : X → Bool) (f : X → X) (xs : List X) (i : ℕ) (d : X) → i < length xs → q (get_or xs i d) ≡ true → count_by q xs ≤ 1
      → set xs i (f (get_or xs i d)) ≡ map (λ x. cond (q x) (f x) x) xs
  changed_at q f [] i d lt passes few = absurd (omega (arith, lt))
  changed_at q f (x ∷ xs) zero d lt passes few =
      let rest = unchanged q f xs (omega (arith, few, count-cons q x xs, ap one passes)) in
      ap (λ ys. f x ∷ ys) (sym rest) ∙ ap (λ b. cond b (f x) x ∷ map (λ y. cond (q y) (f y) y) xs) (sym passes)
  changed_at q f (x ∷ xs) (suc i) d lt passes few = by (q x) refl (changed_at q f xs i d (omega (arith, lt)) passes)
    where
      inner : i < length xs
      inner = omega (arith, lt)

      by : (b : Bool) → q x ≡ b → (count_by q xs ≤ 1 → set xs i (f (get_or xs i d)) ≡ map (λ y. cond (q y) (f y) y) xs) → x ∷ set xs i (f (get_or xs i d)) ≡ cond b (f x) x ∷ map (λ y. cond (q y) (f y) y) xs
      by true is ih = absurd (omega (arith, few, count-cons q x xs, ap one is, passes_counts q xs i d inner passes))
      by false is ih = ap (λ ys. x ∷ ys) (ih (omega (arith, few, count-cons q x xs)))

  -- what all have, through a filter and a change
  pub All-filter : (q : X → Bool) (P Q : X → Type 0) (xs : List X) → All P xs → ((x : X) → P x → q x ≡ true → Q x) → All Q (filter q xs)
  All-filter q P Q [] all step = All-nil Q
  All-filter q P Q (x ∷ xs) all step = by (q x) refl (All-filter q P Q xs (All-tail P x xs all) step)
    where
      by : (b : Bool) → q x ≡ b → All Q (filter q xs) → All Q (cond b (x ∷ filter q xs) (filter q xs))
      by true is ih = All-cons Q x (filter q xs) (step x (All-head P x xs all) is) ih
      by false is ih = ih

  pub All-changed : (q : X → Bool) (f : X → X) (P Q : X → Type 0) (xs : List X) → All P xs → ((x : X) → P x → q x ≡ true → Q (f x)) → ((x : X) → P x → q x ≡ false → Q x)
      → All Q (map (λ x. cond (q x) (f x) x) xs)
  All-changed q f P Q [] all at off = All-nil Q
  All-changed q f P Q (x ∷ xs) all at off = by (q x) refl (All-changed q f P Q xs (All-tail P x xs all) at off)
    where
      by : (b : Bool) → q x ≡ b → All Q (map (λ y. cond (q y) (f y) y) xs) → All Q (cond b (f x) x ∷ map (λ y. cond (q y) (f y) y) xs)
      by true is ih = All-cons Q (f x) (map (λ y. cond (q y) (f y) y) xs) (at x (All-head P x xs all) is) ih
      by false is ih = All-cons Q x (map (λ y. cond (q y) (f y) y) xs) (off x (All-head P x xs all) is) ih

  -- what a search by another test finds is still found
  pub still_found : (p q : X → Bool) (xs : List X) → ((x : X) → q x ≡ true → p x ≡ false) → find p (filter (λ x. not (q x)) xs) ≡ find p xs
  still_found p q [] apart = refl
  still_found p q (x ∷ xs) apart = by (q x) refl (still_found p q xs apart)
    where
      by : (b : Bool) → q x ≡ b → find p (filter (λ z. not (q z)) xs) ≡ find p xs → find p (cond (not b) (x ∷ filter (λ z. not (q z)) xs) (filter (λ z. not (q z)) xs)) ≡ cond (p x) (Some x) (find p xs)
      by true is ih = ih ∙ ap (λ t. cond t (Some x) (find p xs)) (sym (apart x is))
      by false is ih = ap (λ o. cond (p x) (Some x) o) ih

  pub same_found : (p q : X → Bool) (f : X → X) (xs : List X) → ((x : X) → p (f x) ≡ p x) → is_some (find p (map (λ x. cond (q x) (f x) x) xs)) ≡ is_some (find p xs)
  same_found p q f [] same = refl
  same_found p q f (x ∷ xs) same = by (q x) (same_found p q f xs same)
    where
      on : (a b : Bool) (y z : X) (o u : Option X) → a ≡ b → is_some o ≡ is_some u → is_some (cond a (Some y) o) ≡ is_some (cond b (Some z) u)
      on true true y z o u e ih = refl
      on true false y z o u e ih = absurd cc
      on false true y z o u e ih = absurd cc
      on false false y z o u e ih = ih

      by : (b : Bool) → is_some (find p (map (λ y. cond (q y) (f y) y) xs)) ≡ is_some (find p xs) → is_some (find p (cond b (f x) x ∷ map (λ y. cond (q y) (f y) y) xs)) ≡ is_some (find p (x ∷ xs))
      by true ih = on (p (f x)) (p x) (f x) x (find p (map (λ y. cond (q y) (f y) y) xs)) (find p xs) (same x) ih
      by false ih = on (p x) (p x) x x (find p (map (λ y. cond (q y) (f y) y) xs)) (find p xs) refl ih

  pub pushed_found : (p : X → Bool) (xs : List X) (y : X) → is_some (find p (xs ++ y ∷ [])) ≡ (is_some (find p xs) || p y)
  pushed_found p [] y = last (p y)
    where
      last : (b : Bool) → is_some (cond b (Some y) None) ≡ (false || b)
      last true = refl
      last false = refl
  pushed_found p (x ∷ xs) y = by (p x) (pushed_found p xs y)
    where
      by : (b : Bool) → is_some (find p (xs ++ y ∷ [])) ≡ (is_some (find p xs) || p y) → is_some (cond b (Some x) (find p (xs ++ y ∷ []))) ≡ (is_some (cond b (Some x) (find p xs)) || p y)
      by true ih = refl
      by false ih = ih

  nowhere_from : (p : X → Bool) (xs : List X) (i : ℕ) → position_from p i xs ≡ None → find p xs ≡ None
  nowhere_from p [] i e = refl
  nowhere_from p (x ∷ xs) i e = by (p x) e (nowhere_from p xs (i + 1))
    where
      by : (b : Bool) → cond b (Some i) (position_from p (i + 1) xs) ≡ None → (position_from p (i + 1) xs ≡ None → find p xs ≡ None) → cond b (Some x) (find p xs) ≡ None
      by true e ih = absurd cc
      by false e ih = ih e

  -- a place that is nowhere
  pub nowhere : (p : X → Bool) (xs : List X) → position p xs ≡ None → find p xs ≡ None
  nowhere p xs e = nowhere_from p xs 0 (sym (position_from-zero p xs) ∙ e)

  pub any_counts : (p : X → Bool) (xs : List X) → list_any p xs ≡ true → 1 ≤ count_by p xs
  any_counts p [] e = absurd cc
  any_counts p (x ∷ xs) e = by (p x) refl e (any_counts p xs)
    where
      by : (b : Bool) → p x ≡ b → (b || list_any p xs) ≡ true → (list_any p xs ≡ true → 1 ≤ count_by p xs) → 1 ≤ count_by p (x ∷ xs)
      by true is e ih = omega (arith, count-cons p x xs, ap one is)
      by false is e ih = omega (arith, count-cons p x xs, ih e)

  -- what all have, what is found has
  pub All-found : (q : X → Bool) (P : X → Type 0) (xs : List X) (y : X) → All P xs → find q xs ≡ Some y → P y
  All-found q P [] y all e = absurd cc
  All-found q P (x ∷ xs) y all e = by (q x) e (All-found q P xs y (All-tail P x xs all))
    where
      same : Some x ≡ Some y → x ≡ y
      same is = cc

      by : (b : Bool) → cond b (Some x) (find q xs) ≡ Some y → (find q xs ≡ Some y → P y) → P y
      by true e ih = subst P (same e) (All-head P x xs all)
      by false e ih = ih e
