-- Where each of some has one of others for itself, there are no more of the first than of the second.
use Rattle.std.proofs.Common.{◌≡◌, refl, ℕ, ◌+◌, ◌<◌, ◌≤◌, Bool, true, false, not, ◌&&◌, ◌||◌, List, [], ◌∷◌, map, filter, filter_map, cond, length, Option, Some, None, inl, inr, sym, subst, ap, ◌∙◌, zero-le, le_refl, lt_irrefl, arith}
use Rattle.std.specs.List.{cons_option}
use Rattle.pp_law.specs.Lists.{is_this}
use Rattle.pp_laws.specs.Numbers.{AllAbove, AreDistinct, AreRising}
use Rattle.pp_laws.specs.Runs.{IsIn}
use Rattle.pp_laws.proofs.Tests.{number_same, same_number}
use Rattle.pp_laws_bounds.proofs.Counts.{count-filter}

-- ---- numbers that rise are distinct

not_above : (low n : ℕ) (ns : List ℕ) → AllAbove low ns → IsIn n ns → low < n
not_above low n [] above i = absurd i
not_above low n (m ∷ ns) above (inl e) = subst (λ x. low < x) (sym e) above.0
not_above low n (m ∷ ns) above (inr i) = not_above low n ns above.1 i

pub rise_differ : (ns : List ℕ) → AreRising ns → AreDistinct ns
rise_differ [] rise = tt
rise_differ (n ∷ ns) rise = (λ i. lt_irrefl n (not_above n n ns rise.0 i), rise_differ ns rise.1)

-- ---- counts

both_counted : {A : Type 0} (x : A) (xs ys : List A) (t u : Bool) → t ≡ u → length xs ≡ length ys → length (cond t (x ∷ xs) xs) ≡ length (cond u (x ∷ ys) ys)
both_counted x xs ys true true is e = grind arith
both_counted x xs ys true false is e = absurd (cc is)
both_counted x xs ys false true is e = absurd (cc is)
both_counted x xs ys false false is e = e

-- tests that agree on all
pub count-same : {A : Type 0} (p q : A → Bool) (xs : List A) → ((x : A) → IsIn x xs → p x ≡ q x) → length (filter p xs) ≡ length (filter q xs)
count-same p q [] alike = refl
count-same p q (x ∷ xs) alike = both_counted x (filter p xs) (filter q xs) (p x) (q x) (alike x (inl refl)) (count-same p q xs (λ y i. alike y (inr i)))

more_counted : {A B : Type 0} (x : A) (y : B) (xs : List A) (ys : List B) (t u : Bool) → (t ≡ true → u ≡ true) → length xs ≤ length ys → length (cond t (x ∷ xs) xs) ≤ length (cond u (y ∷ ys) ys)
more_counted x y xs ys true true is le = omega arith
more_counted x y xs ys true false is le = let both : false ≡ true = is refl in absurd (cc both)
more_counted x y xs ys false true is le = omega arith
more_counted x y xs ys false false is le = le

-- where the one test holds the other does
pub count-more : {A : Type 0} (p q : A → Bool) (xs : List A) → ((x : A) → IsIn x xs → p x ≡ true → q x ≡ true) → length (filter p xs) ≤ length (filter q xs)
count-more p q [] more = le_refl 0
count-more p q (x ∷ xs) more = more_counted x x (filter p xs) (filter q xs) (p x) (q x) (more x (inl refl)) (count-more p q xs (λ y i. more y (inr i)))

pub count-made : {A : Type 0} (p : A → Bool) (f : A → A) (xs : List A) → ((x : A) → p (f x) ≡ true → p x ≡ true) → length (filter p (map f xs)) ≤ length (filter p xs)
count-made p f [] more = le_refl 0
count-made p f (x ∷ xs) more = more_counted (f x) x (filter p (map f xs)) (filter p xs) (p (f x)) (p x) (more x) (count-made p f xs more)

or_counted : {A : Type 0} (x : A) (xs ys zs : List A) (t u : Bool) → length xs ≤ length ys + length zs → length (cond (t || u) (x ∷ xs) xs) ≤ length (cond t (x ∷ ys) ys) + length (cond u (x ∷ zs) zs)
or_counted x xs ys zs true true le = omega arith
or_counted x xs ys zs true false le = omega arith
or_counted x xs ys zs false true le = omega arith
or_counted x xs ys zs false false le = le

pub count-or : {A : Type 0} (p q : A → Bool) (xs : List A) → length (filter (λ x. p x || q x) xs) ≤ length (filter p xs) + length (filter q xs)
count-or p q [] = le_refl 0
count-or p q (x ∷ xs) = or_counted x (filter (λ y. p y || q y) xs) (filter p xs) (filter q xs) (p x) (q x) (count-or p q xs)

pub count-none : {A : Type 0} (p : A → Bool) (xs : List A) → ((x : A) → IsIn x xs → p x ≡ true → ⊥) → length (filter p xs) ≤ 0
count-none p [] none = le_refl 0
count-none p (x ∷ xs) none = by (p x) refl (count-none p xs (λ y i. none y (inr i)))
  where
    by : (t : Bool) → p x ≡ t → length (filter p xs) ≤ 0 → length (cond t (x ∷ filter p xs) (filter p xs)) ≤ 0
    by true is le = absurd (none x (inl refl) is)
    by false is le = le

-- one that the test held of is out
pub count-out : {A : Type 0} (p q : A → Bool) (x : A) (xs : List A) → IsIn x xs → p x ≡ true → q x ≡ false → length (filter p (filter q xs)) + 1 ≤ length (filter p xs)
count-out p q x [] i holds out = absurd i
count-out p q x (y ∷ ys) i holds out = by (p y) (q y) refl refl i (λ j. count-out p q x ys j holds out)
  where
    rest : length (filter p (filter q ys)) ≤ length (filter p ys)
    rest = count-filter p q ys

    by : (t u : Bool) → p y ≡ t → q y ≡ u → IsIn x (y ∷ ys) → (IsIn x ys → length (filter p (filter q ys)) + 1 ≤ length (filter p ys)) → length (filter p (cond u (y ∷ filter q ys) (filter q ys))) + 1 ≤ length (cond t (y ∷ filter p ys) (filter p ys))
    by true false pt qf (inl e) more = omega (arith, rest)
    by true true pt qt (inl e) more = let both : true ≡ false = sym qt ∙ ap q (sym e) ∙ out in absurd (cc both)
    by false u pf qu (inl e) more = let both : true ≡ false = sym holds ∙ ap p e ∙ pf in absurd (cc both)
    by true true pt qt (inr j) more = subst (λ w. length (cond w (y ∷ filter p (filter q ys)) (filter p (filter q ys))) + 1 ≤ length (y ∷ filter p ys)) (sym pt) (let le : length (filter p (filter q ys)) + 1 ≤ length (filter p ys) = more j in omega arith)
    by true false pt qf (inr j) more = let le : length (filter p (filter q ys)) + 1 ≤ length (filter p ys) = more j in omega arith
    by false true pf qt (inr j) more = subst (λ w. length (cond w (y ∷ filter p (filter q ys)) (filter p (filter q ys))) + 1 ≤ length (filter p ys)) (sym pf) (more j)
    by false false pf qf (inr j) more = more j

-- ---- one each

-- of distinct numbers at most one is this
one_out : {A : Type 0} (num : A → ℕ) (p : A → Bool) (o : Option ℕ) (xs : List A) → AreDistinct (map num xs) → length (filter p xs) ≤ length (filter (λ x. p x && not (is_this (num x) o)) xs) + 1
one_out num p o [] differ = zero-le
one_out {A} num p o (x ∷ xs) differ = by (p x) (is_this (num x) o) refl refl (one_out num p o xs differ.1)
  where
    is_same : (n : ℕ) (m : Option ℕ) → is_this n m ≡ true → m ≡ Some n
    is_same n None is = absurd (cc is)
    is_same n (Some k) is = ap (λ y. Some y) (same_number k n is)

    in_map_num : (z : A) (zs : List A) → IsIn z zs → IsIn (num z) (map num zs)
    in_map_num z [] i = absurd i
    in_map_num z (y ∷ ys) (inl e) = inl (ap num e)
    in_map_num z (y ∷ ys) (inr i) = inr (in_map_num z ys i)

    others : is_this (num x) o ≡ true → (y : A) → IsIn y xs → p y ≡ (p y && not (is_this (num y) o))
    others is y i = of (is_this (num y) o) refl
      where
        of : (t : Bool) → is_this (num y) o ≡ t → p y ≡ (p y && not t)
        of false isnt = grind arith
        of true hit =
            let both : Some (num y) ≡ Some (num x) = sym (is_same (num y) o hit) ∙ is_same (num x) o is in
            let e : num y ≡ num x = cc in
            absurd (differ.0 (subst (λ n. IsIn n (map num xs)) e (in_map_num y xs i)))

    by : (t u : Bool) → p x ≡ t → is_this (num x) o ≡ u → length (filter p xs) ≤ length (filter (λ y. p y && not (is_this (num y) o)) xs) + 1 → length (cond t (x ∷ filter p xs) (filter p xs)) ≤ length (cond (t && not u) (x ∷ filter (λ y. p y && not (is_this (num y) o)) xs) (filter (λ y. p y && not (is_this (num y) o)) xs)) + 1
    by true true pt hit rest = let e : length (filter p xs) ≡ length (filter (λ y. p y && not (is_this (num y) o)) xs) = count-same p (λ y. p y && not (is_this (num y) o)) xs (others hit) in omega arith
    by true false pt isnt rest = omega arith
    by false true pf hit rest = rest
    by false false pf isnt rest = rest

pub pigeons : {A B : Type 0} (num : A → ℕ) (key : B → Option ℕ) (p : A → Bool) (xs : List A) (ys : List B) → AreDistinct (map num xs)
    → ((x : A) → IsIn x xs → p x ≡ true → (y : B) × IsIn y ys × (key y ≡ Some (num x))) → length (filter p xs) ≤ length ys
pigeons num key p xs [] differ each = count-none p xs (λ x i is. (each x i is).1)
pigeons {A} {B} num key p xs (y ∷ ys) differ each = let one = one_out num p (key y) xs differ in let rest = pigeons num key (λ x. p x && not (is_this (num x) (key y))) xs ys differ others in omega arith
  where
    is_it : (n : ℕ) (m : Option ℕ) → m ≡ Some n → is_this n m ≡ true
    is_it n m is = ap (is_this n) is ∙ number_same n

    split : (t u : Bool) → (t && not u) ≡ true → (t ≡ true) × (u ≡ false)
    split true true is = absurd (cc is)
    split true false is = (refl, refl)
    split false u is = absurd (cc is)

    others : (x : A) → IsIn x xs → (p x && not (is_this (num x) (key y))) ≡ true → (z : B) × IsIn z ys × (key z ≡ Some (num x))
    others x i is = by (each x i (split (p x) (is_this (num x) (key y)) is).0)
      where
        by : (z : B) × IsIn z (y ∷ ys) × (key z ≡ Some (num x)) → (z : B) × IsIn z ys × (key z ≡ Some (num x))
        by w = at w.0 w.1 w.2
          where
            at : (z : B) → IsIn z (y ∷ ys) → key z ≡ Some (num x) → (z : B) × IsIn z ys × (key z ≡ Some (num x))
            at z (inl e) key_is = let both : true ≡ false = sym (is_it (num x) (key y) (ap key (sym e) ∙ key_is)) ∙ (split (p x) (is_this (num x) (key y)) is).1 in absurd (cc both)
            at z (inr j) key_is = (z, j, key_is)

-- ---- what is made of some of them

pub length-made : {A B : Type 0} (f : A → Option B) (p : A → Bool) (xs : List A) → ((x : A) (y : B) → f x ≡ Some y → p x ≡ true) → length (filter_map f xs) ≤ length (filter p xs)
length-made f p [] some = le_refl 0
length-made {A} {B} f p (x ∷ xs) some = by (f x) refl (p x) refl (length-made f p xs some)
  where
    by : (o : Option B) → f x ≡ o → (t : Bool) → p x ≡ t → length (filter_map f xs) ≤ length (filter p xs)
        → length (cons_option o (filter_map f xs)) ≤ length (cond t (x ∷ filter p xs) (filter p xs))
    by None none true is le = omega arith
    by None none false is le = le
    by (Some y) found true is le = omega arith
    by (Some y) found false is le = let both : true ≡ false = sym (some x y found) ∙ is in absurd (cc both)
