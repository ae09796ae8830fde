-- What is taken of two lists whose elements belong together belongs together.
use Rattle.std.proofs.Common.{◌≡◌, ◌≤◌, ◌==◌, refl, sym, ap, ◌∙◌, ℕ, suc, ◌+◌, Bool, true, false, not, ◌&&◌, ◌||◌, cond, find, List, [], ◌∷◌, ◌++◌, length, map, filter, Option, Some, None, arith}
use Rattle.std.specs.Prelude.{count_by, ⊤}
use Rattle.std.specs.List.{list_any}
use Rattle.std.proofs.lemmas.Bool.Decides.{nat_tests}
use Rattle.std.proofs.lemmas.Grind.{common_steps}
use Rattle.pp_cache_law.specs.Pairs.{AreAll, AreBoth}

-- each of which a test holds is that one
abbrev pub AreOnly : {A : Type 0} → (A → Bool) → A → List A → Type 0
AreOnly p y [] = ⊤
AreOnly p y (x ∷ xs) = (p x ≡ true → x ≡ y) × AreOnly p y xs

pub lengths_same : {A B : Type 0} (R : A → B → Type 0) (xs : List A) (ys : List B) → AreAll R xs ys → length xs ≡ length ys
lengths_same R [] [] all = refl
lengths_same R [] (y ∷ ys) all = absurd all
lengths_same R (x ∷ xs) [] all = absurd all
lengths_same R (x ∷ xs) (y ∷ ys) all = ap (λ (n : ℕ). suc n) (lengths_same R xs ys all.1)

-- ---- each is changed

pub mapped : {A B C D : Type 0} (R : A → B → Type 0) (S : C → D → Type 0) (f : A → C) (g : B → D) (xs : List A) (ys : List B) → ((x : A) (y : B) → R x y → S (f x) (g y)) → AreAll R xs ys
    → AreAll S (map f xs) (map g ys)
mapped R S f g [] [] to all = tt
mapped R S f g [] (y ∷ ys) to all = absurd all
mapped R S f g (x ∷ xs) [] to all = absurd all
mapped R S f g (x ∷ xs) (y ∷ ys) to all = (to x y all.0, mapped R S f g xs ys to all.1)

pub mapped_left : {A B C : Type 0} (R : A → B → Type 0) (S : C → B → Type 0) (f : A → C) (xs : List A) (ys : List B) → ((x : A) (y : B) → R x y → S (f x) y) → AreAll R xs ys → AreAll S (map f xs) ys
mapped_left R S f [] [] to all = tt
mapped_left R S f [] (y ∷ ys) to all = absurd all
mapped_left R S f (x ∷ xs) [] to all = absurd all
mapped_left R S f (x ∷ xs) (y ∷ ys) to all = (to x y all.0, mapped_left R S f xs ys to all.1)

pub also : {A B : Type 0} (R S : A → B → Type 0) (xs : List A) (ys : List B) → ((x : A) (y : B) → R x y → S x y) → AreAll R xs ys → AreAll S xs ys
also R S [] [] to all = tt
also R S [] (y ∷ ys) to all = absurd all
also R S (x ∷ xs) [] to all = absurd all
also R S (x ∷ xs) (y ∷ ys) to all = (to x y all.0, also R S xs ys to all.1)

-- where a test holds of none
pub also_none : {A B : Type 0} (R S : A → B → Type 0) (q : B → Bool) (xs : List A) (ys : List B) → ((x : A) (y : B) → q y ≡ false → R x y → S x y) → find q ys ≡ None → AreAll R xs ys → AreAll S xs ys
also_none R S q [] [] to none all = tt
also_none R S q [] (y ∷ ys) to none all = absurd all
also_none R S q (x ∷ xs) [] to none all = absurd all
also_none R S q (x ∷ xs) (y ∷ ys) to none all = (to x y (first (q y) none) all.0, also_none R S q xs ys to (later (q y) none) all.1)
  where
    first : (b : Bool) → cond b (Some y) (find q ys) ≡ None → b ≡ false
    first true e = absurd cc
    first false e = refl

    later : (b : Bool) → cond b (Some y) (find q ys) ≡ None → find q ys ≡ None
    later true e = absurd cc
    later false e = e

pub joined : {A B : Type 0} (R : A → B → Type 0) (xs us : List A) (ys vs : List B) → AreAll R xs ys → AreAll R us vs → AreAll R (xs ++ us) (ys ++ vs)
joined R [] us [] vs all more = more
joined R [] us (y ∷ ys) vs all more = absurd all
joined R (x ∷ xs) us [] vs all more = absurd all
joined R (x ∷ xs) us (y ∷ ys) vs all more = (all.0, joined R xs us ys vs all.1 more)

-- what holds of each of the first
pub mapped_only : {A B C D : Type 0} (R : A → B → Type 0) (S : C → D → Type 0) (p : A → Bool) (one : A) (f : A → C) (g : B → D) (xs : List A) (ys : List B) → ((x : A) (y : B) → (p x ≡ true → x ≡ one) → R x y → S (f x) (g y))
    → AreOnly p one xs → AreAll R xs ys → AreAll S (map f xs) (map g ys)
mapped_only R S p one f g [] [] to only all = tt
mapped_only R S p one f g [] (y ∷ ys) to only all = absurd all
mapped_only R S p one f g (x ∷ xs) [] to only all = absurd all
mapped_only R S p one f g (x ∷ xs) (y ∷ ys) to only all = (to x y only.0 all.0, mapped_only R S p one f g xs ys to only.1 all.1)

pub also_only : {A B : Type 0} (R S : A → B → Type 0) (p : A → Bool) (one : A) (xs : List A) (ys : List B) → ((x : A) (y : B) → (p x ≡ true → x ≡ one) → R x y → S x y) → AreOnly p one xs → AreAll R xs ys → AreAll S xs ys
also_only R S p one [] [] to only all = tt
also_only R S p one [] (y ∷ ys) to only all = absurd all
also_only R S p one (x ∷ xs) [] to only all = absurd all
also_only R S p one (x ∷ xs) (y ∷ ys) to only all = (to x y only.0 all.0, also_only R S p one xs ys to only.1 all.1)

-- ---- those of which a test holds

kept_by : {A B : Type 0} (S : A → B → Type 0) (b c : Bool) (x : A) (y : B) (xs : List A) (ys : List B) → b ≡ c → (b ≡ true → S x y) → AreAll S xs ys → AreAll S (cond b (x ∷ xs) xs) (cond c (y ∷ ys) ys)
kept_by S true true x y xs ys same to all = (to refl, all)
kept_by S false false x y xs ys same to all = all
kept_by S true false x y xs ys same to all = absurd cc
kept_by S false true x y xs ys same to all = absurd cc

pub kept : {A B : Type 0} (R S : A → B → Type 0) (p : A → Bool) (q : B → Bool) (xs : List A) (ys : List B) → ((x : A) (y : B) → R x y → p x ≡ q y) → ((x : A) (y : B) → R x y → p x ≡ true → S x y)
    → AreAll R xs ys → AreAll S (filter p xs) (filter q ys)
kept R S p q [] [] same to all = tt
kept R S p q [] (y ∷ ys) same to all = absurd all
kept R S p q (x ∷ xs) [] same to all = absurd all
kept R S p q (x ∷ xs) (y ∷ ys) same to all = kept_by S (p x) (q y) x y (filter p xs) (filter q ys) (same x y all.0) (to x y all.0) (kept R S p q xs ys same to all.1)

found_by : {A B : Type 0} (S : A → B → Type 0) (b c : Bool) (x : A) (y : B) (u : Option A) (v : Option B) → b ≡ c → (b ≡ true → S x y) → AreBoth S u v → AreBoth S (cond b (Some x) u) (cond c (Some y) v)
found_by S true true x y u v same to both = to refl
found_by S false false x y u v same to both = both
found_by S true false x y u v same to both = absurd cc
found_by S false true x y u v same to both = absurd cc

pub found : {A B : Type 0} (R S : A → B → Type 0) (p : A → Bool) (q : B → Bool) (xs : List A) (ys : List B) → ((x : A) (y : B) → R x y → p x ≡ q y) → ((x : A) (y : B) → R x y → p x ≡ true → S x y)
    → AreAll R xs ys → AreBoth S (find p xs) (find q ys)
found R S p q [] [] same to all = tt
found R S p q [] (y ∷ ys) same to all = absurd all
found R S p q (x ∷ xs) [] same to all = absurd all
found R S p q (x ∷ xs) (y ∷ ys) same to all = found_by S (p x) (q y) x y (find p xs) (find q ys) (same x y all.0) (to x y all.0) (found R S p q xs ys same to all.1)

counted_by : {A : Type 0} (p : A → Bool) (x : A) (xs : List A) (b : Bool) → p x ≡ b → count_by p (x ∷ xs) ≡ cond b 1 0 + count_by p xs
counted_by p x xs true e = grind (arith, common_steps, e)
counted_by p x xs false e = grind (arith, common_steps, e)

pub count_first : {A : Type 0} (p : A → Bool) (x : A) (xs : List A) → count_by p (x ∷ xs) ≡ cond (p x) 1 0 + count_by p xs
count_first p x xs = counted_by p x xs (p x) refl

pub counted : {A B : Type 0} (R : A → B → Type 0) (p : A → Bool) (q : B → Bool) (xs : List A) (ys : List B) → ((x : A) (y : B) → R x y → p x ≡ q y) → AreAll R xs ys → count_by p xs ≡ count_by q ys
counted R p q [] [] same all = refl
counted R p q [] (y ∷ ys) same all = absurd all
counted R p q (x ∷ xs) [] same all = absurd all
counted R p q (x ∷ xs) (y ∷ ys) same all =
    count_first p x xs ∙ ap (λ (b : Bool). cond b 1 0 + count_by p xs) (same x y all.0) ∙ ap (λ (n : ℕ). cond (q y) 1 0 + n) (counted R p q xs ys same all.1) ∙ sym (count_first q y ys)

-- ---- how many there are of which a test holds

pub count_joined : {A : Type 0} (p : A → Bool) (xs ys : List A) → count_by p (xs ++ ys) ≡ count_by p xs + count_by p ys
count_joined p [] ys = omega arith
count_joined p (x ∷ xs) ys = omega (arith, count_first p x (xs ++ ys), count_first p x xs, count_joined p xs ys)

pub count_kept : {A : Type 0} (p q : A → Bool) (xs : List A) → count_by p (filter q xs) ≤ count_by p xs
count_kept p q [] = omega arith
count_kept p q (x ∷ xs) = by (q x) (count_kept p q xs)
  where
    by : (b : Bool) → count_by p (filter q xs) ≤ count_by p xs → count_by p (cond b (x ∷ filter q xs) (filter q xs)) ≤ count_by p (x ∷ xs)
    by true less = omega (arith, less, count_first p x (filter q xs), count_first p x xs)
    by false less = omega (arith, less, count_first p x xs)

pub count_mapped : {A : Type 0} (p : A → Bool) (f : A → A) (xs : List A) → ((x : A) → p (f x) ≡ true → p x ≡ true) → count_by p (map f xs) ≤ count_by p xs
count_mapped p f [] to = omega arith
count_mapped p f (x ∷ xs) to = omega (arith, count_first p (f x) (map f xs), count_first p x xs, count_mapped p f xs to, by (p (f x)) (p x) (to x))
  where
    by : (b c : Bool) → (b ≡ true → c ≡ true) → cond b 1 0 ≤ cond c 1 0
    by true true to = omega arith
    by false c to = omega arith
    by true false to = let e : false ≡ true = to refl in absurd cc

pub count_mapped_same : {A : Type 0} (p : A → Bool) (f : A → A) (xs : List A) → ((x : A) → p (f x) ≡ p x) → count_by p (map f xs) ≡ count_by p xs
count_mapped_same p f [] same = refl
count_mapped_same p f (x ∷ xs) same =
    count_first p (f x) (map f xs) ∙ ap (λ (b : Bool). cond b 1 0 + count_by p (map f xs)) (same x) ∙ ap (λ (n : ℕ). cond (p x) 1 0 + n) (count_mapped_same p f xs same) ∙ sym (count_first p x xs)

some_first : (n : ℕ) → ((1 + n) == 0) ≡ false
some_first n = grind (arith, nat_tests)

pub none_of : {A : Type 0} (p : A → Bool) (xs : List A) → (count_by p xs == 0) ≡ not (list_any p xs)
none_of p [] = refl
none_of p (x ∷ xs) = ap (λ (n : ℕ). n == 0) (count_first p x xs) ∙ by (p x) (none_of p xs)
  where
    by : (b : Bool) → (count_by p xs == 0) ≡ not (list_any p xs) → ((cond b 1 0 + count_by p xs) == 0) ≡ not (b || list_any p xs)
    by true same = some_first (count_by p xs)
    by false same = ap (λ (n : ℕ). n == 0) (let e : 0 + count_by p xs ≡ count_by p xs = omega arith in e) ∙ same

-- a test parts them
pub count_parts : {A : Type 0} (p q : A → Bool) (xs : List A) → count_by p (filter (λ x. not (q x)) xs) + count_by p (filter q xs) ≡ count_by p xs
count_parts p q [] = refl
count_parts p q (x ∷ xs) = by (q x) (count_parts p q xs)
  where
    by : (b : Bool) → count_by p (filter (λ x. not (q x)) xs) + count_by p (filter q xs) ≡ count_by p xs
        → count_by p (cond (not b) (x ∷ filter (λ x. not (q x)) xs) (filter (λ x. not (q x)) xs)) + count_by p (cond b (x ∷ filter q xs) (filter q xs)) ≡ count_by p (x ∷ xs)
    by true parts = omega (arith, parts, count_first p x (filter q xs), count_first p x xs)
    by false parts = omega (arith, parts, count_first p x (filter (λ x. not (q x)) xs), count_first p x xs)

-- ---- one less

pub fewer_kept : {A : Type 0} (p q : A → Bool) (xs : List A) (y : A) → find q xs ≡ Some y → p y ≡ true → count_by p (filter (λ x. not (q x)) xs) + 1 ≤ count_by p xs
fewer_kept p q [] y e is = absurd cc
fewer_kept {A = A} p q (x ∷ xs) y e is = by (q x) (λ f. fewer_kept p q xs y f is) e
  where
    it : Some x ≡ Some y → p x ≡ true
    it f = let same : x ≡ y = cc in ap (λ (z : A). p z) same ∙ is

    by : (b : Bool) → (find q xs ≡ Some y → count_by p (filter (λ x. not (q x)) xs) + 1 ≤ count_by p xs) → cond b (Some x) (find q xs) ≡ Some y
        → count_by p (cond (not b) (x ∷ filter (λ x. not (q x)) xs) (filter (λ x. not (q x)) xs)) + 1 ≤ count_by p (x ∷ xs)
    by true rest f =
        let first : count_by p (x ∷ xs) ≡ 1 + count_by p xs = count_first p x xs ∙ ap (λ (b : Bool). cond b 1 0 + count_by p xs) (it f) in
        omega (arith, first, count_kept p (λ x. not (q x)) xs)
    by false rest f =
        let less : count_by p (filter (λ x. not (q x)) xs) + 1 ≤ count_by p xs = rest f in
        omega (arith, less, count_first p x (filter (λ x. not (q x)) xs), count_first p x xs)

pub fewer_changed : {A : Type 0} (p q : A → Bool) (f : A → A) (xs : List A) (y : A) → find q xs ≡ Some y → p y ≡ true → ((x : A) → p (f x) ≡ false) → count_by p (map (λ x. cond (q x) (f x) x) xs) + 1 ≤ count_by p xs
fewer_changed p q f [] y e is out = absurd cc
fewer_changed {A = A} p q f (x ∷ xs) y e is out = by (q x) (λ g. fewer_changed p q f xs y g is out) e
  where
    it : Some x ≡ Some y → p x ≡ true
    it g = let same : x ≡ y = cc in ap (λ (z : A). p z) same ∙ is

    less : (z : A) → p (cond (q z) (f z) z) ≡ true → p z ≡ true
    less z = at (q z)
      where
        at : (b : Bool) → p (cond b (f z) z) ≡ true → p z ≡ true
        at true g = let no_way : false ≡ true = sym (out z) ∙ g in absurd cc
        at false g = g

    by : (b : Bool) → (find q xs ≡ Some y → count_by p (map (λ x. cond (q x) (f x) x) xs) + 1 ≤ count_by p xs) → cond b (Some x) (find q xs) ≡ Some y
        → count_by p (cond b (f x) x ∷ map (λ x. cond (q x) (f x) x) xs) + 1 ≤ count_by p (x ∷ xs)
    by true rest g =
        let first : count_by p (x ∷ xs) ≡ 1 + count_by p xs = count_first p x xs ∙ ap (λ (b : Bool). cond b 1 0 + count_by p xs) (it g) in
        let none : count_by p (f x ∷ map (λ x. cond (q x) (f x) x) xs) ≡ 0 + count_by p (map (λ x. cond (q x) (f x) x) xs) =
        count_first p (f x) (map (λ x. cond (q x) (f x) x) xs) ∙ ap (λ (b : Bool). cond b 1 0 + count_by p (map (λ x. cond (q x) (f x) x) xs)) (out x) in
        omega (arith, first, none, count_mapped p (λ x. cond (q x) (f x) x) xs less)
    by false rest g =
        let fewer : count_by p (map (λ x. cond (q x) (f x) x) xs) + 1 ≤ count_by p xs = rest g in
        omega (arith, fewer, count_first p x (map (λ x. cond (q x) (f x) x) xs), count_first p x xs)

-- ---- tests that are one of the second of each two

pub filters_same : {A B : Type 0} (R : A → B → Type 0) (q r : B → Bool) (xs : List A) (ys : List B) → ((x : A) (y : B) → R x y → q y ≡ r y) → AreAll R xs ys → filter q ys ≡ filter r ys
filters_same R q r [] [] same all = refl
filters_same R q r [] (y ∷ ys) same all = absurd all
filters_same R q r (x ∷ xs) [] same all = absurd all
filters_same {B = B} R q r (x ∷ xs) (y ∷ ys) same all =
    ap (λ (b : Bool). cond b (y ∷ filter q ys) (filter q ys)) (same x y all.0) ∙ ap (λ (zs : List B). cond (r y) (y ∷ zs) zs) (filters_same R q r xs ys same all.1)

pub filter_all : {A : Type 0} (xs : List A) → filter (λ x. true) xs ≡ xs
filter_all [] = refl
filter_all {A = A} (x ∷ xs) = ap (λ (zs : List A). x ∷ zs) (filter_all xs)

pub filter_none : {A : Type 0} (xs : List A) → filter (λ x. false) xs ≡ []
filter_none [] = refl
filter_none (x ∷ xs) = filter_none xs

-- what one test keeps of what another keeps
pub filter_both : {A : Type 0} (p q r : A → Bool) (xs : List A) → ((x : A) → (q x && p x) ≡ r x) → filter p (filter q xs) ≡ filter r xs
filter_both p q r [] same = refl
filter_both {A = A} p q r (x ∷ xs) same = by (q x) (p x) (r x) refl (same x) (filter_both p q r xs same)
  where
    by : (b c d : Bool) → p x ≡ c → (b && c) ≡ d → filter p (filter q xs) ≡ filter r xs → filter p (cond b (x ∷ filter q xs) (filter q xs)) ≡ cond d (x ∷ filter r xs) (filter r xs)
    by true c d is e rest = ap (λ (t : Bool). cond t (x ∷ filter p (filter q xs)) (filter p (filter q xs))) (is ∙ e) ∙ ap (λ (ys : List A). cond d (x ∷ ys) ys) rest
    by false c d is e rest = rest ∙ ap (λ (t : Bool). cond t (x ∷ filter r xs) (filter r xs)) e

pub filter_joined : {A : Type 0} (p : A → Bool) (xs ys : List A) → filter p (xs ++ ys) ≡ filter p xs ++ filter p ys
filter_joined p [] ys = refl
filter_joined {A = A} p (x ∷ xs) ys = by (p x) (filter_joined p xs ys)
  where
    by : (b : Bool) → filter p (xs ++ ys) ≡ filter p xs ++ filter p ys → cond b (x ∷ filter p (xs ++ ys)) (filter p (xs ++ ys)) ≡ cond b (x ∷ filter p xs) (filter p xs) ++ filter p ys
    by true same = ap (λ (zs : List A). x ∷ zs) same
    by false same = same

pub joined_none : {A : Type 0} (xs : List A) → xs ++ [] ≡ xs
joined_none [] = refl
joined_none {A = A} (x ∷ xs) = ap (λ (zs : List A). x ∷ zs) (joined_none xs)
