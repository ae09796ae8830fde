-- How long lists are that were changed, filtered or grew, and how many in them meet a test.
use Rattle.std.proofs.Common.{◌≡◌, ◌⊎◌, refl, ℕ, ◌+◌, ◌≤◌, Bool, true, false, List, [], ◌∷◌, ◌++◌, map, filter, cond, length, inl, inr, sym, subst, ap, ◌∙◌, le_refl, arith}
use Rattle.pp_laws.specs.Runs.{IsIn}

-- ---- how long

pub length-map : {A B : Type 0} (f : A → B) (xs : List A) → length (map f xs) ≡ length xs
length-map f [] = refl
length-map f (x ∷ xs) = let e : length (map f xs) ≡ length xs = length-map f xs in grind arith

filter_shorter : {A : Type 0} (p : A → Bool) (x : A) (xs : List A) (t : Bool) → length (filter p xs) ≤ length xs → length (cond t (x ∷ filter p xs) (filter p xs)) ≤ length (x ∷ xs)
filter_shorter p x xs true le = omega arith
filter_shorter p x xs false le = omega arith

pub length-filter : {A : Type 0} (p : A → Bool) (xs : List A) → length (filter p xs) ≤ length xs
length-filter p [] = le_refl 0
length-filter p (x ∷ xs) = filter_shorter p x xs (p x) (length-filter p xs)

pub length-push : {A : Type 0} (xs : List A) (x : A) → length (xs ++ x ∷ []) ≡ length xs + 1
length-push [] x = refl
length-push (y ∷ xs) x = let e : length (xs ++ x ∷ []) ≡ length xs + 1 = length-push xs x in grind arith

-- ---- how many

counted : {A B : Type 0} (x : A) (y : B) (xs : List A) (ys : List B) (t u : Bool) → t ≡ u → length xs ≡ length ys → length (cond t (x ∷ xs) xs) ≡ length (cond u (y ∷ ys) ys)
counted x y xs ys true true is e = grind arith
counted x y xs ys true false is e = absurd (cc is)
counted x y xs ys false true is e = absurd (cc is)
counted x y xs ys false false is e = e

-- where one test says of each what the other says of what was made of it
pub count-over : {A B : Type 0} (p : B → Bool) (q : A → Bool) (f : A → B) → ((x : A) → p (f x) ≡ q x) → (xs : List A) → length (filter p (map f xs)) ≡ length (filter q xs)
count-over p q f alike [] = refl
count-over p q f alike (x ∷ xs) = counted (f x) x (filter p (map f xs)) (filter q xs) (p (f x)) (q x) (alike x) (count-over p q f alike xs)

pub count-map : {A : Type 0} (p : A → Bool) (f : A → A) → ((x : A) → p (f x) ≡ p x) → (xs : List A) → length (filter p (map f xs)) ≡ length (filter p xs)
count-map p f kept xs = count-over p p f kept xs

fewer : {A : Type 0} (p : A → Bool) (x : A) (xs ys : List A) (t u : Bool) → p x ≡ t → length (filter p ys) ≤ length (filter p xs) → length (filter p (cond u (x ∷ ys) ys)) ≤ length (cond t (x ∷ filter p xs) (filter p xs))
fewer p x xs ys true true is le = subst (λ w. length (cond w (x ∷ filter p ys) (filter p ys)) ≤ length (x ∷ filter p xs)) (sym is) (omega arith)
fewer p x xs ys false true is le = subst (λ w. length (cond w (x ∷ filter p ys) (filter p ys)) ≤ length (filter p xs)) (sym is) le
fewer p x xs ys true false is le = omega arith
fewer p x xs ys false false is le = le

pub count-filter : {A : Type 0} (p q : A → Bool) (xs : List A) → length (filter p (filter q xs)) ≤ length (filter p xs)
count-filter p q [] = le_refl 0
count-filter p q (x ∷ xs) = fewer p x xs (filter q xs) (p x) (q x) refl (count-filter p q xs)

added : {A : Type 0} (x y : A) (xs ys : List A) (t u : Bool) → length xs ≡ length ys + length (cond u (y ∷ []) []) → length (cond t (x ∷ xs) xs) ≡ length (cond t (x ∷ ys) ys) + length (cond u (y ∷ []) [])
added x y xs ys true u e = grind arith
added x y xs ys false u e = e

zero_more : (n : ℕ) → n ≡ 0 + n
zero_more n = omega arith

pub count-push : {A : Type 0} (p : A → Bool) (xs : List A) (y : A) → length (filter p (xs ++ y ∷ [])) ≡ length (filter p xs) + length (cond (p y) (y ∷ []) [])
count-push p [] y = zero_more (length (cond (p y) (y ∷ []) []))
count-push p (x ∷ xs) y = added x y (filter p (xs ++ y ∷ [])) (filter p xs) (p x) (p y) (count-push p xs y)

-- ---- what is in them

pub in_map_of : {A B : Type 0} (f : A → B) (x : A) (xs : List A) → IsIn x xs → IsIn (f x) (map f xs)
in_map_of f x [] i = absurd i
in_map_of f x (y ∷ ys) (inl e) = inl (ap f e)
in_map_of f x (y ∷ ys) (inr i) = inr (in_map_of f x ys i)

kept_in : {A : Type 0} (p : A → Bool) (x y : A) (ys : List A) (t : Bool) → p y ≡ t → p x ≡ true → (x ≡ y) ⊎ IsIn x ys → IsIn x (y ∷ ys) → (IsIn x ys → IsIn x (filter p ys)) → IsIn x (cond t (y ∷ filter p ys) (filter p ys))
kept_in p x y ys true is holds (inl e) j rest = inl e
kept_in p x y ys true is holds (inr i) j rest = inr (rest i)
kept_in p x y ys false is holds (inl e) j rest = let both : true ≡ false = sym holds ∙ ap p e ∙ is in absurd (cc both)
kept_in p x y ys false is holds (inr i) j rest = rest i

pub in_filter_of : {A : Type 0} (p : A → Bool) (x : A) (xs : List A) → IsIn x xs → p x ≡ true → IsIn x (filter p xs)
in_filter_of p x [] i holds = absurd i
in_filter_of p x (y ∷ ys) i holds = kept_in p x y ys (p y) refl holds i i (λ j. in_filter_of p x ys j holds)

pub in_last : {A : Type 0} (x : A) (xs : List A) → IsIn x (xs ++ x ∷ [])
in_last x [] = inl refl
in_last x (y ∷ ys) = inr (in_last x ys)

-- where all pass, none is out
pub filter-all : {A : Type 0} (p : A → Bool) (xs : List A) → ((x : A) → IsIn x xs → p x ≡ true) → filter p xs ≡ xs
filter-all p [] all = refl
filter-all p (x ∷ xs) all = ap (λ t. cond t (x ∷ filter p xs) (filter p xs)) (all x (inl refl)) ∙ ap (λ ys. x ∷ ys) (filter-all p xs (λ y i. all y (inr i)))
