-- What is in a list that was changed, filtered, moved or grew; and lists of records whose numbers rise, or are distinct.
use Rattle.std.proofs.Common.{◌≡◌, ◌⊎◌, refl, ℕ, ◌<◌, Bool, true, false, not, List, [], ◌∷◌, ◌++◌, map, filter, find, cond, Option, Some, inl, inr, sym, subst, ap, ap₂, ◌∙◌, lt_irrefl}
use Rattle.pp_law.specs.Lists.{change}
use Rattle.pp_laws.specs.Numbers.{AllAbove, AreDistinct, AreRising}
use Rattle.pp_laws.specs.Runs.{IsIn}

-- ---- what is in a list

pub in_append : {A : Type 0} (x : A) (xs ys : List A) → IsIn x (xs ++ ys) → IsIn x xs ⊎ IsIn x ys
in_append x [] ys i = inr i
in_append x (y ∷ xs) ys (inl e) = inl (inl e)
in_append x (y ∷ xs) ys (inr i) = elim (in_append x xs ys i) [ inl l ↦ inl (inr l) | inr r ↦ inr r ]

pub in_front : {A : Type 0} (x : A) (xs ys : List A) → IsIn x xs → IsIn x (xs ++ ys)
in_front x [] ys i = absurd i
in_front x (y ∷ xs) ys (inl e) = inl e
in_front x (y ∷ xs) ys (inr i) = inr (in_front x xs ys i)

-- it was in the list, or it is what was pushed
pub in_push : {A : Type 0} (x : A) (xs : List A) (y : A) → IsIn x (xs ++ y ∷ []) → IsIn x xs ⊎ (x ≡ y)
in_push x xs y i = elim (in_append x xs (y ∷ []) i) [ inl l ↦ inl l | inr r ↦ elim r [ inl e ↦ inr e | inr none ↦ absurd none ] ]

in_filter_by : {A : Type 0} (p : A → Bool) (x y : A) (ys zs : List A) (b : Bool) → p y ≡ b → (IsIn x zs → IsIn x ys × (p x ≡ true))
    → IsIn x (cond b (y ∷ zs) zs) → IsIn x (y ∷ ys) × (p x ≡ true)
in_filter_by p x y ys zs true is rest (inl e) = (inl e, subst (λ z. p z ≡ true) (sym e) is)
in_filter_by p x y ys zs true is rest (inr i) = (inr (rest i).0, (rest i).1)
in_filter_by p x y ys zs false is rest i = (inr (rest i).0, (rest i).1)

pub in_filter : {A : Type 0} (p : A → Bool) (x : A) (xs : List A) → IsIn x (filter p xs) → IsIn x xs × (p x ≡ true)
in_filter p x [] i = absurd i
in_filter p x (y ∷ ys) i = in_filter_by p x y ys (filter p ys) (p y) refl (in_filter p x ys) i

-- an element of a list that was changed at each place
pub record From {A B : Type 0} (f : A → B) (xs : List A) (y : B) : Type 0 where
  pub was : A
  pub there : IsIn was xs
  pub is : y ≡ f was

pub in_map : {A B : Type 0} (f : A → B) (y : B) (xs : List A) → IsIn y (map f xs) → From f xs y
in_map f y [] i = absurd i
in_map f y (x ∷ xs) (inl e) = record { was = x; there = inl refl; is = e }
in_map f y (x ∷ xs) (inr i) = let r = in_map f y xs i in record { was = r.was; there = inr r.there; is = r.is }

-- what `change` does to each element
abbrev pub changed_at : {A : Type 0} → (A → Bool) → (A → A) → A → A
changed_at test to x = elim (test x) [ true ↦ to x | false ↦ x ]

-- an element of a list of which some were changed
pub data Changed {A : Type 0} (p : A → Bool) (f : A → A) (xs : List A) (y : A) : Type 0 where
  same : IsIn y xs → p y ≡ false → Changed p f xs y
  other : (x : A) → IsIn x xs → p x ≡ true → y ≡ f x → Changed p f xs y

in_change_by : {A : Type 0} (p : A → Bool) (f : A → A) (xs : List A) (y x : A) (b : Bool) → p x ≡ b → IsIn x xs → y ≡ (elim b as (λ c. A) [ true ↦ f x | false ↦ x ]) → Changed p f xs y
in_change_by p f xs y x true is i e = other x i is e
in_change_by p f xs y x false is i e = same (subst (λ z. IsIn z xs) (sym e) i) (subst (λ z. p z ≡ false) (sym e) is)

pub in_change : {A : Type 0} (p : A → Bool) (f : A → A) (y : A) (xs : List A) → IsIn y (change p f xs) → Changed p f xs y
in_change p f y xs i = let r = in_map (changed_at p f) y xs i in in_change_by p f xs y r.was (p r.was) refl r.there r.is

in_find_by : {A : Type 0} (p : A → Bool) (x y : A) (ys : List A) (b : Bool) (o : Option A) → p y ≡ b → (o ≡ Some x → IsIn x ys × (p x ≡ true))
    → cond b (Some y) o ≡ Some x → IsIn x (y ∷ ys) × (p x ≡ true)
in_find_by p x y ys true o is rest found = let e : x ≡ y = cc in (inl e, subst (λ z. p z ≡ true) (sym e) is)
in_find_by p x y ys false o is rest found = (inr (rest found).0, (rest found).1)

pub in_find : {A : Type 0} (p : A → Bool) (x : A) (xs : List A) → find p xs ≡ Some x → IsIn x xs × (p x ≡ true)
in_find p x [] found = absurd (cc found)
in_find p x (y ∷ ys) found = in_find_by p x y ys (p y) (find p ys) refl (in_find p x ys) found

-- ---- numbers that rise

pub above_in : {A : Type 0} (num : A → ℕ) (low : ℕ) (x : A) (xs : List A) → AllAbove low (map num xs) → IsIn x xs → low < num x
above_in num low x [] above i = absurd i
above_in num low x (y ∷ ys) above (inl e) = subst (λ z. low < num z) (sym e) above.0
above_in num low x (y ∷ ys) above (inr i) = above_in num low x ys above.1 i

pub all_above : {A : Type 0} (num : A → ℕ) (low : ℕ) (xs : List A) → ((x : A) → IsIn x xs → low < num x) → AllAbove low (map num xs)
all_above num low [] each = tt
all_above num low (x ∷ xs) each = (each x (inl refl), all_above num low xs (λ y i. each y (inr i)))

pub map_kept : {A : Type 0} (num : A → ℕ) (f : A → A) → ((x : A) → num (f x) ≡ num x) → (xs : List A) → map num (map f xs) ≡ map num xs
map_kept num f kept [] = refl
map_kept num f kept (x ∷ xs) = ap₂ (λ n ns. n ∷ ns) (kept x) (map_kept num f kept xs)

changed_kept : {A : Type 0} (num : A → ℕ) (f : A → A) (x : A) (b : Bool) → num (f x) ≡ num x → num (elim b as (λ c. A) [ true ↦ f x | false ↦ x ]) ≡ num x
changed_kept num f x true kept = kept
changed_kept num f x false kept = refl

pub rise_map : {A : Type 0} (num : A → ℕ) (f : A → A) → ((x : A) → num (f x) ≡ num x) → (xs : List A) → AreRising (map num xs) → AreRising (map num (map f xs))
rise_map num f kept xs rise = subst AreRising (sym (map_kept num f kept xs)) rise

pub rise_change : {A : Type 0} (num : A → ℕ) (p : A → Bool) (f : A → A) → ((x : A) → num (f x) ≡ num x) → (xs : List A) → AreRising (map num xs) → AreRising (map num (change p f xs))
rise_change num p f kept xs rise = rise_map num (changed_at p f) (λ x. changed_kept num f x (p x) (kept x)) xs rise

rise_filter_by : {A : Type 0} (num : A → ℕ) (p : A → Bool) (x : A) (xs : List A) (b : Bool) → AllAbove (num x) (map num xs) → AreRising (map num (filter p xs)) → AreRising (map num (cond b (x ∷ filter p xs) (filter p xs)))
rise_filter_by num p x xs true above rise = (all_above num (num x) (filter p xs) (λ y i. above_in num (num x) y xs above (in_filter p y xs i).0), rise)
rise_filter_by num p x xs false above rise = rise

pub rise_filter : {A : Type 0} (num : A → ℕ) (p : A → Bool) (xs : List A) → AreRising (map num xs) → AreRising (map num (filter p xs))
rise_filter num p [] rise = tt
rise_filter num p (x ∷ xs) rise = rise_filter_by num p x xs (p x) rise.0 (rise_filter num p xs rise.1)

pub rise_push : {A : Type 0} (num : A → ℕ) (xs : List A) (y : A) → AreRising (map num xs) → ((x : A) → IsIn x xs → num x < num y) → AreRising (map num (xs ++ y ∷ []))
rise_push num [] y rise below = (tt, tt)
rise_push num (x ∷ xs) y rise below = (all_above num (num x) (xs ++ y ∷ []) above, rise_push num xs y rise.1 (λ z i. below z (inr i)))
  where
    by : (z : _) → IsIn z xs ⊎ (z ≡ y) → num x < num z
    by z (inl i) = above_in num (num x) z xs rise.0 i
    by z (inr e) = subst (λ w. num x < num w) (sym e) (below x (inl refl))

    above : (z : _) → IsIn z (xs ++ y ∷ []) → num x < num z
    above z i = by z (in_push z xs y i)

-- records with one number are one
pub one_of : {A : Type 0} (num : A → ℕ) (xs : List A) (x y : A) → AreRising (map num xs) → IsIn x xs → IsIn y xs → num x ≡ num y → x ≡ y
one_of num [] x y rise i j e = absurd i
one_of num (z ∷ zs) x y rise (inl e) (inl f) is = e ∙ sym f
one_of num (z ∷ zs) x y rise (inl e) (inr j) is = let l = above_in num (num z) y zs rise.0 j in absurd (lt_irrefl (num z) (subst (λ n. num z < n) (sym is ∙ ap num e) l))
one_of num (z ∷ zs) x y rise (inr i) (inl f) is = let l = above_in num (num z) x zs rise.0 i in absurd (lt_irrefl (num z) (subst (λ n. num z < n) (is ∙ ap num f) l))
one_of num (z ∷ zs) x y rise (inr i) (inr j) is = one_of num zs x y rise.1 i j is

-- ---- numbers that are distinct

in_numbers : {A : Type 0} (num : A → ℕ) (x : A) (xs : List A) → IsIn x xs → IsIn (num x) (map num xs)
in_numbers num x [] i = absurd i
in_numbers num x (y ∷ ys) (inl e) = inl (ap num e)
in_numbers num x (y ∷ ys) (inr i) = inr (in_numbers num x ys i)

not_in_numbers : {A : Type 0} (num : A → ℕ) (n : ℕ) (xs : List A) → ((x : A) → IsIn x xs → ¬ (num x ≡ n)) → ¬ (IsIn n (map num xs))
not_in_numbers num n [] apart i = i
not_in_numbers num n (x ∷ xs) apart (inl e) = apart x (inl refl) (sym e)
not_in_numbers num n (x ∷ xs) apart (inr i) = not_in_numbers num n xs (λ y j. apart y (inr j)) i

apart_from : {A : Type 0} (num : A → ℕ) (n : ℕ) (x : A) (xs : List A) → ¬ (IsIn n (map num xs)) → IsIn x xs → ¬ (num x ≡ n)
apart_from num n x xs none i is = none (subst (λ m. IsIn m (map num xs)) is (in_numbers num x xs i))

-- records with one number are one
pub the_one : {A : Type 0} (num : A → ℕ) (xs : List A) (x y : A) → AreDistinct (map num xs) → IsIn x xs → IsIn y xs → num x ≡ num y → x ≡ y
the_one num [] x y differ i j e = absurd i
the_one num (z ∷ zs) x y differ (inl e) (inl f) is = e ∙ sym f
the_one num (z ∷ zs) x y differ (inl e) (inr j) is = absurd (apart_from num (num z) y zs differ.0 j (sym is ∙ ap num e))
the_one num (z ∷ zs) x y differ (inr i) (inl f) is = absurd (apart_from num (num z) x zs differ.0 i (is ∙ ap num f))
the_one num (z ∷ zs) x y differ (inr i) (inr j) is = the_one num zs x y differ.1 i j is

pub differ_map : {A : Type 0} (num : A → ℕ) (f : A → A) → ((x : A) → num (f x) ≡ num x) → (xs : List A) → AreDistinct (map num xs) → AreDistinct (map num (map f xs))
differ_map num f kept xs differ = subst AreDistinct (sym (map_kept num f kept xs)) differ

pub differ_change : {A : Type 0} (num : A → ℕ) (p : A → Bool) (f : A → A) → ((x : A) → num (f x) ≡ num x) → (xs : List A) → AreDistinct (map num xs) → AreDistinct (map num (change p f xs))
differ_change num p f kept xs differ = differ_map num (changed_at p f) (λ x. changed_kept num f x (p x) (kept x)) xs differ

differ_filter_by : {A : Type 0} (num : A → ℕ) (p : A → Bool) (x : A) (xs : List A) (b : Bool) → ¬ (IsIn (num x) (map num xs)) → AreDistinct (map num (filter p xs)) → AreDistinct (map num (cond b (x ∷ filter p xs) (filter p xs)))
differ_filter_by num p x xs true none differ = (not_in_numbers num (num x) (filter p xs) (λ y i. apart_from num (num x) y xs none (in_filter p y xs i).0), differ)
differ_filter_by num p x xs false none differ = differ

pub differ_filter : {A : Type 0} (num : A → ℕ) (p : A → Bool) (xs : List A) → AreDistinct (map num xs) → AreDistinct (map num (filter p xs))
differ_filter num p [] differ = tt
differ_filter num p (x ∷ xs) differ = differ_filter_by num p x xs (p x) differ.0 (differ_filter num p xs differ.1)

differ_append : {A : Type 0} (num : A → ℕ) (xs ys : List A) → AreDistinct (map num xs) → AreDistinct (map num ys) → ((x y : A) → IsIn x xs → IsIn y ys → ¬ (num y ≡ num x)) → AreDistinct (map num (xs ++ ys))
differ_append num [] ys one two apart = two
differ_append num (x ∷ xs) ys one two apart =
    (not_in_numbers num (num x) (xs ++ ys) (λ z i. by z (in_append z xs ys i)), differ_append num xs ys one.1 two (λ z y i j. apart z y (inr i) j))
  where
    by : (z : _) → IsIn z xs ⊎ IsIn z ys → ¬ (num z ≡ num x)
    by z (inl i) = apart_from num (num x) z xs one.0 i
    by z (inr j) = apart x z (inl refl) j

pub differ_push : {A : Type 0} (num : A → ℕ) (xs : List A) (y : A) → AreDistinct (map num xs) → ((x : A) → IsIn x xs → ¬ (num x ≡ num y)) → AreDistinct (map num (xs ++ y ∷ []))
differ_push num xs y differ apart = differ_append num xs (y ∷ []) differ (λ i. i, tt) (λ x z i j. by x z i j)
  where
    by : (x z : _) → IsIn x xs → IsIn z (y ∷ []) → ¬ (num z ≡ num x)
    by x z i (inl e) is = apart x i (sym is ∙ ap num e)
    by x z i (inr none) is = none

-- those of which the test holds are the last
abbrev pub moved : {A : Type 0} → (A → Bool) → List A → List A
moved p xs = filter (λ x. not (p x)) xs ++ filter p xs

pub in_moved : {A : Type 0} (p : A → Bool) (x : A) (xs : List A) → IsIn x (moved p xs) → IsIn x xs
in_moved p x xs i = elim (in_append x (filter (λ y. not (p y)) xs) (filter p xs) i) [ inl l ↦ (in_filter (λ y. not (p y)) x xs l).0 | inr r ↦ (in_filter p x xs r).0 ]

pub differ_moved : {A : Type 0} (num : A → ℕ) (p : A → Bool) (xs : List A) → AreDistinct (map num xs) → AreDistinct (map num (moved p xs))
differ_moved num p xs differ =
    differ_append num (filter (λ x. not (p x)) xs) (filter p xs) (differ_filter num (λ x. not (p x)) xs differ) (differ_filter num p xs differ) (λ x y i j. by x y (in_filter (λ z. not (p z)) x xs i) (in_filter p y xs j))
  where
    by : (x y : _) → IsIn x xs × (not (p x) ≡ true) → IsIn y xs × (p y ≡ true) → ¬ (num y ≡ num x)
    by x y i j is =
        let e : y ≡ x = the_one num xs y x differ j.0 i.0 is in
        let both : false ≡ true = ap not (sym (sym (ap p e) ∙ j.1)) ∙ i.1 in
        cc both
