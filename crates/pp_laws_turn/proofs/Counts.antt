-- Of records with numbers of their own at most one has a number, and it is found.
use Rattle.std.proofs.Common.{◌≡◌, ◌⊎◌, refl, ℕ, ◌≤◌, Bool, true, false, ◌==◌, List, [], ◌∷◌, map, filter, count_by, find, cond, length, Option, Some, None, inl, inr, sym, subst, ap, ◌∙◌, zero-le, arith}
use Rattle.std.proofs.lemmas.List.Sums.{length-filter as counts-as}
use Rattle.pp_laws.specs.Numbers.{AreDistinct, AreRising}
use Rattle.pp_laws.specs.Runs.{IsIn}
use Rattle.pp_laws.proofs.Lists.{in_find, one_of}
use Rattle.pp_laws.proofs.Tests.{number_same, same_number}
use Rattle.pp_laws_bounds.proofs.Counts.{in_map_of}

none_counted : {A : Type 0} (p : A → Bool) (xs : List A) → ((x : A) → IsIn x xs → p x ≡ true → ⊥) → length (filter p xs) ≡ 0
none_counted p [] none = refl
none_counted p (x ∷ xs) none = by (p x) refl (none_counted p xs (λ y i. none y (inr i)))
  where
    by : (t : Bool) → p x ≡ t → length (filter p xs) ≡ 0 → length (cond t (x ∷ filter p xs) (filter p xs)) ≡ 0
    by true is rest = absurd (none x (inl refl) is)
    by false is rest = rest

few_counted : {A : Type 0} (num : A → ℕ) (p : A → Bool) (xs : List A) → AreDistinct (map num xs) → ((x y : A) → IsIn x xs → IsIn y xs → p x ≡ true → p y ≡ true → num x ≡ num y) → length (filter p xs) ≤ 1
few_counted num p [] differ same_one = zero-le
few_counted num p (x ∷ xs) differ same_one = by (p x) refl (few_counted num p xs differ.1 (λ y z i j. same_one y z (inr i) (inr j)))
  where
    by : (t : Bool) → p x ≡ t → length (filter p xs) ≤ 1 → length (cond t (x ∷ filter p xs) (filter p xs)) ≤ 1
    by true is rest =
        let none : length (filter p xs) ≡ 0 = none_counted p xs (λ y i holds. differ.0 (subst (λ n. IsIn n (map num xs)) (same_one y x (inr i) (inl refl) holds is) (in_map_of num y xs i))) in
        omega arith
    by false is rest = rest

-- where all of which the test holds have one number
pub count_one : {A : Type 0} (num : A → ℕ) (p : A → Bool) (xs : List A) → AreDistinct (map num xs) → ((x y : A) → IsIn x xs → IsIn y xs → p x ≡ true → p y ≡ true → num x ≡ num y) → count_by p xs ≤ 1
count_one num p xs differ same_one = subst (λ n. n ≤ 1) (counts-as p xs) (few_counted num p xs differ same_one)

pub count_number : {A : Type 0} (num : A → ℕ) (n : ℕ) (xs : List A) → AreDistinct (map num xs) → count_by (λ x. num x == n) xs ≤ 1
count_number num n xs differ = count_one num (λ x. num x == n) xs differ (λ x y i j a b. same_number (num x) n a ∙ sym (same_number (num y) n b))

-- one that is there is found
found_by : {A : Type 0} (p : A → Bool) (x y : A) (ys : List A) (t : Bool) → p y ≡ t → p x ≡ true → (x ≡ y) ⊎ IsIn x ys → (IsIn x ys → (z : A) × (find p ys ≡ Some z)) → (z : A) × (cond t (Some y) (find p ys) ≡ Some z)
found_by p x y ys true here is j rest = (y, refl)
found_by p x y ys false here is (inl e) rest = let both : true ≡ false = sym is ∙ ap p e ∙ here in absurd (cc both)
found_by p x y ys false here is (inr j) rest = rest j

find_some : {A : Type 0} (p : A → Bool) (x : A) (xs : List A) → IsIn x xs → p x ≡ true → (y : A) × (find p xs ≡ Some y)
find_some p x [] i is = absurd i
find_some p x (y ∷ ys) i is = found_by p x y ys (p y) refl is i (λ j. find_some p x ys j is)

pub find_number : {A : Type 0} (num : A → ℕ) (n : ℕ) (x : A) (xs : List A) → AreRising (map num xs) → IsIn x xs → num x ≡ n → find (λ y. num y == n) xs ≡ Some x
find_number num n x xs rise i is =
    let w = find_some (λ y. num y == n) x xs i (ap (λ m. m == n) is ∙ number_same n) in
    let r = in_find (λ y. num y == n) w.0 xs w.1 in
    let same_one : w.0 ≡ x = one_of num xs w.0 x rise r.0 i (same_number (num w.0) n r.1 ∙ sym is) in
    w.1 ∙ ap (λ z. Some z) same_one

-- an instance of that number is there
pub find_in : {A : Type 0} (num : A → ℕ) (n : ℕ) (x : A) (xs : List A) → IsIn x xs → num x ≡ n → (y : A) × (find (λ z. num z == n) xs ≡ Some y)
find_in num n x xs i is = find_some (λ y. num y == n) x xs i (ap (λ m. m == n) is ∙ number_same n)

-- none is found of which the test holds of none
pub find_nothing : {A : Type 0} (p : A → Bool) (xs : List A) → ((x : A) → IsIn x xs → p x ≡ true → ⊥) → find p xs ≡ None
find_nothing p xs none = by (find p xs) refl
  where
    by : (o : Option _) → find p xs ≡ o → o ≡ None
    by None is = refl
    by (Some x) is = let r = in_find p x xs is in absurd (none x r.0 r.1)
