-- The first of a list of records whose numbers rise: that it is there, and the list without it.
use Rattle.std.proofs.Common.{◌≡◌, ◌<◌, refl, ap, ap₂, ◌∙◌, ℕ, Bool, true, false, not, ◌||◌, ◌&&◌, ◌==◌, cond, filter, find, map, List, [], ◌∷◌, Some, arith}
use Rattle.std.proofs.lemmas.Bool.Decides.{nat_tests}
use Rattle.std.specs.List.{list_any}
use Rattle.pp_laws.proofs.Tests.{number_same}
use Rattle.pp_laws.specs.Numbers.{AllAbove}

pub none_mapped : {A B : Type 0} (f : A → B) (xs : List A) → map f xs ≡ [] → xs ≡ []
none_mapped f [] is = refl
none_mapped f (x ∷ xs) is = absurd (cc is)

first_is : (m n : ℕ) (ms ns : List ℕ) → m ∷ ms ≡ n ∷ ns → m ≡ n
first_is m n ms ns is = cc is

rest_is : (m n : ℕ) (ms ns : List ℕ) → m ∷ ms ≡ n ∷ ns → ms ≡ ns
rest_is m n ms ns is = cc is

or_true : (b : Bool) → (b || true) ≡ true
or_true true = refl
or_true false = refl

-- it passes where all do that are of its number
pub any_first : {A : Type 0} (num : A → ℕ) (test : A → Bool) (stopped : Bool) (n : ℕ) (ns : List ℕ) (xs : List A) → stopped ≡ true → map num xs ≡ n ∷ ns → list_any (λ x. (num x == n) && (test x || stopped)) xs ≡ true
any_first num test stopped n ns [] stop is = absurd (cc is)
any_first num test stopped n ns (x ∷ xs) stop is =
    ap (λ (b : Bool). (b && (test x || stopped)) || list_any (λ y. (num y == n) && (test y || stopped)) xs) (ap (λ (m : ℕ). m == n) (first_is (num x) n (map num xs) ns is) ∙ number_same n)
    ∙ ap (λ (b : Bool). b || list_any (λ y. (num y == n) && (test y || stopped)) xs) (ap (λ (b : Bool). test x || b) stop ∙ or_true (test x))

pub find_first : {A : Type 0} (num : A → ℕ) (n : ℕ) (ns : List ℕ) (xs : List A) → map num xs ≡ n ∷ ns → (x : A) × (find (λ y. num y == n) xs ≡ Some x)
find_first num n ns [] is = absurd (cc is)
find_first num n ns (x ∷ xs) is = (x, ap (λ (b : Bool). cond b (Some x) (find (λ y. num y == n) xs)) (ap (λ (m : ℕ). m == n) (first_is (num x) n (map num xs) ns is) ∙ number_same n))

above_isnt : (m n : ℕ) → n < m → (m == n) ≡ false
above_isnt m n less = grind (arith, nat_tests)

others_stay : {A : Type 0} (num : A → ℕ) (n : ℕ) (ns : List ℕ) (xs : List A) → AllAbove n ns → map num xs ≡ ns → map num (filter (λ x. not (num x == n)) xs) ≡ ns
others_stay num n ns [] above is = is
others_stay num n [] (x ∷ xs) above is = absurd (cc is)
others_stay num n (m ∷ ns) (x ∷ xs) above is =
    let same : num x ≡ m = first_is (num x) m (map num xs) ns is in
    ap (λ (b : Bool). map num (cond (not b) (x ∷ filter (λ y. not (num y == n)) xs) (filter (λ y. not (num y == n)) xs))) (ap (λ (i : ℕ). i == n) same ∙ above_isnt m n above.0)
    ∙ ap₂ (λ (i : ℕ) (is_rest : List ℕ). i ∷ is_rest) same (others_stay num n ns xs above.1 (rest_is (num x) m (map num xs) ns is))

pub first_out : {A : Type 0} (num : A → ℕ) (n : ℕ) (ns : List ℕ) (xs : List A) → AllAbove n ns → map num xs ≡ n ∷ ns → map num (filter (λ x. not (num x == n)) xs) ≡ ns
first_out num n ns [] above is = absurd (cc is)
first_out num n ns (x ∷ xs) above is =
    ap (λ (b : Bool). map num (cond (not b) (x ∷ filter (λ y. not (num y == n)) xs) (filter (λ y. not (num y == n)) xs))) (ap (λ (i : ℕ). i == n) (first_is (num x) n (map num xs) ns is) ∙ number_same n)
    ∙ others_stay num n ns xs above (rest_is (num x) n (map num xs) ns is)
