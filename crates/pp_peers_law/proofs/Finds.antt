-- Exchanges by their numbers, behind the change of one.
use Rattle.std.proofs.Common.{◌≡◌, refl, sym, ap, ◌∙◌, ℕ, Bool, true, false, ◌==◌, ◌||◌, not, cond, find, List, [], ◌∷◌, Some, Option, arith}
use Rattle.std.proofs.lemmas.Bool.Decides.{nat_tests}
use Rattle.pp_law.specs.Connections.{is_exchange}
use Rattle.pp_law.specs.Lists.{change, is_some_with, without}
use Rattle.pp_law.specs.Requests.{goes_alone}
use Rattle.pp_law.specs.State.{Exchange}

-- ---- numbers

pub same_number : (m n : ℕ) → (m == n) ≡ true → m ≡ n
same_number m n is = grind (arith, nat_tests)

pub other_way : (m n : ℕ) → (m == n) ≡ false → (n == m) ≡ false
other_way m n is = grind (arith, nat_tests)

pub no_or : (a b : Bool) → a || b ≡ false → (a ≡ false) × (b ≡ false)
no_or true b is = let both : true ≡ false = is in cc both
no_or false b is = (refl, is)

-- ---- one is changed

abbrev pub Keeps : (Exchange → Exchange) → Type 0
Keeps f = (x : Exchange) → (f x).number ≡ x.number

pub find_there : (n : ℕ) (f : Exchange → Exchange) → Keeps f → (xs : List Exchange) (d : Exchange) → find (is_exchange n) xs ≡ Some d → find (is_exchange n) (change (is_exchange n) f xs) ≡ Some (f d)
find_there n f keeps [] d found = absurd (cc found)
find_there n f keeps (x ∷ xs) d found = by (is_exchange n x) refl found (find_there n f keeps xs d)
  where
    by : (t : Bool) → is_exchange n x ≡ t → cond t (Some x) (find (is_exchange n) xs) ≡ Some d → (find (is_exchange n) xs ≡ Some d → find (is_exchange n) (change (is_exchange n) f xs) ≡ Some (f d))
        → cond (is_exchange n (elim t as (λ b. Exchange) [ true ↦ f x | false ↦ x ])) (Some (elim t as (λ b. Exchange) [ true ↦ f x | false ↦ x ])) (find (is_exchange n) (change (is_exchange n) f xs)) ≡ Some (f d)
    by true is found again =
        ap (λ (b : Bool). cond b (Some (f x)) (find (is_exchange n) (change (is_exchange n) f xs))) (ap (λ (m : ℕ). m == n) (keeps x) ∙ is)
        ∙ ap (λ (y : Exchange). Some (f y)) (let same : x ≡ d = cc found in same)
    by false is found again = ap (λ (b : Bool). cond b (Some x) (find (is_exchange n) (change (is_exchange n) f xs))) is ∙ again found

pub find_elsewhere : (n m : ℕ) (f : Exchange → Exchange) → Keeps f → (n == m) ≡ false → (xs : List Exchange) → find (is_exchange m) (change (is_exchange n) f xs) ≡ find (is_exchange m) xs
find_elsewhere n m f keeps isnt [] = refl
find_elsewhere n m f keeps isnt (x ∷ xs) = by (is_exchange n x) refl (find_elsewhere n m f keeps isnt xs)
  where
    by : (t : Bool) → is_exchange n x ≡ t → find (is_exchange m) (change (is_exchange n) f xs) ≡ find (is_exchange m) xs
        → cond (is_exchange m (elim t as (λ b. Exchange) [ true ↦ f x | false ↦ x ])) (Some (elim t as (λ b. Exchange) [ true ↦ f x | false ↦ x ])) (find (is_exchange m) (change (is_exchange n) f xs))
        ≡ cond (is_exchange m x) (Some x) (find (is_exchange m) xs)
    by true is again =
        let off : (x.number == m) ≡ false = ap (λ (i : ℕ). i == m) (same_number x.number n is) ∙ isnt in
        ap (λ (b : Bool). cond b (Some (f x)) (find (is_exchange m) (change (is_exchange n) f xs))) (ap (λ (i : ℕ). i == m) (keeps x) ∙ off)
        ∙ again ∙ sym (ap (λ (b : Bool). cond b (Some x) (find (is_exchange m) xs)) off)
    by false is again = ap (λ (o : Option Exchange). cond (is_exchange m x) (Some x) o) again

pub found_number : (n : ℕ) (xs : List Exchange) (d : Exchange) → find (is_exchange n) xs ≡ Some d → (d.number == n) ≡ true
found_number n [] d found = absurd (cc found)
found_number n (x ∷ xs) d found = by (is_exchange n x) refl found (found_number n xs d)
  where
    by : (t : Bool) → is_exchange n x ≡ t → cond t (Some x) (find (is_exchange n) xs) ≡ Some d → (find (is_exchange n) xs ≡ Some d → (d.number == n) ≡ true) → (d.number == n) ≡ true
    by true is found again = sym (ap (λ (y : Exchange). y.number == n) (let same : x ≡ d = cc found in same)) ∙ is
    by false is found again = again found

abbrev pub is_alone_in : Option Exchange → Bool
is_alone_in o = is_some_with (λ x. goes_alone x.head) o

pub alone_kept : (n m : ℕ) (f : Exchange → Exchange) → Keeps f → ((x : Exchange) → goes_alone (f x).head ≡ goes_alone x.head) → (xs : List Exchange)
    → is_alone_in (find (is_exchange m) (change (is_exchange n) f xs)) ≡ is_alone_in (find (is_exchange m) xs)
alone_kept n m f keeps heads [] = refl
alone_kept n m f keeps heads (x ∷ xs) = by (is_exchange n x) (is_exchange m x) refl (alone_kept n m f keeps heads xs)
  where
    by : (t u : Bool) → is_exchange m x ≡ u → is_alone_in (find (is_exchange m) (change (is_exchange n) f xs)) ≡ is_alone_in (find (is_exchange m) xs)
        → is_alone_in (cond (is_exchange m (elim t as (λ b. Exchange) [ true ↦ f x | false ↦ x ])) (Some (elim t as (λ b. Exchange) [ true ↦ f x | false ↦ x ])) (find (is_exchange m) (change (is_exchange n) f xs)))
        ≡ is_alone_in (cond u (Some x) (find (is_exchange m) xs))
    by true true is again = ap (λ (b : Bool). is_alone_in (cond b (Some (f x)) (find (is_exchange m) (change (is_exchange n) f xs)))) (ap (λ (i : ℕ). i == m) (keeps x) ∙ is) ∙ heads x
    by true false is again = ap (λ (b : Bool). is_alone_in (cond b (Some (f x)) (find (is_exchange m) (change (is_exchange n) f xs)))) (ap (λ (i : ℕ). i == m) (keeps x) ∙ is) ∙ again
    by false true is again = ap (λ (b : Bool). is_alone_in (cond b (Some x) (find (is_exchange m) (change (is_exchange n) f xs)))) is
    by false false is again = ap (λ (b : Bool). is_alone_in (cond b (Some x) (find (is_exchange m) (change (is_exchange n) f xs)))) is ∙ again

-- ---- one is over

pub find_without : (n m : ℕ) → (n == m) ≡ false → (xs : List Exchange) → find (is_exchange m) (without (is_exchange n) xs) ≡ find (is_exchange m) xs
find_without n m isnt [] = refl
find_without n m isnt (x ∷ xs) = by (is_exchange n x) refl (find_without n m isnt xs)
  where
    by : (t : Bool) → is_exchange n x ≡ t → find (is_exchange m) (without (is_exchange n) xs) ≡ find (is_exchange m) xs
        → find (is_exchange m) (cond (not t) (x ∷ without (is_exchange n) xs) (without (is_exchange n) xs)) ≡ cond (is_exchange m x) (Some x) (find (is_exchange m) xs)
    by true is again = again ∙ sym (ap (λ (b : Bool). cond b (Some x) (find (is_exchange m) xs)) (ap (λ (i : ℕ). i == m) (same_number x.number n is) ∙ isnt))
    by false is again = ap (λ (o : Option Exchange). cond (is_exchange m x) (Some x) o) again
