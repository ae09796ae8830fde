-- Numbers that rise: who is among them, and that two lists with the same of them are one.
use Rattle.std.proofs.Common.{◌≡◌, ◌≤◌, ◌<◌, refl, sym, subst, ap, ap₂, ◌∙◌, ℕ, suc, ◌+◌, Bool, true, false, not, ◌&&◌, ◌||◌, ◌==◌, cond, nat_lt, length, List, [], ◌∷◌, arith}
use Rattle.std.proofs.lemmas.Bool.Decides.{nat_tests}
use Rattle.pp_law.specs.Lists.{has_number}
use Rattle.pp_state.proofs.NumbersLemmas.{Above}
use Rattle.pp_state.specs.Numbers.{with_number, with_read_by, without_number}

-- ---- one by one

pub is_same : (n m : ℕ) → (n == m) ≡ true → n ≡ m
is_same n m is = grind (arith, nat_tests, is)

pub is_itself : (n : ℕ) → (n == n) ≡ true
is_itself n = grind (arith, nat_tests)

other : (n m : ℕ) → n < m → (m == n) ≡ false
other n m less = grind (arith, nat_tests, less)

pub false_true : {b : Bool} → b ≡ false → b ≡ true → ⊥
false_true {b} isnt is = let same : false ≡ true = sym isnt ∙ is in cc same

pub or_there : (a b : Bool) → b ≡ true → (a || b) ≡ true
or_there true b is = refl
or_there false b is = is

idem : (x r : Bool) → (x || r) ≡ (x || (x || r))
idem true r = refl
idem false r = refl

swap : (x y r : Bool) → (x || (y || r)) ≡ (y || (x || r))
swap true true r = refl
swap true false r = refl
swap false true r = refl
swap false false r = refl

-- a number that is put in
pub has_with : (j n : ℕ) (ms : List ℕ) → has_number j (with_number n ms) ≡ ((n == j) || has_number j ms)
has_with j n [] = refl
has_with j n (m ∷ ms) = by (nat_lt n m) (m == n) refl (has_with j n ms)
  where
    by : (a b : Bool) → (m == n) ≡ b → has_number j (with_number n ms) ≡ ((n == j) || has_number j ms) → has_number j (cond a (n ∷ m ∷ ms) (cond b (m ∷ ms) (m ∷ with_number n ms))) ≡ ((n == j) || ((m == j) || has_number j ms))
    by true b is rest = refl
    by false true is rest = idem (m == j) (has_number j ms) ∙ ap (λ (k : ℕ). (k == j) || ((m == j) || has_number j ms)) (is_same m n is)
    by false false is rest = ap (λ (b : Bool). (m == j) || b) rest ∙ swap (m == j) (n == j) (has_number j ms)

-- one that is taken out
pub has_without : (j n : ℕ) (ms : List ℕ) → has_number j (without_number n ms) ≡ (not (n == j) && has_number j ms)
has_without j n [] = off (n == j)
  where
    off : (b : Bool) → false ≡ (not b && false)
    off true = refl
    off false = refl
has_without j n (m ∷ ms) = by (m == n) refl (has_without j n ms)
  where
    drops : (x r : Bool) → (not x && r) ≡ (not x && (x || r))
    drops true r = refl
    drops false r = refl

    keeps : (x : Bool) → (n == j) ≡ x → (m == n) ≡ false → ((m == j) || (not x && has_number j ms)) ≡ (not x && ((m == j) || has_number j ms))
    keeps false is isnt = refl
    keeps true is isnt = ap (λ (b : Bool). b || false) (ap (λ (k : ℕ). m == k) (sym (is_same n j is)) ∙ isnt)

    by : (b : Bool) → (m == n) ≡ b → has_number j (without_number n ms) ≡ (not (n == j) && has_number j ms) → has_number j (cond (not b) (m ∷ without_number n ms) (without_number n ms)) ≡ (not (n == j) && ((m == j) || has_number j ms))
    by true is rest = rest ∙ drops (n == j) (has_number j ms) ∙ ap (λ (k : ℕ). not (n == j) && ((k == j) || has_number j ms)) (sym (is_same m n is))
    by false is rest = ap (λ (b : Bool). (m == j) || b) rest ∙ keeps (n == j) refl is

-- one that is written down or not, where there is room for it
pub has_read : (j n : ℕ) (b : Bool) (ms : List ℕ) → (b ≡ true → has_number n ms ≡ false → length ms < 320) → has_number j (with_read_by b n ms) ≡ cond (n == j) b (has_number j ms)
has_read j n false ms room = has_without j n ms ∙ by (n == j)
  where
    by : (x : Bool) → (not x && has_number j ms) ≡ cond x false (has_number j ms)
    by true = refl
    by false = refl
has_read j n true ms room = by (nat_lt (length ms) 320) refl
  where
    with_it : (x : Bool) → (x || has_number j ms) ≡ cond x true (has_number j ms)
    with_it true = refl
    with_it false = refl

    is_there : (b : Bool) → has_number n ms ≡ b → nat_lt (length ms) 320 ≡ false → has_number n ms ≡ true
    is_there true is full = is
    is_there false is full = let less : length ms < 320 = room refl is in absurd (let no : nat_lt (length ms) 320 ≡ true = grind (arith, nat_tests, less) in false_true full no)

    full_is : (x : Bool) → (n == j) ≡ x → has_number n ms ≡ true → has_number j ms ≡ cond x true (has_number j ms)
    full_is true is there = ap (λ (k : ℕ). has_number k ms) (sym (is_same n j is)) ∙ there
    full_is false is there = refl

    by : (c : Bool) → nat_lt (length ms) 320 ≡ c → has_number j (cond c (with_number n ms) ms) ≡ cond (n == j) true (has_number j ms)
    by true is = has_with j n ms ∙ with_it (n == j)
    by false is = full_is (n == j) refl (is_there (has_number n ms) refl is)

pub longer : (n : ℕ) (ms : List ℕ) → has_number n ms ≡ false → length (with_number n ms) ≡ suc (length ms)
longer n [] out = refl
longer n (m ∷ ms) out = by (nat_lt n m) (m == n) out (λ none. longer n ms none)
  where
    by : (a b : Bool) → (b || has_number n ms) ≡ false → (has_number n ms ≡ false → length (with_number n ms) ≡ suc (length ms)) → length (cond a (n ∷ m ∷ ms) (cond b (m ∷ ms) (m ∷ with_number n ms))) ≡ suc (suc (length ms))
    by true b none rest = refl
    by false true none rest = absurd (cc none)
    by false false none rest = ap suc (rest none)

-- ---- that rise

pub none_below : (n low : ℕ) (ms : List ℕ) → Above low ms → n < low → has_number n ms ≡ false
none_below n low [] up less = refl
none_below n low (m ∷ ms) up less = ap₂ (λ (a b : Bool). a || b) (other n m (omega (arith, less, up.0))) (none_below n (m + 1) ms up.1 (omega (arith, less, up.0)))

pub at_front : (n : ℕ) (ms : List ℕ) → has_number n (n ∷ ms) ≡ true
at_front n ms = ap (λ (b : Bool). b || has_number n ms) (is_itself n)

-- behind the first
pub later : (n m : ℕ) (ms : List ℕ) → m < n → has_number n (m ∷ ms) ≡ has_number n ms
later n m ms less = let isnt : (m == n) ≡ false = grind (arith, nat_tests, less) in ap (λ (b : Bool). b || has_number n ms) isnt

-- no less than the low
at_least : (n low : ℕ) (ms : List ℕ) → Above low ms → has_number n ms ≡ true → low ≤ n
at_least n low ms up has = by (nat_lt n low) refl
  where
    by : (b : Bool) → nat_lt n low ≡ b → low ≤ n
    by true is = let less : n < low = grind (arith, nat_tests, is) in absurd (false_true (none_below n low ms up less) has)
    by false is = grind (arith, nat_tests, is)

data Compares (x y : ℕ) : Type 0 where
  Before : x < y → Compares x y
  Same : x ≡ y → Compares x y
  Behind : y < x → Compares x y

compare : (x y : ℕ) → Compares x y
compare x y = by (nat_lt x y) (nat_lt y x) refl refl
  where
    by : (a b : Bool) → nat_lt x y ≡ a → nat_lt y x ≡ b → Compares x y
    by true b is or = Before (grind (arith, nat_tests, is))
    by false true is or = Behind (grind (arith, nat_tests, or))
    by false false is or = Same (grind (arith, nat_tests, is, or))

pub few : (low : ℕ) (xs ys : List ℕ) → Above low xs → Above low ys → ((n : ℕ) → has_number n xs ≡ true → has_number n ys ≡ true) → length xs ≤ length ys
few low [] ys up over among = omega arith
few low (x ∷ xs) [] up over among = let no : false ≡ true = among x (at_front x xs) in absurd (cc no)
few low (x ∷ xs) (y ∷ ys) up over among = by (compare x y) (λ low xs up over among. few low xs ys up over among)
  where
    by : Compares x y → ((low : ℕ) (zs : List ℕ) → Above low zs → Above low ys → ((n : ℕ) → has_number n zs ≡ true → has_number n ys ≡ true) → length zs ≤ length ys) → suc (length xs) ≤ suc (length ys)
    by (Before lt) rest = absurd (false_true (none_below x y (y ∷ ys) (omega arith, over.1) lt) (among x (at_front x xs)))
    by (Same is) rest =
        let shorter : length xs ≤ length ys = rest (y + 1) xs (subst (λ (k : ℕ). Above (k + 1) xs) is up.1) over.1
        (λ n has. let over_x : x + 1 ≤ n = at_least n (x + 1) xs up.1 has in sym (later n y ys (omega (arith, over_x, is))) ∙ among n (later n x xs (omega (arith, over_x)) ∙ has)) in
        omega (arith, shorter)
    by (Behind gt) rest =
        let shorter : suc (length xs) ≤ length ys = rest (y + 1) (x ∷ xs) (omega (arith, gt), up.1) over.1
        (λ n has. let over_x : x ≤ n = at_least n x (x ∷ xs) (omega arith, up.1) has in sym (later n y ys (omega (arith, over_x, gt))) ∙ among n has) in
        omega (arith, shorter)

pub same_lists : (low : ℕ) (xs ys : List ℕ) → Above low xs → Above low ys → ((n : ℕ) → has_number n xs ≡ has_number n ys) → xs ≡ ys
same_lists low [] [] up over same = refl
same_lists low [] (y ∷ ys) up over alike = absurd (false_true {b = has_number y (y ∷ ys)} (sym (alike y)) (at_front y ys))
same_lists low (x ∷ xs) [] up over alike = absurd (false_true {b = has_number x (x ∷ xs)} (alike x) (at_front x xs))
same_lists low (x ∷ xs) (y ∷ ys) up over alike = by (compare x y) (λ low up over same. same_lists low xs ys up over same)
  where
    by : Compares x y → ((low : ℕ) → Above low xs → Above low ys → ((n : ℕ) → has_number n xs ≡ has_number n ys) → xs ≡ ys) → x ∷ xs ≡ y ∷ ys
    by (Before lt) rest = absurd (false_true (none_below x y (y ∷ ys) (omega arith, over.1) lt) (sym (alike x) ∙ at_front x xs))
    by (Behind gt) rest = absurd (false_true (none_below y x (x ∷ xs) (omega arith, up.1) gt) (alike y ∙ at_front y ys))
    by (Same is) rest = ap₂ (λ (k : ℕ) (ks : List ℕ). k ∷ ks) is (rest (y + 1) above_y over.1 (λ n. tails n (nat_lt y n) refl))
      where
        above_y : Above (y + 1) xs
        above_y = subst (λ (k : ℕ). Above (k + 1) xs) is up.1

        tails : (n : ℕ) (b : Bool) → nat_lt y n ≡ b → has_number n xs ≡ has_number n ys
        tails n true past = let lt : y < n = grind (arith, nat_tests, past) in sym (later n x xs (omega (arith, lt, is))) ∙ alike n ∙ later n y ys lt
        tails n false past = let le : n < y + 1 = grind (arith, nat_tests, past) in none_below n (y + 1) xs above_y le ∙ sym (none_below n (y + 1) ys over.1 le)
