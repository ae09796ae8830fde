-- The names of a folder, listed one by one.
use Rattle.std.proofs.Common.{◌≡◌, ◌∙◌, ap, sym, refl, subst, ℕ, zero, suc, ◌+◌, ◌<◌, ◌≤◌, arith, Bool, true, false, cond, List, [], ◌∷◌, ◌++◌, length, take, map, filter, append-nil, append_assoc, length-append}
use Rattle.std.specs.Prelude.{◌&&◌, nat_lt}
use Rattle.std.specs.List.{list_all}
use Rattle.std.specs.List.Sorted.{IsStrictlySortedBy}
use Rattle.std.proofs.lemmas.Bool.Decides.{nat_tests}
use Rattle.std.proofs.lemmas.List.Kept.{IsStrictlySortedBy-filter}
use Rattle.pp_world.specs.Disk.{Bytes, AreNames, is_name}
use Rattle.pp_world.specs.Files.{name_order}
use Rattle.pp_memworld.specs.Slots.{Candidates, first_of, is_file}
use Rattle.pp_memworld.specs.Folder.{standing_in, listed_in, listed_one}
use Rattle.pp_memworld.proofs.Listed.{Sorted, Above, names_of, rising_from_sorted}

abbrev pub names_in_all : List (Bytes × Candidates) → List Bytes
names_in_all slots = filter is_name (standing_in slots)

-- those so far, and those of the slots that are left, are all
pub record IsListedTo (names : List Bytes) (rest slots : List (Bytes × Candidates)) : Type 0 where
  pub all : take 65536 (names ++ names_in_all rest) ≡ listed_in slots
  pub few : length names ≤ 65536

take_all : {A : Type 0} (n : ℕ) (xs : List A) → length xs ≤ n → take n xs ≡ xs
take_all zero [] few = refl
take_all zero (x ∷ xs) few = absurd (omega (arith, few))
take_all (suc n) [] few = refl
take_all (suc n) (x ∷ xs) few = ap (λ ys. x ∷ ys) (take_all n xs (omega (arith, few)))

take_front : {A : Type 0} (n : ℕ) (xs ys : List A) → n ≤ length xs → take n (xs ++ ys) ≡ take n xs
take_front zero xs ys long = refl
take_front (suc n) [] ys long = absurd (omega (arith, long))
take_front (suc n) (x ∷ xs) ys long = ap (λ zs. x ∷ zs) (take_front n xs ys (omega (arith, long)))

less_or : (a b : ℕ) (c : Bool) → nat_lt a b ≡ c → cond c (a < b) (b ≤ a)
less_or a b true is = grind (arith, nat_tests)
less_or a b false is = grind (arith, nat_tests)

-- what the first slot adds
added : Bytes → Bool → Bool → List Bytes → List Bytes
added name file form rest = cond file (cond form (name ∷ rest) rest) rest

first_adds : (name : Bytes) (slot : Candidates) (rest : List (Bytes × Candidates)) → names_in_all ((name, slot) ∷ rest) ≡ added name (is_file (first_of slot)) (is_name name) (names_in_all rest)
unfolding added
first_adds name slot rest = by (is_file (first_of slot))
  where
    by : (file : Bool) → filter is_name (map (λ (s : Bytes × Candidates). s.0) (cond file ((name, slot) ∷ filter (λ s. is_file (first_of s.1)) rest) (filter (λ s. is_file (first_of s.1)) rest)))
        ≡ cond file (cond (is_name name) (name ∷ names_in_all rest) (names_in_all rest)) (names_in_all rest)
    by true = refl
    by false = refl

one_longer : (names : List Bytes) (name : Bytes) → length names < 65536 → length (names ++ name ∷ []) ≤ 65536
one_longer names name less = let one : length (names ++ name ∷ []) ≡ length names + 1 = length-append names (name ∷ []) in omega (arith, one, less)

step_by : (name : Bytes) (names : List Bytes) (rest slots : List (Bytes × Candidates)) (room file form : Bool) → cond room (length names < 65536) (65536 ≤ length names) → length names ≤ 65536
    → take 65536 (names ++ added name file form (names_in_all rest)) ≡ listed_in slots → IsListedTo (cond ((room && file) && form) (names ++ name ∷ []) names) rest slots
unfolding added
step_by name names rest slots true true true room few all = record { all = ap (take 65536) (append_assoc names (name ∷ []) (names_in_all rest)) ∙ all; few = one_longer names name room }
step_by name names rest slots true true false room few all = record { all = all; few = few }
step_by name names rest slots true false form room few all = record { all = all; few = few }
step_by name names rest slots false file form full few all = record {
  all = take_front 65536 names (names_in_all rest) full ∙ sym (take_front 65536 names (added name file form (names_in_all rest)) full) ∙ all;
  few = few;
}

pub listed_step : (name : Bytes) (slot : Candidates) (names names' : List Bytes) (rest slots : List (Bytes × Candidates)) → IsListedTo names ((name, slot) ∷ rest) slots → names' ≡ listed_one name slot names
    → IsListedTo names' rest slots
listed_step name slot names names' rest slots so is = subst (λ (ns : List Bytes). IsListedTo ns rest slots) (sym is)
    (step_by name names rest slots (nat_lt (length names) 65536) (is_file (first_of slot)) (is_name name) (less_or (length names) 65536 (nat_lt (length names) 65536) refl) so.few
    (sym (ap (λ (ns : List Bytes). take 65536 (names ++ ns)) (first_adds name slot rest)) ∙ so.all))

pub listed_end : (names : List Bytes) (rest slots : List (Bytes × Candidates)) → IsListedTo names rest slots → rest ≡ [] → names ≡ listed_in slots
listed_end names rest slots so none =
    sym (take_all 65536 names so.few) ∙ sym (ap (take 65536) (append-nil names)) ∙ sym (ap (λ (r : List (Bytes × Candidates)). take 65536 (names ++ names_in_all r)) none) ∙ so.all

-- a listing is in order

standing_above : (name : Bytes) (slots : List (Bytes × Candidates)) → Above name (names_of slots) → Above name (standing_in slots)
standing_above name [] above = tt
standing_above name (s ∷ slots) above = by (is_file (first_of s.1)) (standing_above name slots above.1)
  where
    by : (file : Bool) → Above name (standing_in slots) → Above name (names_of (cond file (s ∷ filter (λ t. is_file (first_of t.1)) slots) (filter (λ t. is_file (first_of t.1)) slots)))
    by true rest = (above.0, rest)
    by false rest = rest

standing_sorted : (slots : List (Bytes × Candidates)) → Sorted (names_of slots) → Sorted (standing_in slots)
unfolding IsStrictlySortedBy
standing_sorted [] sorted = tt
standing_sorted (s ∷ slots) sorted = by (is_file (first_of s.1)) (standing_sorted slots sorted.1)
  where
    by : (file : Bool) → Sorted (standing_in slots) → Sorted (names_of (cond file (s ∷ filter (λ t. is_file (first_of t.1)) slots) (filter (λ t. is_file (first_of t.1)) slots)))
    by true rest = (standing_above s.0 slots sorted.0, rest)
    by false rest = rest

take_above : (name : Bytes) (n : ℕ) (names : List Bytes) → Above name names → Above name (take n names)
take_above name zero names above = tt
take_above name (suc n) [] above = tt
take_above name (suc n) (x ∷ names) above = (above.0, take_above name n names above.1)

take_sorted : (n : ℕ) (names : List Bytes) → Sorted names → Sorted (take n names)
unfolding IsStrictlySortedBy
take_sorted zero names sorted = tt
take_sorted (suc n) [] sorted = tt
take_sorted (suc n) (x ∷ names) sorted = (take_above x n names sorted.0, take_sorted n names sorted.1)

kept_names : (n : ℕ) (names : List Bytes) → list_all is_name (take n (filter is_name names)) ≡ true
kept_names zero names = refl
kept_names (suc n) [] = refl
kept_names (suc n) (x ∷ names) = by (is_name x) refl (kept_names n names) (kept_names (suc n) names)
  where
    by : (b : Bool) → is_name x ≡ b → list_all is_name (take n (filter is_name names)) ≡ true → list_all is_name (take (suc n) (filter is_name names)) ≡ true
        → list_all is_name (take (suc n) (cond b (x ∷ filter is_name names) (filter is_name names))) ≡ true
    by true is fewer rest = rw (is, fewer) refl
    by false is fewer rest = rest

take_few : {A : Type 0} (n : ℕ) (xs : List A) → length (take n xs) ≤ n
take_few zero xs = omega arith
take_few (suc n) [] = omega arith
take_few (suc n) (x ∷ xs) = let rest = take_few n xs in omega (arith, rest)

pub listed_form : (slots : List (Bytes × Candidates)) → Sorted (names_of slots) → AreNames (listed_in slots)
listed_form slots sorted = record {
  form = kept_names 65536 (standing_in slots);
  order = rising_from_sorted (listed_in slots) (take_sorted 65536 (names_in_all slots) (IsStrictlySortedBy-filter name_order is_name (standing_in slots) (standing_sorted slots sorted)));
  few = take_few 65536 (names_in_all slots);
}
