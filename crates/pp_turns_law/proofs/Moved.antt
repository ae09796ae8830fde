-- A row that becomes the most recently used is found as before.
use Rattle.std.proofs.Common.{◌≡◌, ◌≤◌, refl, sym, subst, ap, ap₂, ◌∙◌, ℕ, Bool, true, false, not, cond, find, filter, List, [], ◌∷◌, ◌++◌, Some, None, Option}
use Rattle.std.specs.Prelude.{count_by}
use Rattle.pp_cache.specs.Memory.{Memory}
use Rattle.pp_cache_law.proofs.Alike.{rows_alike}
use Rattle.pp_cache_law.proofs.Finds.{find_joined, first_of_two, none_within, one_only}
use Rattle.pp_cache_law.proofs.Moves.{in_slot-marked}
use Rattle.pp_cache_law.proofs.PairLemmas.{AreOnly, counted}
use Rattle.pp_cache_law.specs.Tables.{ShowsInstance, ShowsTable}
use Rattle.pp_turns_law.proofs.StandingRow.{found_kept}
use Rattle.pp_law.specs.Lists.{Bytes}
use Rattle.pp_law.specs.State.{State, Instance as Known}
use Rattle.pp_law.specs.Table.{is_instance, is_row_of as is_known_row, mark_row, row}
use Rattle.pp_objects.specs.Changes.{marked}
use Rattle.pp_objects.specs.Instances.{Instance, is_in_slot, is_life, is_row_of, is_there, row_of}
use Rattle.pp_objects.specs.OneRow.{HasOneRow}
use Rattle.pp_objects.specs.declared.id.ObjectId.{ObjectId}

-- ---- in any list

none_out : {A : Type 0} (p q : A → Bool) (y : A) (xs : List A) → AreOnly p y xs → q y ≡ false → find p (filter q xs) ≡ None
none_out p q y [] only out = refl
none_out {A = A} p q y (x ∷ xs) only out = by (q x) refl (none_out p q y xs only.1 out)
  where
    at : (b : Bool) → p x ≡ b → q x ≡ true → b ≡ false
    at true is kept = cc (sym kept ∙ ap q (only.0 is) ∙ out)
    at false is kept = refl

    by : (c : Bool) → q x ≡ c → find p (filter q xs) ≡ None → find p (cond c (x ∷ filter q xs) (filter q xs)) ≡ None
    by true kept rest = ap (λ (b : Bool). cond b (Some x) (find p (filter q xs))) (at (p x) refl kept) ∙ rest
    by false kept rest = rest

abbrev is_not : {A : Type 0} → (A → Bool) → A → Bool
is_not q x = not (q x)

or_first : {A : Type 0} (o : Option A) (y : A) → o ≡ Some y → first_of_two o None ≡ Some y
or_first o y is = ap (λ u. first_of_two u None) is

pub find_moved : {A : Type 0} (p q : A → Bool) (xs : List A) → count_by p xs ≤ 1 → find p (filter (λ x. not (q x)) xs ++ filter q xs) ≡ find p xs
find_moved {A = A} p q xs few = find_joined p (filter (λ x. not (q x)) xs) (filter q xs) ∙ by (find p xs) refl
  where
    at : (y : A) (b : Bool) → q y ≡ b → find p xs ≡ Some y → first_of_two (find p (filter (λ x. not (q x)) xs)) (find p (filter q xs)) ≡ Some y
    at y true is found =
        ap₂ (λ (u v : Option A). first_of_two u v) (none_out p (λ x. not (q x)) y xs (one_only p xs y few found) (ap not is)) (found_kept p q y xs found is)
    at y false is found =
        ap₂ (λ (u v : Option A). first_of_two u v) (found_kept p (λ x. not (q x)) y xs found (ap not is)) (none_out p q y xs (one_only p xs y few found) is)

    by : (o : Option A) → find p xs ≡ o → first_of_two (find p (filter (λ x. not (q x)) xs)) (find p (filter q xs)) ≡ o
    by None none = ap₂ (λ (u v : Option A). first_of_two u v) (none_within p (λ x. not (q x)) xs none) (none_within p q xs none)
    by (Some y) found = at y (q y) refl found

-- ---- of the program, and of the law

pub rows_moved : (slot : ℕ) (is : List Instance) → HasOneRow is → (key : Bytes) → row_of key (marked slot is) ≡ row_of key is
rows_moved slot is one key = find_moved (is_row_of key) (is_in_slot slot) is (one key)

pub there_moved : (slot : ℕ) (is : List Instance) (id : ObjectId) → is_there id (marked slot is) ≡ is_there id is
there_moved slot is id = ap (λ (o : Option Instance). is_life id.life o) (in_slot-marked id.slot slot is)

abbrev pub HasOneKnown : State → Type 0
HasOneKnown s = (key : Bytes) → count_by (is_known_row key) s.instances ≤ 1

pub one_known : (number : ℕ → ℕ) (m : Memory) (s : State) → ShowsTable number m s → HasOneKnown s
one_known number m s table key =
    subst (λ (n : ℕ). n ≤ 1)
    (counted (ShowsInstance number m s) (is_row_of key) (is_known_row key) m.instances s.instances (λ (i : Instance) (x : Known) (shows : ShowsInstance number m s i x). rows_alike number m s key i x shows) table.instances) (table.rows key)

pub known_moved : (n : ℕ) (s : State) → HasOneKnown s → (key : Bytes) → row (mark_row n s) key ≡ row s key
unfolding mark_row
known_moved n s one key = find_moved (is_known_row key) (is_instance n) s.instances (one key)
