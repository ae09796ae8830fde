-- Which rows are in memory, where one is not known any more, and where one client less follows an instance.
use Rattle.std.proofs.Common.{◌≡◌, ◌≤◌, refl, sym, ap, ◌∙◌, ℕ, Bool, true, false, not, ◌==◌, ◌&&◌, cond, find, is_some, filter, List, [], ◌∷◌, Option, Some, None, option_map, arith, ◌+◌, subst}
use Rattle.std.proofs.lemmas.Grind.{common_steps}
use Rattle.std.proofs.lemmas.Slice.Eq.{bytes_eq-Decides}
use Rattle.std.specs.Prelude.{bytes_eq, count_by}
use Rattle.pp_cache_law.proofs.Finds.{find_mapped, find_passes, one_only, only_found}
use Rattle.pp_cache_law.proofs.Moves.{changed_alone}
use Rattle.pp_cache_law.proofs.PairLemmas.{AreOnly, count_first, count_kept, count_mapped}
use Rattle.pp_law.specs.Lists.{Bytes}
use Rattle.pp_objects.proofs.OneRow.{one_row-left, one_row-retired}
use Rattle.pp_objects.specs.Changes.{changed_in, is_elsewhere, is_last, left, left_from, retired, retired_from, without_slot}
use Rattle.pp_objects.specs.Instances.{Instance, in_slot, is_in_slot, is_row, is_row_of, row_of}
use Rattle.pp_objects.specs.OneRow.{HasOneRow}

abbrev pub rowed_in : Bytes → List Instance → Bool
rowed_in key is = is_some (row_of key is)

-- no two instances have one slot, and no two rows one key
pub record AreTidy (is : List Instance) : Type 0 where
  pub alone : (slot : ℕ) → count_by (is_in_slot slot) is ≤ 1
  pub rows : HasOneRow is

-- ---- they stay tidy

le_trans_one : (a b : ℕ) → a ≤ b → b ≤ 1 → a ≤ 1
le_trans_one a b one two = omega (arith, one, two)

alone_without : (slot k : ℕ) (is : List Instance) → count_by (is_in_slot slot) is ≤ 1 → count_by (is_in_slot slot) (without_slot k is) ≤ 1
alone_without slot k is few = le_trans_one _ _ (count_kept (is_in_slot slot) (is_elsewhere k) is) few

pub tidy_left : (slot : ℕ) (o : Option Instance) (is : List Instance) → AreTidy is → AreTidy (left_from slot o is)
tidy_left slot o is tidy = record { alone = λ k. by k (is_last o); rows = one_row-left slot o is tidy.rows }
  where
    by : (k : ℕ) (b : Bool) → count_by (is_in_slot k) (cond b (without_slot slot is) (changed_in slot left is)) ≤ 1
    by k true = alone_without k slot is (tidy.alone k)
    by k false = changed_alone k slot left is (λ i. refl) (tidy.alone k)

pub tidy_retired : (key : Bytes) (is : List Instance) → AreTidy is → AreTidy (retired_from (row_of key is) is)
tidy_retired key is tidy = record { alone = λ k. at k (row_of key is); rows = one_row-retired key is tidy.rows }
  where
    by : (k : ℕ) (i : Instance) (b : Bool) → count_by (is_in_slot k) (cond b (without_slot i.slot is) (changed_in i.slot retired is)) ≤ 1
    by k i true = alone_without k i.slot is (tidy.alone k)
    by k i false = changed_alone k i.slot retired is (λ j. refl) (tidy.alone k)

    at : (k : ℕ) (o : Option Instance) → count_by (is_in_slot k) (retired_from o is) ≤ 1
    at k None = tidy.alone k
    at k (Some i) = by k i (i.followers == 0)

-- ---- those of which a test holds are one, and it is out

all_out : {A : Type 0} (p q : A → Bool) (y : A) (xs : List A) → AreOnly p y xs → q y ≡ true → find p (filter (λ x. not (q x)) xs) ≡ None
all_out p q y [] only is = refl
all_out {A = A} p q y (x ∷ xs) only is = by (q x) refl (p x) refl (all_out p q y xs only.1 is)
  where
    by : (b : Bool) → q x ≡ b → (c : Bool) → p x ≡ c → find p (filter (λ z. not (q z)) xs) ≡ None → find p (cond (not b) (x ∷ filter (λ z. not (q z)) xs) (filter (λ z. not (q z)) xs)) ≡ None
    by true e c f rest = rest
    by false e true f rest = absurd (let both : true ≡ false = sym is ∙ ap q (sym (only.0 f)) ∙ e in cc both)
    by false e false f rest = ap (λ (b : Bool). cond b (Some x) (find p (filter (λ z. not (q z)) xs))) f ∙ rest

-- what is found is another
other_found : {A : Type 0} (p q : A → Bool) (y : A) (xs : List A) → AreOnly q y xs → p y ≡ false → find p (filter (λ x. not (q x)) xs) ≡ find p xs
other_found p q y [] only isnt = refl
other_found {A = A} p q y (x ∷ xs) only isnt = by (q x) refl (other_found p q y xs only.1 isnt)
  where
    by : (b : Bool) → q x ≡ b → find p (filter (λ z. not (q z)) xs) ≡ find p xs → find p (cond (not b) (x ∷ filter (λ z. not (q z)) xs) (filter (λ z. not (q z)) xs)) ≡ cond (p x) (Some x) (find p xs)
    by true e rest = rest ∙ sym (ap (λ (b : Bool). cond b (Some x) (find p xs)) (ap p (only.0 e) ∙ isnt))
    by false e rest = ap (λ (o : Option A). cond (p x) (Some x) o) rest

-- ---- it is retired

never_row : (key : Bytes) (i : Instance) → is_row_of key (retired i) ≡ false
never_row key i = refl

retired_none : (key : Bytes) (slot : ℕ) (i : Instance) (is : List Instance) → AreOnly (is_row_of key) i is → is_in_slot slot i ≡ true → find (is_row_of key) (changed_in slot retired is) ≡ None
retired_none key slot i [] only is_there = refl
retired_none key slot i (j ∷ is) only is_there = by (is_in_slot slot j) refl (is_row_of key j) refl (retired_none key slot i is only.1 is_there)
  where
    by : (b : Bool) → is_in_slot slot j ≡ b → (c : Bool) → is_row_of key j ≡ c → find (is_row_of key) (changed_in slot retired is) ≡ None
        → find (is_row_of key) (cond b (retired j) j ∷ changed_in slot retired is) ≡ None
    by true e c f rest = rest
    by false e true f rest = absurd (let both : true ≡ false = sym is_there ∙ ap (λ (z : Instance). is_in_slot slot z) (sym (only.0 f)) ∙ e in cc both)
    by false e false f rest = ap (λ (b : Bool). cond b (Some j) (find (is_row_of key) (changed_in slot retired is))) f ∙ rest

retired_other : (key : Bytes) (slot : ℕ) (i : Instance) (is : List Instance) → AreOnly (is_in_slot slot) i is → is_row_of key i ≡ false → rowed_in key (changed_in slot retired is) ≡ rowed_in key is
retired_other key slot i [] only isnt = refl
retired_other key slot i (j ∷ is) only isnt = by (is_in_slot slot j) refl (retired_other key slot i is only.1 isnt)
  where
    by : (b : Bool) → is_in_slot slot j ≡ b → rowed_in key (changed_in slot retired is) ≡ rowed_in key is
        → rowed_in key (cond b (retired j) j ∷ changed_in slot retired is) ≡ is_some (cond (is_row_of key j) (Some j) (row_of key is))
    by true e rest = rest ∙ sym (ap (λ (b : Bool). is_some (cond b (Some j) (row_of key is))) (ap (λ (z : Instance). is_row_of key z) (only.0 e) ∙ isnt))
    by false e rest = at (is_row_of key j) rest
      where
        at : (c : Bool) → rowed_in key (changed_in slot retired is) ≡ rowed_in key is → is_some (cond c (Some j) (row_of key (changed_in slot retired is))) ≡ is_some (cond c (Some j) (row_of key is))
        at true same = refl
        at false same = same

-- ---- a key is not known any more

and_true : (b : Bool) → b ≡ (b && true)
and_true true = refl
and_true false = refl

and_false : (b : Bool) → false ≡ (b && false)
and_false true = refl
and_false false = refl

own_slot : (i : Instance) → is_in_slot i.slot i ≡ true
own_slot i = grind (arith, common_steps)

second_of : (a b : Bool) → (a && b) ≡ true → b ≡ true
second_of true b is = is
second_of false b is = absurd (cc is)

no_row_of : (k key : Bytes) (i : Instance) → is_row_of k i ≡ true → bytes_eq k key ≡ false → is_row_of key i ≡ false
no_row_of k key i is apart = ap (λ (b : Bool). not i.is_retired && b) (ap (λ (t : Bytes). bytes_eq t key) ((bytes_eq-Decides i.key k).0 (second_of (not i.is_retired) (bytes_eq i.key k) is)) ∙ apart) ∙ sym (and_false (not i.is_retired))

pub rows_retired : (k key : Bytes) (is : List Instance) → AreTidy is → rowed_in k is ≡ true → rowed_in key (retired_from (row_of k is) is) ≡ (rowed_in key is && not (bytes_eq k key))
rows_retired k key is tidy has = at (row_of k is) refl has
  where
    same : (i : Instance) → row_of k is ≡ Some i → (b : Bool) → find (is_row_of k) (cond b (without_slot i.slot is) (changed_in i.slot retired is)) ≡ None
    same i found true = all_out (is_row_of k) (is_in_slot i.slot) i is (one_only (is_row_of k) is i (tidy.rows k) found) (own_slot i)
    same i found false = retired_none k i.slot i is (one_only (is_row_of k) is i (tidy.rows k) found) (own_slot i)

    other : (i : Instance) → row_of k is ≡ Some i → is_row_of key i ≡ false → (b : Bool) → rowed_in key (cond b (without_slot i.slot is) (changed_in i.slot retired is)) ≡ rowed_in key is
    other i found isnt true = ap is_some (other_found (is_row_of key) (is_in_slot i.slot) i is (only_found (is_in_slot i.slot) (is_row_of k) is i found (own_slot i) (tidy.alone i.slot)) isnt)
    other i found isnt false = retired_other key i.slot i is (only_found (is_in_slot i.slot) (is_row_of k) is i found (own_slot i) (tidy.alone i.slot)) isnt

    by : (i : Instance) → row_of k is ≡ Some i → (b : Bool) → bytes_eq k key ≡ b → rowed_in key (retired_from (Some i) is) ≡ (rowed_in key is && not b)
    by i found true e =
        ap (λ (t : Bytes). rowed_in t (retired_from (Some i) is)) (sym ((bytes_eq-Decides k key).0 e)) ∙ ap is_some (same i found (i.followers == 0)) ∙ and_false (rowed_in key is)
    by i found false e = other i found (no_row_of k key i (find_passes (is_row_of k) is i found) e) (i.followers == 0) ∙ and_true (rowed_in key is)

    at : (o : Option Instance) → row_of k is ≡ o → is_some o ≡ true → rowed_in key (retired_from o is) ≡ (rowed_in key is && not (bytes_eq k key))
    at None found some = absurd (cc some)
    at (Some i) found some = by i found (bytes_eq k key) refl

-- ---- one client less follows

some_mapped : (f : Instance → Instance) (o : Option Instance) → is_some (option_map f o) ≡ is_some o
some_mapped f None = refl
some_mapped f (Some i) = refl

retired_last : (o : Option Instance) (i : Instance) → o ≡ Some i → is_last o ≡ true → i.is_retired ≡ true
retired_last None i is last = absurd cc
retired_last (Some j) i is last = ap (λ (z : Instance). z.is_retired) (sym (the_same is)) ∙ first j.is_retired _ last
  where
    the_same : Some j ≡ Some i → j ≡ i
    the_same e = cc e

    first : (a b : Bool) → (a && b) ≡ true → a ≡ true
    first true b e = refl
    first false b e = absurd (cc e)

pub rows_left : (slot : ℕ) (key : Bytes) (is : List Instance) → AreTidy is → rowed_in key (left_from slot (in_slot slot is) is) ≡ rowed_in key is
rows_left slot key is tidy = by (is_last (in_slot slot is)) refl
  where
    out : (o : Option Instance) → in_slot slot is ≡ o → is_last o ≡ true → rowed_in key (without_slot slot is) ≡ rowed_in key is
    out None found last = absurd (cc last)
    out (Some i) found last =
        ap is_some (other_found (is_row_of key) (is_in_slot slot) i is (one_only (is_in_slot slot) is i (tidy.alone slot) found) (ap (λ (b : Bool). not b && bytes_eq i.key key) (retired_last (Some i) i refl last)))

    still : (i : Instance) (b : Bool) → is_row_of key (cond b (left i) i) ≡ is_row_of key i
    still i true = refl
    still i false = refl

    by : (b : Bool) → is_last (in_slot slot is) ≡ b → rowed_in key (cond b (without_slot slot is) (changed_in slot left is)) ≡ rowed_in key is
    by true last = out (in_slot slot is) refl last
    by false last = ap is_some (find_mapped (is_row_of key) (λ i. cond (is_in_slot slot i) (left i) i) is (λ i. still i (is_in_slot slot i))) ∙ some_mapped (λ i. cond (is_in_slot slot i) (left i) i) (row_of key is)

-- ---- how many there are

one_out : {A : Type 0} (p q r : A → Bool) (xs : List A) (y : A) → find r xs ≡ Some y → p y ≡ true → q y ≡ true → count_by p (filter (λ x. not (q x)) xs) + 1 ≤ count_by p xs
one_out p q r [] y found is out = absurd cc
one_out {A = A} p q r (x ∷ xs) y found is out = by (r x) refl found (λ later. one_out p q r xs y later is out)
  where
    fewer : count_by p (filter (λ z. not (q z)) xs) ≤ count_by p xs
    fewer = count_kept p (λ z. not (q z)) xs

    here : (b : Bool) → q x ≡ b → (c : Bool) → p x ≡ c → count_by p (filter (λ z. not (q z)) xs) + 1 ≤ count_by p xs → count_by p (cond (not b) (x ∷ filter (λ z. not (q z)) xs) (filter (λ z. not (q z)) xs)) + 1 ≤ count_by p (x ∷ xs)
    here true e c f less = omega (arith, less, count_first p x xs)
    here false e c f less = omega (arith, less, count_first p x xs, count_first p x (filter (λ z. not (q z)) xs))

    gone : x ≡ y → count_by p (filter (λ z. not (q z)) (x ∷ xs)) + 1 ≤ count_by p (x ∷ xs)
    gone same =
        let first : count_by p (x ∷ xs) ≡ 1 + count_by p xs = count_first p x xs ∙ ap (λ (b : Bool). cond b 1 0 + count_by p xs) (ap p same ∙ is) in
        let rest : filter (λ z. not (q z)) (x ∷ xs) ≡ filter (λ z. not (q z)) xs = ap (λ (b : Bool). cond (not b) (x ∷ filter (λ z. not (q z)) xs) (filter (λ z. not (q z)) xs)) (ap q same ∙ out) in
        subst (λ (zs : List A). count_by p zs + 1 ≤ count_by p (x ∷ xs)) (sym rest) (omega (arith, fewer, first))

    same_some : Some x ≡ Some y → x ≡ y
    same_some e = cc e

    by : (b : Bool) → r x ≡ b → cond b (Some x) (find r xs) ≡ Some y → (find r xs ≡ Some y → count_by p (filter (λ z. not (q z)) xs) + 1 ≤ count_by p xs) → count_by p (filter (λ z. not (q z)) (x ∷ xs)) + 1 ≤ count_by p (x ∷ xs)
    by true e one rest = gone (same_some one)
    by false e one rest = here (q x) refl (p x) refl (rest one)

one_retired : (r : Instance → Bool) (slot : ℕ) (is : List Instance) (i : Instance) → find r is ≡ Some i → is_row i ≡ true → is_in_slot slot i ≡ true → count_by is_row (changed_in slot retired is) + 1 ≤ count_by is_row is
one_retired r slot [] i found row at = absurd cc
one_retired r slot (j ∷ is) i found row at = by (r j) refl found (λ later. one_retired r slot is i later row at)
  where
    never : (b : Bool) (k : Instance) → is_row (cond b (retired k) k) ≡ true → is_row k ≡ true
    never true k e = absurd (cc e)
    never false k e = e

    fewer : count_by is_row (changed_in slot retired is) ≤ count_by is_row is
    fewer = count_mapped is_row (λ k. cond (is_in_slot slot k) (retired k) k) is (λ k e. never (is_in_slot slot k) k e)

    here : (b : Bool) → is_in_slot slot j ≡ b → count_by is_row (changed_in slot retired is) + 1 ≤ count_by is_row is → count_by is_row (cond b (retired j) j ∷ changed_in slot retired is) + 1 ≤ count_by is_row (j ∷ is)
    here true e less = omega (arith, less, count_first is_row j is, count_first is_row (retired j) (changed_in slot retired is))
    here false e less = omega (arith, less, count_first is_row j is, count_first is_row j (changed_in slot retired is))

    gone : j ≡ i → count_by is_row (changed_in slot retired (j ∷ is)) + 1 ≤ count_by is_row (j ∷ is)
    gone same =
        let first : count_by is_row (j ∷ is) ≡ 1 + count_by is_row is = count_first is_row j is ∙ ap (λ (b : Bool). cond b 1 0 + count_by is_row is) (ap is_row same ∙ row) in
        let rest : changed_in slot retired (j ∷ is) ≡ retired j ∷ changed_in slot retired is = ap (λ (b : Bool). cond b (retired j) j ∷ changed_in slot retired is) (ap (λ (k : Instance). is_in_slot slot k) same ∙ at) in
        let out : count_by is_row (retired j ∷ changed_in slot retired is) ≡ 0 + count_by is_row (changed_in slot retired is) = count_first is_row (retired j) (changed_in slot retired is) in
        subst (λ (zs : List Instance). count_by is_row zs + 1 ≤ count_by is_row (j ∷ is)) (sym rest) (omega (arith, fewer, first, out))

    same_some : Some j ≡ Some i → j ≡ i
    same_some e = cc e

    by : (b : Bool) → r j ≡ b → cond b (Some j) (find r is) ≡ Some i → (find r is ≡ Some i → count_by is_row (changed_in slot retired is) + 1 ≤ count_by is_row is) → count_by is_row (changed_in slot retired (j ∷ is)) + 1 ≤ count_by is_row (j ∷ is)
    by true e one rest = gone (same_some one)
    by false e one rest = here (is_in_slot slot j) refl (rest one)

-- one less where a key is not known any more
pub fewer_rows : (key : Bytes) (is : List Instance) → rowed_in key is ≡ true → count_by is_row (retired_from (row_of key is) is) + 1 ≤ count_by is_row is
fewer_rows key is has = at (row_of key is) refl has
  where
    its_row : (i : Instance) → row_of key is ≡ Some i → is_row i ≡ true
    its_row i found = first (is_row i) (bytes_eq i.key key) (find_passes (is_row_of key) is i found)
      where
        first : (a b : Bool) → (a && b) ≡ true → a ≡ true
        first true b e = refl
        first false b e = absurd (cc e)

    by : (i : Instance) → row_of key is ≡ Some i → (b : Bool) → count_by is_row (cond b (without_slot i.slot is) (changed_in i.slot retired is)) + 1 ≤ count_by is_row is
    by i found true = one_out is_row (is_in_slot i.slot) (is_row_of key) is i found (its_row i found) (own_slot i)
    by i found false = one_retired (is_row_of key) i.slot is i found (its_row i found) (own_slot i)

    at : (o : Option Instance) → row_of key is ≡ o → is_some o ≡ true → count_by is_row (retired_from o is) + 1 ≤ count_by is_row is
    at None found some = absurd (cc some)
    at (Some i) found some = by i found (i.followers == 0)

-- and no more where one client less follows
pub no_more_rows : (slot : ℕ) (o : Option Instance) (is : List Instance) → count_by is_row (left_from slot o is) ≤ count_by is_row is
no_more_rows slot o is = by (is_last o)
  where
    still : (b : Bool) (k : Instance) → is_row (cond b (left k) k) ≡ true → is_row k ≡ true
    still true k e = e
    still false k e = e

    by : (b : Bool) → count_by is_row (cond b (without_slot slot is) (changed_in slot left is)) ≤ count_by is_row is
    by true = count_kept is_row (is_elsewhere slot) is
    by false = count_mapped is_row (λ k. cond (is_in_slot slot k) (left k) k) is (λ k e. still (is_in_slot slot k) k e)
