-- Where the elements of a list stand that pass a test, and the table of the names of entries.
use Rattle.std.proofs.Common.{ℕ, zero, suc, ◌+◌, ◌-◌, ◌<◌, ◌≤◌, ◌≡◌, Bool, true, false, not, cond, List, [], ◌∷◌, ◌++◌, length, map, filter, get_or, set, take, arith, length-append, refl, sym, ◌∙◌, ap, subst, Option, Some, None}
use Rattle.std.specs.Prelude.{bytes_eq, count_by, IsSome, option_map, unwrap_or}
use Rattle.std.specs.BTreeMap.{get, is_at}
use Rattle.std.specs.List.{find, position, position_from}
use Rattle.std.proofs.lemmas.Bool.Decides.{nat_tests}
use Rattle.std.proofs.lemmas.Iterator.Adapters.{position_from-zero}
use Rattle.std.proofs.lemmas.Map.Text.{is_eq-slice_cmp}
use Rattle.std.proofs.lemmas.List.Quantifiers.{position-Some}
use Rattle.std.proofs.lemmas.Slice.Eq.{bytes_eq-Decides}
use Rattle.pp_world.specs.Files.{name_order}
use Rattle.pp_target.specs.Name.{name_of}
use Rattle.pp_store.specs.Changes.{extended_to, is_other}
use Rattle.pp_store.specs.Kept.{Kept, is_of, is_under, name_at, no_row}
use Rattle.pp_store.specs.declared.rows.Rows.TheInside.{Inside}
use Rattle.pp_store.specs.Table.{AreAt, IsTable, Leaves, Places, moved_up}
use Rattle.pp_store.proofs.Lists.{one, changed_at, count-cons, count-filter, count-push, count-same, count-weaker, find_none, first_at, found_counts, nowhere, one_out}
use Rattle.pp_store.proofs.Names.{of_key}

abbrev next : ℕ → ℕ
next i = i + 1

up_zero : (i : ℕ) → moved_up i 0 ≡ 0
up_zero i = grind (arith, nat_tests)

up_next : (i j : ℕ) → moved_up i j + 1 ≡ moved_up (i + 1) (j + 1)
up_next i j = grind (arith, nat_tests)

up_first : (j : ℕ) → moved_up 0 (j + 1) ≡ j
up_first j = grind (arith, nat_tests)

up_all_next : (i : ℕ) (o : Option ℕ) → option_map next (option_map (moved_up i) o) ≡ option_map (moved_up (i + 1)) (option_map next o)
up_all_next i None = refl
up_all_next i (Some j) = ap (λ (k : ℕ). Some k) (up_next i j)

up_all_first : (o : Option ℕ) → option_map (moved_up 0) (option_map next o) ≡ o
up_all_first None = refl
up_all_first (Some j) = ap (λ (k : ℕ). Some k) (up_first j)

same_some : {X : Type 0} (x y : X) → Some x ≡ Some y → x ≡ y
same_some x y is = cc

-- the place one before
before_it : (o : Option ℕ) (i : ℕ) → option_map next o ≡ Some i → (j : ℕ) × (o ≡ Some j) × (j + 1 ≡ i)
before_it None i e = absurd cc
before_it (Some j) i e = (j, refl, same_some (j + 1) i e)

module _ {X : Type 0} where
  later : (p : X → Bool) (xs : List X) (i : ℕ) → position_from p (i + 1) xs ≡ option_map next (position_from p i xs)
  later p [] i = refl
  later p (x ∷ xs) i = by (p x) (later p xs (i + 1))
    where
      by : (b : Bool) → position_from p (i + 1 + 1) xs ≡ option_map next (position_from p (i + 1) xs)
          → cond b (Some (i + 1)) (position_from p (i + 1 + 1) xs) ≡ option_map next (cond b (Some i) (position_from p (i + 1) xs))
      by true ih = refl
      by false ih = ih

  step : (p : X → Bool) (x : X) (xs : List X) → position p (x ∷ xs) ≡ cond (p x) (Some 0) (option_map next (position p xs))
  step p x xs = position_from-zero p (x ∷ xs) ∙ by (p x)
    where
      by : (b : Bool) → cond b (Some 0) (position_from p 1 xs) ≡ cond b (Some 0) (option_map next (position p xs))
      by true = refl
      by false = later p xs 0 ∙ ap (option_map next) (sym (position_from-zero p xs))

  none_at : (p : X → Bool) (xs : List X) → count_by p xs ≡ 0 → position p xs ≡ None
  none_at p [] e = refl
  none_at p (x ∷ xs) e = step p x xs ∙ by (p x) refl (none_at p xs (omega (arith, e, count-cons p x xs)))
    where
      by : (b : Bool) → p x ≡ b → position p xs ≡ None → cond b (Some 0) (option_map next (position p xs)) ≡ None
      by true is ih = absurd (omega (arith, e, count-cons p x xs, ap one is))
      by false is ih = ap (option_map next) ih

  pushed_off : (p : X → Bool) (xs : List X) (y : X) → p y ≡ false → position p (xs ++ y ∷ []) ≡ position p xs
  pushed_off p [] y off = step p y [] ∙ ap (λ (b : Bool). cond b (Some 0) None) off
  pushed_off p (x ∷ xs) y off = step p x (xs ++ y ∷ []) ∙ ap (λ (o : Option ℕ). cond (p x) (Some 0) (option_map next o)) (pushed_off p xs y off) ∙ sym (step p x xs)

  pushed_on : (p : X → Bool) (xs : List X) (y : X) → p y ≡ true → count_by p xs ≡ 0 → position p (xs ++ y ∷ []) ≡ Some (length xs)
  pushed_on p [] y on none = step p y [] ∙ ap (λ (b : Bool). cond b (Some 0) None) on
  pushed_on p (x ∷ xs) y on none = step p x (xs ++ y ∷ []) ∙ by (p x) refl (pushed_on p xs y on (omega (arith, none, count-cons p x xs)))
    where
      by : (b : Bool) → p x ≡ b → position p (xs ++ y ∷ []) ≡ Some (length xs) → cond b (Some 0) (option_map next (position p (xs ++ y ∷ []))) ≡ Some (length (x ∷ xs))
      by true is ih = absurd (omega (arith, none, count-cons p x xs, ap one is))
      by false is ih = ap (option_map next) ih ∙ ap (λ (k : ℕ). Some k) (omega arith)

  kept_all : (q : X → Bool) (xs : List X) → count_by q xs ≡ 0 → filter (λ x. not (q x)) xs ≡ xs
  kept_all q [] e = refl
  kept_all q (x ∷ xs) e = by (q x) refl (kept_all q xs (omega (arith, e, count-cons q x xs)))
    where
      by : (b : Bool) → q x ≡ b → filter (λ z. not (q z)) xs ≡ xs → cond (not b) (x ∷ filter (λ z. not (q z)) xs) (filter (λ z. not (q z)) xs) ≡ x ∷ xs
      by true is ih = absurd (omega (arith, e, count-cons q x xs, ap one is))
      by false is ih = ap (λ (ys : List X). x ∷ ys) ih

  -- what stands behind the one that is taken out moves up
  filtered : (p q : X → Bool) (xs : List X) (i : ℕ) → ((x : X) → q x ≡ true → p x ≡ false) → count_by q xs ≤ 1 → position q xs ≡ Some i
      → position p (filter (λ x. not (q x)) xs) ≡ option_map (moved_up i) (position p xs)
  filtered p q [] i apart few at = absurd cc
  filtered p q (x ∷ xs) i apart few at = by (λ j less. filtered p q xs j apart less) (q x) refl (sym (step q x xs) ∙ at)
    where
      swap : (b : Bool) (j : ℕ) → cond b (Some 0) (option_map next (option_map (moved_up j) (position p xs))) ≡ option_map (moved_up (j + 1)) (cond b (Some 0) (option_map next (position p xs)))
      swap true j = ap (λ (k : ℕ). Some k) (sym (up_zero (j + 1)))
      swap false j = up_all_next j (position p xs)

      by : ((j : ℕ) → count_by q xs ≤ 1 → position q xs ≡ Some j → position p (filter (λ z. not (q z)) xs) ≡ option_map (moved_up j) (position p xs))
          → (b : Bool) → q x ≡ b → cond b (Some 0) (option_map next (position q xs)) ≡ Some i
          → position p (cond (not b) (x ∷ filter (λ z. not (q z)) xs) (filter (λ z. not (q z)) xs)) ≡ option_map (moved_up i) (position p (x ∷ xs))
      by ih true is here =
          ap (position p) (kept_all q xs (omega (arith, few, count-cons q x xs, ap one is)))
          ∙ sym (up_all_first (position p xs))
          ∙ ap (option_map (moved_up 0)) (sym (step p x xs ∙ ap (λ (b : Bool). cond b (Some 0) (option_map next (position p xs))) (apart x is)))
          ∙ ap (λ (k : ℕ). option_map (moved_up k) (position p (x ∷ xs))) (same_some 0 i here)
      by ih false is there =
          let w = before_it (position q xs) i there in
          step p x (filter (λ z. not (q z)) xs)
          ∙ ap (λ (o : Option ℕ). cond (p x) (Some 0) (option_map next o)) (ih w.0 (omega (arith, few, count-cons q x xs)) w.1)
          ∙ swap (p x) w.0
          ∙ ap (option_map (moved_up (w.0 + 1))) (sym (step p x xs))
          ∙ ap (λ (k : ℕ). option_map (moved_up k) (position p (x ∷ xs))) w.2

  -- a change that the test does not see
  changed : (p q : X → Bool) (f : X → X) (xs : List X) → ((x : X) → p (f x) ≡ p x) → position p (map (λ x. cond (q x) (f x) x) xs) ≡ position p xs
  changed p q f [] same = refl
  changed p q f (x ∷ xs) same =
      step p (cond (q x) (f x) x) (map (λ y. cond (q y) (f y) y) xs)
      ∙ ap (λ (o : Option ℕ). cond (p (cond (q x) (f x) x)) (Some 0) (option_map next o)) (changed p q f xs same)
      ∙ ap (λ (b : Bool). cond b (Some 0) (option_map next (position p xs))) (by (q x)) ∙ sym (step p x xs)
    where
      by : (b : Bool) → p (cond b (f x) x) ≡ p x
      by true = same x
      by false = refl

  none_found : (q : X → Bool) (xs : List X) → count_by q xs ≡ 0 → find q xs ≡ None
  none_found q xs e = nowhere q xs (none_at q xs e)

  -- of two tests the weaker one finds first what the other finds
  module _ (p q : X → Bool) (weaker : (x : X) → q x ≡ true → p x ≡ true) where
    off : (x : X) → p x ≡ false → q x ≡ false
    off x is = by (q x) refl
      where
        by : (b : Bool) → q x ≡ b → b ≡ false
        by true passes = absurd (let both : true ≡ false = sym (weaker x passes) ∙ is in cc both)
        by false passes = refl

    -- none passes the stronger test where none passes the weaker one
    found_none : (xs : List X) → find p xs ≡ None → find q xs ≡ None
    found_none xs none = none_found q xs (omega (arith, find_none p xs none, count-weaker p q xs weaker))

    found_it : (xs : List X) (y : X) → find p xs ≡ Some y → q y ≡ true → find q xs ≡ Some y
    found_it [] y e passes = absurd cc
    found_it (x ∷ xs) y e passes = by (λ there. found_it xs y there passes) (p x) refl e
      where
        by : (find p xs ≡ Some y → find q xs ≡ Some y) → (b : Bool) → p x ≡ b → cond b (Some x) (find p xs) ≡ Some y → cond (q x) (Some x) (find q xs) ≡ Some y
        by ih true is here = ap (λ (b : Bool). cond b (Some x) (find q xs)) (ap q (same_some x y here) ∙ passes) ∙ here
        by ih false is there = ap (λ (b : Bool). cond b (Some x) (find q xs)) (off x is) ∙ ih there

    found_other : (xs : List X) (y : X) → count_by p xs ≤ 1 → find p xs ≡ Some y → q y ≡ false → find q xs ≡ None
    found_other [] y few e fails = absurd cc
    found_other (x ∷ xs) y few e fails = by (λ less there. found_other xs y less there fails) (p x) refl e
      where
        by : (count_by p xs ≤ 1 → find p xs ≡ Some y → find q xs ≡ None) → (b : Bool) → p x ≡ b → cond b (Some x) (find p xs) ≡ Some y → cond (q x) (Some x) (find q xs) ≡ None
        by ih true is here =
            ap (λ (b : Bool). cond b (Some x) (find q xs)) (ap q (same_some x y here) ∙ fails)
            ∙ none_found q xs (omega (arith, few, count-cons p x xs, ap one is, count-weaker p q xs weaker))
        by ih false is there = ap (λ (b : Bool). cond b (Some x) (find q xs)) (off x is) ∙ ih (omega (arith, few, count-cons p x xs)) there

    -- where just one passes the weaker test, both find it at one place
    same_place : (xs : List X) (i : ℕ) → count_by p xs ≤ 1 → IsSome (find q xs) → position p xs ≡ Some i → position q xs ≡ Some i
    same_place [] i few some at = absurd cc
    same_place (x ∷ xs) i few some at = step q x xs ∙ by (λ j less there at_j. same_place xs j less there at_j) (p x) (q x) refl refl (sym (step p x xs) ∙ at)
      where
        later_some : (b : Bool) → q x ≡ b → b ≡ false → IsSome (find q xs)
        later_some b is off_it = subst (λ (c : Bool). IsSome (cond c (Some x) (find q xs))) (is ∙ off_it) some

        counted : (o : Option X) → find q xs ≡ o → IsSome o → 1 ≤ count_by p xs
        counted None is bad = absurd cc
        counted (Some y) is ok = found_counts p q xs y weaker is

        by : ((j : ℕ) → count_by p xs ≤ 1 → IsSome (find q xs) → position p xs ≡ Some j → position q xs ≡ Some j) → (b c : Bool) → p x ≡ b → q x ≡ c → cond b (Some 0) (option_map next (position p xs)) ≡ Some i → cond c (Some 0) (option_map next (position q xs)) ≡ Some i
        by ih true true is passes here = here
        by ih true false is passes here = absurd (omega (arith, few, count-cons p x xs, ap one is, counted (find q xs) refl (later_some false passes refl)))
        by ih false true is passes there = absurd (let both : true ≡ false = sym (weaker x passes) ∙ is in cc both)
        by ih false false is passes there =
            let w = before_it (position p xs) i there in
            ap (option_map next) (ih w.0 (omega (arith, few, count-cons p x xs)) (later_some false passes refl) w.1) ∙ ap (λ (k : ℕ). Some k) w.2

  -- what is found at a place
  at_place : (p : X → Bool) (xs : List X) (i : ℕ) (d : X) → position p xs ≡ Some i → find p xs ≡ Some (get_or xs i d)
  at_place p xs i d at = let w = position-Some p xs i d at in first_at p xs i d w.0 w.1 w.2

-- ---- the table

-- of the places that a table has, each is in the list
pub place_in : (places : Places) (list : List Kept) (name : List ℕ) (place : ℕ) → AreAt places list → get name_order places name ≡ Some place → place < length list
place_in places [] name place at is = absurd (let none : Some place ≡ None = sym is ∙ at name in cc none)
place_in places (row ∷ list) name place at is = (position-Some (is_under name) (row ∷ list) place row (sym (at name) ∙ is)).0

pub found_at : (places : Places) (list : List Kept) (name : List ℕ) (place : ℕ) (d : Kept) → AreAt places list → get name_order places name ≡ Some place → find (is_under name) list ≡ Some (get_or list place d)
found_at places list name place d at is = at_place (is_under name) list place d (sym (at name) ∙ is)

pub found_nowhere : (places : Places) (list : List Kept) (name : List ℕ) → AreAt places list → get name_order places name ≡ None → find (is_under name) list ≡ None
found_nowhere places list name at is = nowhere (is_under name) list (sym (at name) ∙ is)

-- the entry under a key's name is the key's, or the key has none
key_there : (list : List Kept) (key : List ℕ) (row : Kept) → find (is_under (name_of key)) list ≡ Some row → is_of key row ≡ true → find (is_of key) list ≡ Some row
key_there list key row is of = found_it (is_under (name_of key)) (is_of key) (of_key key) list row is of

key_other : (list : List Kept) (key : List ℕ) (row : Kept) → count_by (is_under (name_of key)) list ≤ 1 → find (is_under (name_of key)) list ≡ Some row → is_of key row ≡ false → find (is_of key) list ≡ None
key_other list key row few is not_of = found_other (is_under (name_of key)) (is_of key) (of_key key) list row few is not_of

pub key_none : (list : List Kept) (key : List ℕ) → find (is_under (name_of key)) list ≡ None → find (is_of key) list ≡ None
key_none list key none = found_none (is_under (name_of key)) (is_of key) (of_key key) list none

pub key_by : (list : List Kept) (key : List ℕ) (row : Kept) → count_by (is_under (name_of key)) list ≤ 1 → find (is_under (name_of key)) list ≡ Some row → cond (is_of key row) (Some row) None ≡ find (is_of key) list
key_by list key row few is = by (is_of key row) refl
  where
    by : (b : Bool) → is_of key row ≡ b → cond b (Some row) None ≡ find (is_of key) list
    by true of = sym (key_there list key row is of)
    by false not_of = sym (key_other list key row few is not_of)

pub at-pushed : (places new : Places) (list : List Kept) (row : Kept) → AreAt places list → find (is_under (name_at row)) list ≡ None
    → ((other : List ℕ) → get name_order new other ≡ cond (bytes_eq (name_at row) other) (Some (length list)) (get name_order places other)) → AreAt new (list ++ row ∷ [])
at-pushed places new list row at absent puts = λ other. puts other ∙ by other (bytes_eq (name_at row) other) refl
  where
    by : (other : List ℕ) (b : Bool) → bytes_eq (name_at row) other ≡ b → cond b (Some (length list)) (get name_order places other) ≡ position (is_under other) (list ++ row ∷ [])
    by other true is =
        let same : name_at row ≡ other = (bytes_eq-Decides (name_at row) other).0 is in
        sym (pushed_on (is_under other) list row is (find_none (is_under other) list (ap (λ (n : List ℕ). find (is_under n) list) (sym same) ∙ absent)))
    by other false is = at other ∙ sym (pushed_off (is_under other) list row is)

pub once-pushed : (list : List Kept) (row : Kept) → ((name : List ℕ) → count_by (is_under name) list ≤ 1) → find (is_under (name_at row)) list ≡ None → (name : List ℕ) → count_by (is_under name) (list ++ row ∷ []) ≤ 1
once-pushed list row once absent name = by (bytes_eq (name_at row) name) refl
  where
    by : (b : Bool) → bytes_eq (name_at row) name ≡ b → count_by (is_under name) (list ++ row ∷ []) ≤ 1
    by true is =
        let same : name_at row ≡ name = (bytes_eq-Decides (name_at row) name).0 is in
        let none : count_by (is_under name) list ≡ 0 = find_none (is_under name) list (ap (λ (n : List ℕ). find (is_under n) list) (sym same) ∙ absent) in
        omega (arith, count-push (is_under name) list row, ap one is, none)
    by false is = omega (arith, count-push (is_under name) list row, ap one is, once name)

pub at-popped : (places new : Places) (list : List Kept) (row : Kept) → AreAt places (list ++ row ∷ []) → ((name : List ℕ) → count_by (is_under name) (list ++ row ∷ []) ≤ 1)
    → ((other : List ℕ) → get name_order new other ≡ cond (bytes_eq (name_at row) other) None (get name_order places other)) → AreAt new list
at-popped places new list row at once takes = λ other. takes other ∙ by other (bytes_eq (name_at row) other) refl
  where
    by : (other : List ℕ) (b : Bool) → bytes_eq (name_at row) other ≡ b → cond b None (get name_order places other) ≡ position (is_under other) list
    by other true is = sym (none_at (is_under other) list (omega (arith, once other, count-push (is_under other) list row, ap one is)))
    by other false is = at other ∙ pushed_off (is_under other) list row is

pub once-popped : (list : List Kept) (row : Kept) → ((name : List ℕ) → count_by (is_under name) (list ++ row ∷ []) ≤ 1) → (name : List ℕ) → count_by (is_under name) list ≤ 1
once-popped list row once name = omega (arith, once name, count-push (is_under name) list row)

pub at-extended : (places : Places) (list : List Kept) (key : List ℕ) (extent : ℕ) → AreAt places list → AreAt places (map (λ row. cond (is_of key row) (extended_to extent row) row) list)
at-extended places list key extent at = λ name. at name ∙ sym (changed (is_under name) (is_of key) (extended_to extent) list (λ row. refl))

pub once-extended : (list : List Kept) (key : List ℕ) (extent : ℕ) → ((name : List ℕ) → count_by (is_under name) list ≤ 1) → (name : List ℕ) → count_by (is_under name) (map (λ row. cond (is_of key row) (extended_to extent row) row) list) ≤ 1
once-extended list key extent once name = omega (arith, once name, count-same (is_under name) (is_of key) (extended_to extent) list (λ row. refl))

-- an element is the same whatever stands for what is not there
at_default : (xs : List Kept) (i : ℕ) (d : Kept) → i < length xs → get_or xs i d ≡ get_or xs i no_row
at_default [] i d lt = absurd (omega (arith, lt))
at_default (x ∷ xs) zero d lt = refl
at_default (x ∷ xs) (suc i) d lt = at_default xs i d (omega (arith, lt))

-- of a key that is kept
module _ (list : List Kept) (key : List ℕ) (once : (name : List ℕ) → count_by (is_under name) list ≤ 1) (kept : IsSome (find (is_of key) list)) where
  wrong_none : (o : Option Kept) → o ≡ None → IsSome o → ⊥
  wrong_none None e some = absurd cc
  wrong_none (Some row) e some = absurd cc

  some_place : (i : ℕ) → position (is_under (name_of key)) list ≡ Some i → position (is_of key) list ≡ Some i
  some_place i at = same_place (is_under (name_of key)) (is_of key) (of_key key) list i (once (name_of key)) kept at

  pub key_place : (places : Places) → AreAt places list → (i : ℕ) × (get name_order places (name_of key) ≡ Some i) × (position (is_of key) list ≡ Some i)
  key_place places at = by (position (is_under (name_of key)) list) refl
    where
      by : (o : Option ℕ) → position (is_under (name_of key)) list ≡ o → (i : ℕ) × (get name_order places (name_of key) ≡ Some i) × (position (is_of key) list ≡ Some i)
      by None none = absurd (wrong_none (find (is_of key) list) (key_none list key (nowhere (is_under (name_of key)) list none)) kept)
      by (Some i) there = (i, at (name_of key) ∙ there, some_place i there)

  -- the place that the table has for its name is that of the key
  pub place_of_key : (places : Places) → AreAt places list → (i : ℕ) → get name_order places (name_of key) ≡ Some i → position (is_of key) list ≡ Some i
  place_of_key places at i is = some_place i (sym (at (name_of key)) ∙ is)

  pub no_place : (places : Places) → AreAt places list → get name_order places (name_of key) ≡ None → ⊥
  no_place places at none = let w = key_place places at in absurd (let bad : Some w.0 ≡ None = sym w.1 ∙ none in cc)

  one_of : count_by (is_of key) list ≤ 1
  one_of = omega (arith, once (name_of key), count-weaker (is_under (name_of key)) (is_of key) list (of_key key))

  -- the one of the key stands at its name's place
  pub row-there : (place : ℕ) (row : Kept) → position (is_of key) list ≡ Some place → row ≡ get_or list place row → unwrap_or (find (is_of key) list) no_row ≡ row
  row-there place row there is = ap (λ (o : Option Kept). unwrap_or o no_row) (at_place (is_of key) list place row there) ∙ sym is

  pub set-extended : (place extent : ℕ) (row new : Kept) → position (is_of key) list ≡ Some place → row ≡ get_or list place row → new ≡ extended_to extent row
      → set list place new ≡ map (λ r. cond (is_of key r) (extended_to extent r) r) list
  set-extended place extent row new there is changes =
      let w = position-Some (is_of key) list place no_row there in
      ap (set list place) (changes ∙ ap (extended_to extent) (is ∙ at_default list place row w.0)) ∙ changed_at (is_of key) (extended_to extent) list place no_row w.0 w.1 one_of

  out : (o : Option Kept) → find (is_of key) list ≡ o → IsSome o → count_by (is_under (name_of key)) (filter (is_other key) list) ≡ 0
  out None is bad = absurd cc
  out (Some row) is ok = omega (arith, once (name_of key), one_out (is_under (name_of key)) (is_of key) list row (of_key key) is)

  pub at-left : (places new : Places) → AreAt places list → Leaves (name_of key) places new → AreAt new (filter (is_other key) list)
  at-left places new at leaves =
      let w = key_place places at in
      λ other. leaves w.0 w.1 other ∙ by other w.0 w.2 (bytes_eq (name_of key) other) refl
    where
      apart : (other : List ℕ) → bytes_eq (name_of key) other ≡ false → (row : Kept) → is_of key row ≡ true → is_under other row ≡ false
      apart other differs row of = ap (λ (n : List ℕ). bytes_eq n other) (ap name_of ((bytes_eq-Decides row.entry.key key).0 of)) ∙ differs

      by : (other : List ℕ) (i : ℕ) → position (is_of key) list ≡ Some i → (b : Bool) → bytes_eq (name_of key) other ≡ b
          → cond b None (option_map (moved_up i) (get name_order places other)) ≡ position (is_under other) (filter (is_other key) list)
      by other i there true is =
          let same : name_of key ≡ other = (bytes_eq-Decides (name_of key) other).0 is in
          sym (none_at (is_under other) (filter (is_other key) list) (ap (λ (n : List ℕ). count_by (is_under n) (filter (is_other key) list)) (sym same) ∙ out (find (is_of key) list) refl kept))
      by other i there false is = ap (option_map (moved_up i)) (at other) ∙ sym (filtered (is_under other) (is_of key) list i (apart other is) one_of there)

pub once-left : (list : List Kept) (key : List ℕ) → ((name : List ℕ) → count_by (is_under name) list ≤ 1) → (name : List ℕ) → count_by (is_under name) (filter (is_other key) list) ≤ 1
once-left list key once name = omega (arith, once name, count-filter (is_under name) (is_other key) list)

-- ---- the table as it stands in memory

-- what is left where a name was taken out, and the places behind it moved up
pub left_is : (old mid new : Places) (name : List ℕ) (there : ℕ) → get name_order old name ≡ Some there → ((other : List ℕ) → get name_order mid other ≡ cond (is_at (name_order name) other) None (get name_order old other))
    → ((other : List ℕ) → get name_order new other ≡ option_map (moved_up there) (get name_order mid other)) → Leaves name old new
left_is old mid new name there at takes moves = λ gone is other.
    moves other ∙ ap (option_map (moved_up there)) (takes other ∙ ap (λ (b : Bool). cond b None (get name_order old other)) (is_eq-slice_cmp name other))
    ∙ by (bytes_eq name other) (get name_order old other) ∙ ap (λ (k : ℕ). cond (bytes_eq name other) None (option_map (moved_up k) (get name_order old other))) (same_some there gone (sym at ∙ is))
  where
    by : (b : Bool) (o : Option ℕ) → option_map (moved_up there) (cond b None o) ≡ cond b None (option_map (moved_up there) o)
    by true o = refl
    by false o = refl

pub table_same : (o p : Inside) → IsTable o → p.list.items ≡ o.list.items → ((name : List ℕ) → get name_order p.places name ≡ get name_order o.places name) → IsTable p
table_same o p table items places = record {
  at = λ name. places name ∙ table.at name ∙ ap (position (is_under name)) (sym items);
  once = λ name. subst (λ (list : List Kept). count_by (is_under name) list ≤ 1) (sym items) (table.once name);
}

pub table_pushed : (o p : Inside) (row : Kept) → IsTable o → find (is_under (name_at row)) o.list.items ≡ None → p.list.items ≡ o.list.items ++ row ∷ []
    → ((other : List ℕ) → get name_order p.places other ≡ cond (bytes_eq (name_at row) other) (Some (length o.list.items)) (get name_order o.places other)) → IsTable p
table_pushed o p row table absent items puts = record {
  at = subst (AreAt p.places) (sym items) (at-pushed o.places p.places o.list.items row table.at absent puts);
  once = λ name. subst (λ (list : List Kept). count_by (is_under name) list ≤ 1) (sym items) (once-pushed o.list.items row table.once absent name);
}

pub table_popped : (o p : Inside) (row : Kept) → IsTable o → o.list.items ≡ p.list.items ++ row ∷ []
    → ((other : List ℕ) → get name_order p.places other ≡ cond (bytes_eq (name_at row) other) None (get name_order o.places other)) → IsTable p
table_popped o p row table items takes = record {
  at = at-popped o.places p.places p.list.items row (subst (AreAt o.places) items table.at) once takes;
  once = once-popped p.list.items row once;
}
  where
    once : (name : List ℕ) → count_by (is_under name) (p.list.items ++ row ∷ []) ≤ 1
    once name = subst (λ (list : List Kept). count_by (is_under name) list ≤ 1) items (table.once name)

pub table_extended : (o p : Inside) (key : List ℕ) (extent : ℕ) → IsTable o → p.list.items ≡ map (λ row. cond (is_of key row) (extended_to extent row) row) o.list.items → p.places ≡ o.places → IsTable p
table_extended o p key extent table items places = record {
  at = subst (AreAt p.places) (sym items) (subst (λ (t : Places). AreAt t (map (λ row. cond (is_of key row) (extended_to extent row) row) o.list.items)) (sym places) (at-extended o.places o.list.items key extent table.at));
  once = λ name. subst (λ (list : List Kept). count_by (is_under name) list ≤ 1) (sym items) (once-extended o.list.items key extent table.once name);
}

pub table_left : (o p : Inside) (key : List ℕ) → IsTable o → IsSome (find (is_of key) o.list.items) → p.list.items ≡ filter (is_other key) o.list.items → Leaves (name_of key) o.places p.places → IsTable p
table_left o p key table kept items leaves = record {
  at = subst (AreAt p.places) (sym items) (at-left o.list.items key table.once kept o.places p.places table.at leaves);
  once = λ name. subst (λ (list : List Kept). count_by (is_under name) list ≤ 1) (sym items) (once-left o.list.items key table.once name);
}

front : (xs : List Kept) (y : Kept) → take (length xs) (xs ++ y ∷ []) ≡ xs
front [] y = refl
front (x ∷ xs) y = ap (λ (ys : List Kept). x ∷ ys) (front xs y)

-- what came last is out again
pub popped_is : (old pushed popped : List Kept) (row : Kept) → pushed ≡ old ++ row ∷ [] → popped ≡ take (length pushed - 1) pushed → popped ≡ old
popped_is old pushed popped row is pops =
    pops ∙ ap (λ (rows : List Kept). take (length rows - 1) rows) is ∙ ap (λ (k : ℕ). take k (old ++ row ∷ [])) one_less ∙ front old row
  where
    one_less : length (old ++ row ∷ []) - 1 ≡ length old
    one_less = omega (arith, length-append old (row ∷ []))
