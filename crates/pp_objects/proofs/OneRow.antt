-- Whatever is called, a key has at most one row.
use Rattle.std.proofs.Common.{ℕ, ◌+◌, ◌≤◌, ◌≡◌, Bool, true, false, ◌==◌, not, cond, List, [], ◌∷◌, ◌++◌, filter, arith, refl, sym, ◌∙◌, ap, subst, Option, Some, None}
use Rattle.std.specs.Prelude.{count_by, bytes_eq}
use Rattle.std.specs.List.{find}
use Rattle.std.proofs.lemmas.Grind.{common_steps}
use Rattle.std.proofs.lemmas.Slice.Eq.{bytes_eq-Decides}
use Rattle.pp_text.specs.Fields.{Field}
use Rattle.pp_valid.specs.declared.version.Version.{Version}
use Rattle.pp_fresh.specs.declared.aging.Times.{Times}
use Rattle.pp_objects.specs.declared.id.ObjectId.{ObjectId}
use Rattle.pp_objects.specs.Instances.{Instance, is_in_slot, is_row_of, row_of}
use Rattle.pp_objects.specs.Changes.{changed_in, without_slot, is_elsewhere, marked, left, left_from, is_last, retired, retired_from, settled, new_row, face, faces}
use Rattle.pp_objects.specs.OneRow.{HasOneRow}

abbrev rows : List ℕ → List Instance → ℕ
rows key is = count_by (is_row_of key) is

abbrev one : Bool → ℕ
one b = cond b 1 0

counted : (p : Instance → Bool) (i : Instance) (is : List Instance) (b : Bool) → p i ≡ b → count_by p (i ∷ is) ≡ one b + count_by p is
counted p i is true e = grind (arith, common_steps, e)
counted p i is false e = grind (arith, common_steps, e)

head : (key : List ℕ) (i : Instance) (is : List Instance) → rows key (i ∷ is) ≡ one (is_row_of key i) + rows key is
head key i is = counted (is_row_of key) i is (is_row_of key i) refl

joined : (key : List ℕ) (is js : List Instance) → rows key (is ++ js) ≡ rows key is + rows key js
joined key [] js = omega arith
joined key (i ∷ is) js = omega (arith, head key i (is ++ js), head key i is, joined key is js)

less_out : (key : List ℕ) (s : ℕ) (is : List Instance) → rows key (without_slot s is) ≤ rows key is
less_out key s [] = omega arith
less_out key s (i ∷ is) = by (is_in_slot s i) (less_out key s is)
  where
    by : (b : Bool) → rows key (without_slot s is) ≤ rows key is → rows key (cond (not b) (i ∷ without_slot s is) (without_slot s is)) ≤ rows key (i ∷ is)
    by true ih = omega (arith, ih, head key i is)
    by false ih = omega (arith, ih, head key i (without_slot s is), head key i is)

less_changed : (key : List ℕ) (s : ℕ) (f : Instance → Instance) (is : List Instance) → ((i : Instance) → one (is_row_of key (f i)) ≤ one (is_row_of key i))
    → rows key (changed_in s f is) ≤ rows key is
less_changed key s f [] h = omega arith
less_changed key s f (i ∷ is) h = by (is_in_slot s i) (less_changed key s f is h)
  where
    by : (b : Bool) → rows key (changed_in s f is) ≤ rows key is → rows key (cond b (f i) i ∷ changed_in s f is) ≤ rows key (i ∷ is)
    by true ih = omega (arith, ih, h i, head key (f i) (changed_in s f is), head key i is)
    by false ih = omega (arith, ih, head key i (changed_in s f is), head key i is)

no_more : (b : Bool) → one false ≤ one b
no_more b = omega arith

less_retired : (key : List ℕ) (s : ℕ) (is : List Instance) → rows key (changed_in s retired is) ≤ rows key is
less_retired key s is = less_changed key s retired is (λ i. no_more (is_row_of key i))

less_from : (key : List ℕ) (x : Option Instance) (is : List Instance) → rows key (retired_from x is) ≤ rows key is
less_from key None is = omega arith
less_from key (Some i) is = by (i.followers == 0)
  where
    by : (b : Bool) → rows key (cond b (without_slot i.slot is) (changed_in i.slot retired is)) ≤ rows key is
    by true = less_out key i.slot is
    by false = less_retired key i.slot is

same_some : (i j : Instance) → Some i ≡ Some j → i ≡ j
same_some i j e = cc

itself : (k : ℕ) → (k == k) ≡ true
itself k = grind (arith, common_steps)

-- the row that was found is out
one_out : (key : List ℕ) (i : Instance) (is : List Instance) → find (is_row_of key) is ≡ Some i → rows key (without_slot i.slot is) + 1 ≤ rows key is
one_out key i [] e = absurd cc
one_out key i (j ∷ is) e = by (is_row_of key j) (is_in_slot i.slot j) refl refl e (one_out key i is)
  where
    by : (b t : Bool) → is_row_of key j ≡ b → is_in_slot i.slot j ≡ t → cond b (Some j) (find (is_row_of key) is) ≡ Some i
        → (find (is_row_of key) is ≡ Some i → rows key (without_slot i.slot is) + 1 ≤ rows key is)
        → rows key (cond (not t) (j ∷ without_slot i.slot is) (without_slot i.slot is)) + 1 ≤ rows key (j ∷ is)
    by true true r at e ih = omega (arith, less_out key i.slot is, head key j is, ap one r)
    by true false r at e ih =
        let wrong : true ≡ false = sym (itself i.slot) ∙ ap (λ (h : Instance). h.slot == i.slot) (sym (same_some j i e)) ∙ at in
        absurd cc
    by false true r at e ih = omega (arith, ih e, head key j is, ap one r)
    by false false r at e ih = omega (arith, ih e, head key j (without_slot i.slot is), head key j is, ap one r)

one_retired : (key : List ℕ) (i : Instance) (is : List Instance) → find (is_row_of key) is ≡ Some i → rows key (changed_in i.slot retired is) + 1 ≤ rows key is
one_retired key i [] e = absurd cc
one_retired key i (j ∷ is) e = by (is_row_of key j) (is_in_slot i.slot j) refl refl e (one_retired key i is)
  where
    by : (b t : Bool) → is_row_of key j ≡ b → is_in_slot i.slot j ≡ t → cond b (Some j) (find (is_row_of key) is) ≡ Some i
        → (find (is_row_of key) is ≡ Some i → rows key (changed_in i.slot retired is) + 1 ≤ rows key is)
        → rows key (cond t (retired j) j ∷ changed_in i.slot retired is) + 1 ≤ rows key (j ∷ is)
    by true true r at e ih = omega (arith, less_retired key i.slot is, head key (retired j) (changed_in i.slot retired is), head key j is, ap one r)
    by true false r at e ih =
        let wrong : true ≡ false = sym (itself i.slot) ∙ ap (λ (h : Instance). h.slot == i.slot) (sym (same_some j i e)) ∙ at in
        absurd cc
    by false true r at e ih = omega (arith, ih e, head key (retired j) (changed_in i.slot retired is), head key j is, ap one r)
    by false false r at e ih = omega (arith, ih e, head key j (changed_in i.slot retired is), head key j is, ap one r)

one_from : (key : List ℕ) (i : Instance) (is : List Instance) → find (is_row_of key) is ≡ Some i → rows key (retired_from (Some i) is) + 1 ≤ rows key is
one_from key i is e = by (i.followers == 0)
  where
    by : (b : Bool) → rows key (cond b (without_slot i.slot is) (changed_in i.slot retired is)) + 1 ≤ rows key is
    by true = one_out key i is e
    by false = one_retired key i is e

none_found : (key : List ℕ) (is : List Instance) → find (is_row_of key) is ≡ None → rows key is ≡ 0
none_found key [] e = omega arith
none_found key (i ∷ is) e = by (is_row_of key i) refl e (none_found key is)
  where
    by : (b : Bool) → is_row_of key i ≡ b → cond b (Some i) (find (is_row_of key) is) ≡ None → (find (is_row_of key) is ≡ None → rows key is ≡ 0) → rows key (i ∷ is) ≡ 0
    by true r e ih = absurd cc
    by false r e ih = omega (arith, ih e, head key i is, ap one r)

found_still : (p : Instance → Bool) (is js : List Instance) (i : Instance) → find p is ≡ Some i → find p (is ++ js) ≡ Some i
found_still p [] js i e = absurd cc
found_still p (j ∷ is) js i e = by (p j) e (found_still p is js i)
  where
    by : (b : Bool) → cond b (Some j) (find p is) ≡ Some i → (find p is ≡ Some i → find p (is ++ js) ≡ Some i) → cond b (Some j) (find p (is ++ js)) ≡ Some i
    by true e ih = e
    by false e ih = ih e

at_most : (b : Bool) → one b ≤ 1
at_most true = omega arith
at_most false = omega arith

-- the key of the new row
of_key : (id : ObjectId) (key : List ℕ) (version : Version) (fields : List Field) (times : Times) (is : List Instance) (x : Option Instance) → row_of key is ≡ x
    → rows key is ≤ 1 → rows key (retired_from x (is ++ new_row id key version fields times ∷ [])) ≤ 1
of_key id key version fields times is None e h =
    let new = new_row id key version fields times in
    omega (arith, none_found key is e, joined key is (new ∷ []), head key new [], at_most (is_row_of key new))
of_key id key version fields times is (Some i) e h =
    let new = new_row id key version fields times in
    omega (arith, h, one_from key i (is ++ new ∷ []) (found_still (is_row_of key) is (new ∷ []) i e), joined key is (new ∷ []), head key new [], at_most (is_row_of key new))

pub one_row-settled : (id : ObjectId) (key : List ℕ) (version : Version) (fields : List Field) (times : Times) (is : List Instance) → HasOneRow is
    → HasOneRow (settled id key version fields times is)
one_row-settled id key version fields times is h other = by (bytes_eq key other) refl
  where
    by : (b : Bool) → bytes_eq key other ≡ b → rows other (settled id key version fields times is) ≤ 1
    by true e =
        let P : List ℕ → Type 0 = λ k. rows k (settled id key version fields times is) ≤ 1 in
        subst P ((bytes_eq-Decides key other).0 e) (of_key id key version fields times is (row_of key is) refl (h key))
    by false e =
        let new = new_row id key version fields times in
        omega (arith, h other, less_from other (row_of key is) (is ++ new ∷ []), joined other is (new ∷ []), head other new [], ap one e)

pub one_row-retired : (key : List ℕ) (is : List Instance) → HasOneRow is → HasOneRow (retired_from (row_of key is) is)
one_row-retired key is h other = omega (arith, h other, less_from other (row_of key is) is)

pub one_row-forgotten : (s : ℕ) (is : List Instance) → HasOneRow is → HasOneRow (without_slot s is)
one_row-forgotten s is h other = omega (arith, h other, less_out other s is)

-- a change that leaves the key and whether it is a row: followed, left, refreshed
pub one_row-changed : (s : ℕ) (f : Instance → Instance) (is : List Instance) → ((key : List ℕ) (i : Instance) → is_row_of key (f i) ≡ is_row_of key i) → HasOneRow is → HasOneRow (changed_in s f is)
one_row-changed s f is same h other = omega (arith, h other, less_changed other s f is (λ i. omega (arith, ap one (same other i))))

pub one_row-left : (s : ℕ) (x : Option Instance) (is : List Instance) → HasOneRow is → HasOneRow (left_from s x is)
one_row-left s x is h = by (is_last x)
  where
    by : (b : Bool) → HasOneRow (cond b (without_slot s is) (changed_in s left is))
    by true = one_row-forgotten s is h
    by false = one_row-changed s left is (λ key i. refl) h

halves : (key : List ℕ) (s : ℕ) (is : List Instance) → rows key (filter (is_elsewhere s) is) + rows key (filter (is_in_slot s) is) ≡ rows key is
halves key s [] = omega arith
halves key s (i ∷ is) = by (is_in_slot s i) (halves key s is)
  where
    by : (b : Bool) → rows key (filter (is_elsewhere s) is) + rows key (filter (is_in_slot s) is) ≡ rows key is
        → rows key (cond (not b) (i ∷ filter (is_elsewhere s) is) (filter (is_elsewhere s) is)) + rows key (cond b (i ∷ filter (is_in_slot s) is) (filter (is_in_slot s) is)) ≡ rows key (i ∷ is)
    by true ih = omega (arith, ih, head key i (filter (is_in_slot s) is), head key i is)
    by false ih = omega (arith, ih, head key i (filter (is_elsewhere s) is), head key i is)

pub one_row-marked : (s : ℕ) (is : List Instance) → HasOneRow is → HasOneRow (marked s is)
one_row-marked s is h other = omega (arith, h other, halves other s is, joined other (filter (is_elsewhere s) is) (filter (is_in_slot s) is))

-- what is in memory tells nothing of rows
pub rows-faces : (key : List ℕ) (is : List Instance) → rows key (faces is) ≡ rows key is
rows-faces key [] = refl
rows-faces key (i ∷ is) = omega (arith, rows-faces key is, head key (face i) (faces is), head key i is)
