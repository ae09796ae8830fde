-- A new row joins, and the former one of its key is retired.
use Rattle.std.proofs.Common.{ℕ, zero, suc, ◌/◌, ◌%◌, ◌≡◌, nat_lt, Bool, true, false, ◌==◌, not, cond, List, [], ◌∷◌, ◌++◌, replicate, arith, refl, sym, ◌∙◌, ap, subst, Option, Some, None, ◌⊎◌, inl, inr}
use Rattle.std.specs.Prelude.{option_map}
use Rattle.std.specs.List.{find}
use Rattle.std.proofs.lemmas.Grind.{common_steps}
use Rattle.std.proofs.lemmas.Bool.{cases_eq}
use Rattle.pp_text.specs.Fields.{Field}
use Rattle.pp_valid.specs.declared.version.Version.{Version}
use Rattle.pp_fresh.specs.declared.aging.Times.{Times}
use Rattle.pp_pool.specs.Chunks.{Used}
use Rattle.pp_holes.specs.declared.cell.Cell.{Cell}
use Rattle.pp_holes.specs.Places.{Chunk}
use Rattle.pp_holes.specs.Cells.{Agrees, Table, cell_of, chunks_of, filled_of, is_in_memory}
use Rattle.pp_holes.proofs.Owned.{none_at}
use Rattle.pp_holes.proofs.Agreement.{agrees_new}
use Rattle.pp_objects.specs.declared.id.ObjectId.{ObjectId}
use Rattle.pp_objects.specs.declared.row.Row.{Row}
use Rattle.pp_objects.specs.Instances.{Instance, id_of, in_slot, is_there, is_life, cells_of, cells_at}
use Rattle.pp_objects.specs.Changes.{new_row, changed_in, without_slot, retired, retired_from, set_aside, given_back_by}
use Rattle.pp_objects.specs.Inside.{instance_as, IsOwned, IsNew}
use Rattle.pp_objects.specs.Agreement.{AllAgree}
use Rattle.pp_objects.proofs.Agreeing.{same_test}
use Rattle.pp_objects.proofs.Staying.{found_last}

-- what a new row shows
pub new_as : (r : Row) (id : ObjectId) (key : List ℕ) (version : Version) (fields : List Field) (times : Times) → IsNew r id.slot id.life key version fields times
    → instance_as id.slot (Some r) ≡ new_row id key version fields times
new_as r id key version fields times n =
    rw (n.life, n.key, n.version, n.fields, n.times, n.current, n.unfollowed, n.cells) refl

not_below : (n : ℕ) → nat_lt n 0 ≡ false
not_below n = grind (arith, common_steps)

none_there : (n i : ℕ) → filled_of (cell_of (replicate n None) i) ≡ 0
none_there zero i = refl
none_there (suc n) zero = refl
none_there (suc n) (suc i) = none_there n i

none_in : (n o : ℕ) → is_in_memory (replicate n None) o ≡ false
none_in n o = ap (nat_lt (o % 4096)) (none_there n (o / 4096)) ∙ not_below (o % 4096)

pub new_owned : (r : Row) (slot life : ℕ) (key : List ℕ) (version : Version) (fields : List Field) (times : Times) → IsNew r slot life key version fields times → IsOwned slot r
new_owned r slot life key version fields times n = record {
  owner = ap (λ (t : Table). t.owner) n.cells;
  total = ap (λ (t : Table). t.total) n.cells ∙ ap (λ (v : Version). v.length) (sym n.version);
  ends = λ o behind. ap (λ (t : Table). is_in_memory t.cells o) n.cells ∙ none_in (chunks_of version.length) o;
}

still_by : (b : Bool) (p : Instance → Bool) (j i : Instance) (is js : List Instance) → cond b (Some j) (find p is) ≡ Some i → (find p is ≡ Some i → find p (is ++ js) ≡ Some i) → cond b (Some j) (find p (is ++ js)) ≡ Some i
still_by true p j i is js e ih = e
still_by false p j i is js e ih = ih e

found_still : (p : Instance → Bool) (is js : List Instance) (i : Instance) → find p is ≡ Some i → find p (is ++ js) ≡ Some i
found_still p [] js i e = absurd cc
found_still p (j ∷ is) js i e = still_by (p j) p j i is js e (found_still p is js i)

-- the former row stands on beside the new one
pub former_still : (is js : List Instance) (x : Option Instance) (id : ObjectId) → Some id ≡ option_map id_of x → in_slot id.slot is ≡ x → in_slot id.slot (is ++ js) ≡ x
former_still is js None id e at = absurd cc
former_still is js (Some i) id e at = found_still (λ j. j.slot == id.slot) is js i at

same_id : (a b : ObjectId) → Some a ≡ Some b → a ≡ b
same_id a b e = cc

life_by : (x : Option Instance) (id : ObjectId) → Some id ≡ option_map id_of x → is_life id.life x ≡ true
life_by None id e = absurd cc
life_by (Some i) id e = same_test i.life id.life (ap (λ (d : ObjectId). d.life) (sym (same_id id (id_of i) e)))

pub no_former : (x : Option Instance) → None ≡ option_map id_of x → x ≡ None
no_former None e = refl
no_former (Some i) e = absurd cc

some_same : (i j : Instance) → Some i ≡ Some j → i ≡ j
some_same i j e = cc

-- a former row that was set aside is out, or retired, as it would have been at once
there_by : (b : Bool) (k : ℕ) (j i : Instance) (x y : Option Instance) → (j.slot == k) ≡ b → cond b (Some j) x ≡ Some i → (x ≡ Some i → y ≡ Some (retired i))
    → cond ((cond b (retired j) j).slot == k) (Some (cond b (retired j) j)) y ≡ Some (retired i)
there_by true k j i x y at e ih = ap (λ c. cond c (Some (retired j)) y) at ∙ ap (λ (h : Instance). Some (retired h)) (some_same j i e)
there_by false k j i x y at e ih = ap (λ c. cond c (Some j) y) at ∙ ih e

aside_there : (k : ℕ) (js : List Instance) (i : Instance) → in_slot k js ≡ Some i → in_slot k (changed_in k retired js) ≡ Some (retired i)
aside_there k [] i e = absurd cc
aside_there k (j ∷ js) i e = there_by (j.slot == k) k j i (in_slot k js) (in_slot k (changed_in k retired js)) refl e (aside_there k js i)

without_by : (b : Bool) (k : ℕ) (j : Instance) (fs gs : List Instance) → (j.slot == k) ≡ b → fs ≡ gs
    → cond (not ((cond b (retired j) j).slot == k)) (cond b (retired j) j ∷ fs) fs ≡ cond (not b) (j ∷ gs) gs
without_by true k j fs gs at e = ap (λ c. cond (not c) (retired j ∷ fs) fs) at ∙ e
without_by false k j fs gs at e = ap (λ c. cond (not c) (j ∷ fs) fs) at ∙ ap (λ l. j ∷ l) e

without_aside : (k : ℕ) (js : List Instance) → without_slot k (changed_in k retired js) ≡ without_slot k js
without_aside k [] = refl
without_aside k (j ∷ js) = without_by (j.slot == k) k j (without_slot k (changed_in k retired js)) (without_slot k js) refl (without_aside k js)

twice_by : (b : Bool) (k : ℕ) (j : Instance) (fs gs : List Instance) → (j.slot == k) ≡ b → fs ≡ gs
    → cond ((cond b (retired j) j).slot == k) (retired (cond b (retired j) j)) (cond b (retired j) j) ∷ fs ≡ cond b (retired j) j ∷ gs
twice_by true k j fs gs at e = ap (λ c. cond c (retired j) (retired j) ∷ fs) at ∙ ap (λ l. retired j ∷ l) e
twice_by false k j fs gs at e = ap (λ c. cond c (retired j) j ∷ fs) at ∙ ap (λ l. j ∷ l) e

twice_aside : (k : ℕ) (js : List Instance) → changed_in k retired (changed_in k retired js) ≡ changed_in k retired js
twice_aside k [] = refl
twice_aside k (j ∷ js) = twice_by (j.slot == k) k j (changed_in k retired (changed_in k retired js)) (changed_in k retired js) refl (twice_aside k js)

out_by : (b : Bool) (k : ℕ) (js : List Instance)
    → cond b (without_slot k (changed_in k retired js)) (changed_in k retired (changed_in k retired js)) ≡ cond b (without_slot k js) (changed_in k retired js)
out_by true k js = without_aside k js
out_by false k js = twice_aside k js

-- where the former row stands, as it is set aside
pub former_aside : (is js : List Instance) (x : Option Instance) (id : ObjectId) → Some id ≡ option_map id_of x → in_slot id.slot is ≡ x
    → in_slot id.slot (set_aside x (is ++ js)) ≡ option_map retired x
former_aside is js None id e at = absurd cc
former_aside is js (Some i) id e at =
    let same : id.slot ≡ i.slot = ap (λ (d : ObjectId). d.slot) (same_id id (id_of i) e) in
    ap (λ k. in_slot k (changed_in i.slot retired (is ++ js))) same
    ∙ aside_there i.slot (is ++ js) i (ap (λ k. in_slot k (is ++ js)) (sym same) ∙ former_still is js (Some i) id e at)

life_aside : (x : Option Instance) (id : ObjectId) → Some id ≡ option_map id_of x → is_life id.life (option_map retired x) ≡ true
life_aside None id e = absurd cc
life_aside (Some i) id e = life_by (Some i) id e

pub aside_still : (is js : List Instance) (x : Option Instance) (id : ObjectId) → Some id ≡ option_map id_of x → in_slot id.slot is ≡ x → is_there id (set_aside x (is ++ js)) ≡ true
aside_still is js x id e at = ap (is_life id.life) (former_aside is js x id e at) ∙ life_aside x id e

from_aside : (x : Option Instance) (js : List Instance) → retired_from (option_map retired x) (set_aside x js) ≡ retired_from x js
from_aside None js = refl
from_aside (Some i) js = out_by (i.followers == 0) i.slot js

pub settled_aside : (is js : List Instance) (x : Option Instance) (id : ObjectId) → Some id ≡ option_map id_of x → in_slot id.slot is ≡ x
    → retired_from (in_slot id.slot (set_aside x (is ++ js))) (set_aside x (is ++ js)) ≡ retired_from x (is ++ js)
settled_aside is js x id e at = ap (λ y. retired_from y (set_aside x (is ++ js))) (former_aside is js x id e at) ∙ from_aside x (is ++ js)

given_aside : (x : Option Instance) (cs : List Chunk) → given_back_by (option_map retired x) cs ≡ given_back_by x cs
given_aside None cs = refl
given_aside (Some i) cs = refl

pub given_as_aside : (is js : List Instance) (x : Option Instance) (id : ObjectId) (cs : List Chunk) → Some id ≡ option_map id_of x → in_slot id.slot is ≡ x
    → given_back_by (in_slot id.slot (set_aside x (is ++ js))) cs ≡ given_back_by x cs
given_as_aside is js x id cs e at = ap (λ y. given_back_by y cs) (former_aside is js x id e at) ∙ given_aside x cs

cells_by : (b t : Bool) (j : Instance) (x y : Option Instance) → cells_of x ≡ cells_of y → cells_of (cond t (Some (cond b (retired j) j)) x) ≡ cells_of (cond t (Some j) y)
cells_by true true j x y ih = refl
cells_by false true j x y ih = refl
cells_by b false j x y ih = ih

slot_by : (b : Bool) (j : Instance) → (cond b (retired j) j).slot ≡ j.slot
slot_by true j = refl
slot_by false j = refl

cells_retired : (k m : ℕ) (js : List Instance) → cells_at k (changed_in m retired js) ≡ cells_at k js
cells_retired k m [] = refl
cells_retired k m (j ∷ js) =
    ap (λ n. cells_of (cond (n == k) (Some (cond (j.slot == m) (retired j) j)) (in_slot k (changed_in m retired js)))) (slot_by (j.slot == m) j)
    ∙ cells_by (j.slot == m) (j.slot == k) j (in_slot k (changed_in m retired js)) (in_slot k js) (cells_retired k m js)

cells_aside : (k : ℕ) (x : Option Instance) (js : List Instance) → cells_at k (set_aside x js) ≡ cells_at k js
cells_aside k None js = refl
cells_aside k (Some i) js = cells_retired k i.slot js

other_last : (is : List Instance) (i : Instance) (k : ℕ) → (i.slot == k) ≡ false → in_slot k (is ++ i ∷ []) ≡ in_slot k is
other_last [] i k apart = ap (λ b. cond b (Some i) None) apart
other_last (j ∷ is) i k apart = ap (λ x. cond (j.slot == k) (Some j) x) (other_last is i k apart)

false_test : (n k : ℕ) → (n ≡ k → ⊥) → (n == k) ≡ false
false_test n k q = grind (arith, common_steps, q)

agree_by : (is : List Instance) (i : Instance) (x : Option Instance) (us : List Used) (n k : ℕ) → i.cells ≡ replicate n None → in_slot i.slot is ≡ None → AllAgree is us
    → (i.slot ≡ k) ⊎ (i.slot ≡ k → ⊥) → Agrees k (cells_at k (set_aside x (is ++ i ∷ []))) us
agree_by is i x us n k new vacant all (inl q) =
    let P : List (Option Cell) → Type 0 = λ cs. Agrees k cs us in
    let old : Agrees k [] us = subst P (ap cells_of (ap (λ m. in_slot m is) (sym q) ∙ vacant)) (all k) in
    subst P (sym (cells_aside k x (is ++ i ∷ []) ∙ ap cells_of (found_last is i k q (ap (λ m. in_slot m is) (sym q) ∙ vacant)) ∙ new)) (agrees_new k n us old.distinct (λ j. none_at [] k j us old.owns refl))
agree_by is i x us n k new vacant all (inr q) =
    let P : List (Option Cell) → Type 0 = λ cs. Agrees k cs us in
    subst P (sym (cells_aside k x (is ++ i ∷ []) ∙ ap cells_of (other_last is i k (false_test i.slot k q)))) (all k)

-- a new row has nothing in memory, so it agrees with any pool in which its slot owns nothing
pub agree_made : (is : List Instance) (i : Instance) (x : Option Instance) (us : List Used) (n : ℕ) → i.cells ≡ replicate n None → in_slot i.slot is ≡ None → AllAgree is us
    → AllAgree (set_aside x (is ++ i ∷ [])) us
agree_made is i x us n new vacant all k = agree_by is i x us n k new vacant all (cases_eq i.slot k)
