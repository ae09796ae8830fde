-- Which instances are there after a row was made: laws of the definitions.
use Rattle.std.proofs.Common.{ℕ, ◌≡◌, Bool, true, false, ◌==◌, not, cond, List, [], ◌∷◌, ◌++◌, arith, refl, sym, ◌∙◌, ap, Option, Some, None}
use Rattle.std.specs.List.{find}
use Rattle.std.proofs.lemmas.Grind.{common_steps}
use Rattle.pp_text.specs.Fields.{Field}
use Rattle.pp_valid.specs.declared.version.Version.{Version}
use Rattle.pp_fresh.specs.declared.aging.Times.{Times}
use Rattle.pp_objects.specs.declared.id.ObjectId.{ObjectId}
use Rattle.pp_objects.specs.Instances.{Instance, in_slot, is_there, is_life, row_of}
use Rattle.pp_objects.specs.Changes.{changed_in, without_slot, retired, retired_from, settled, new_row}

some_none : (i : Instance) → Some i ≡ None → ⊥
some_none i e = absurd cc

none_some : (i : Instance) → None ≡ Some i → ⊥
none_some i e = absurd cc

same_some : (i j : Instance) → Some i ≡ Some j → i ≡ j
same_some i j e = cc

-- an instance that is found stands in no slot that is vacant
found_by : (b t : Bool) (j i : Instance) (x y : Option Instance) (k : ℕ) → (j.slot == k) ≡ t → cond b (Some j) x ≡ Some i → cond t (Some j) y ≡ None
    → (x ≡ Some i → y ≡ None → (i.slot == k) ≡ false) → (i.slot == k) ≡ false
found_by b true j i x y k at e f ih = absurd (some_none j f)
found_by true false j i x y k at e f ih = ap (λ (h : Instance). h.slot == k) (sym (same_some j i e)) ∙ at
found_by false false j i x y k at e f ih = ih e f

found_elsewhere : (p : Instance → Bool) (is : List Instance) (i : Instance) (k : ℕ) → find p is ≡ Some i → in_slot k is ≡ None → (i.slot == k) ≡ false
found_elsewhere p [] i k e f = absurd (none_some i e)
found_elsewhere p (j ∷ is) i k e f = found_by (p j) (j.slot == k) j i (find p is) (in_slot k is) k refl e f (found_elsewhere p is i k)

last_by : (b : Bool) (j i : Instance) (x y : Option Instance) → cond b (Some j) x ≡ None → (x ≡ None → y ≡ Some i) → cond b (Some j) y ≡ Some i
last_by true j i x y e ih = absurd (some_none j e)
last_by false j i x y e ih = ih e

itself : (k : ℕ) → (k == k) ≡ true
itself k = grind (arith, common_steps)

-- what was put last is found in its slot
pub found_last : (is : List Instance) (i : Instance) (k : ℕ) → i.slot ≡ k → in_slot k is ≡ None → in_slot k (is ++ i ∷ []) ≡ Some i
found_last [] i k at e = ap (λ b. cond b (Some i) None) (ap (λ n. n == k) at ∙ itself k)
found_last (j ∷ is) i k at e = last_by (j.slot == k) j i (in_slot k is) (in_slot k (is ++ i ∷ [])) e (found_last is i k at)

other_slot : (n m k : ℕ) → (n == m) ≡ true → (m == k) ≡ false → (n == k) ≡ false
other_slot n m k e f = grind (arith, common_steps, e, f)

without_by : (b : Bool) (j : Instance) (k m : ℕ) (fs js : List Instance) → (j.slot == m) ≡ b → (m == k) ≡ false → in_slot k fs ≡ in_slot k js
    → in_slot k (cond (not b) (j ∷ fs) fs) ≡ cond (j.slot == k) (Some j) (in_slot k js)
without_by true j k m fs js e apart ih = ih ∙ sym (ap (λ b. cond b (Some j) (in_slot k js)) (other_slot j.slot m k e apart))
without_by false j k m fs js e apart ih = ap (cond (j.slot == k) (Some j)) ih

other_without : (k m : ℕ) (js : List Instance) → (m == k) ≡ false → in_slot k (without_slot m js) ≡ in_slot k js
other_without k m [] apart = refl
other_without k m (j ∷ js) apart = without_by (j.slot == m) j k m (without_slot m js) js refl apart (other_without k m js apart)

changed_by : (b t : Bool) (j : Instance) (life : ℕ) (x y : Option Instance) → is_life life x ≡ is_life life y
    → is_life life (cond t (Some (cond b (retired j) j)) x) ≡ is_life life (cond t (Some j) y)
changed_by true true j life x y ih = refl
changed_by false true j life x y ih = refl
changed_by b false j life x y ih = ih

slot_by : (b : Bool) (j : Instance) → (cond b (retired j) j).slot ≡ j.slot
slot_by true j = refl
slot_by false j = refl

life_changed : (k m life : ℕ) (js : List Instance) → is_life life (in_slot k (changed_in m retired js)) ≡ is_life life (in_slot k js)
life_changed k m life [] = refl
life_changed k m life (j ∷ js) =
    ap (λ n. is_life life (cond (n == k) (Some (cond (j.slot == m) (retired j) j)) (in_slot k (changed_in m retired js)))) (slot_by (j.slot == m) j)
    ∙ changed_by (j.slot == m) (j.slot == k) j life (in_slot k (changed_in m retired js)) (in_slot k js) (life_changed k m life js)

retired_by : (b : Bool) (k m life : ℕ) (js : List Instance) → (m == k) ≡ false
    → is_life life (in_slot k (cond b (without_slot m js) (changed_in m retired js))) ≡ is_life life (in_slot k js)
retired_by true k m life js apart = ap (is_life life) (other_without k m js apart)
retired_by false k m life js apart = life_changed k m life js

still_there : (x : Option Instance) (js : List Instance) (k life : ℕ) → ((i : Instance) → x ≡ Some i → (i.slot == k) ≡ false)
    → is_life life (in_slot k (retired_from x js)) ≡ is_life life (in_slot k js)
still_there None js k life h = refl
still_there (Some i) js k life h = retired_by (i.followers == 0) k i.slot life js (h i refl)

-- a row that was made is there
pub there_settled : (id : ObjectId) (key : List ℕ) (version : Version) (fields : List Field) (times : Times) (is : List Instance) → in_slot id.slot is ≡ None
    → is_there id (settled id key version fields times is) ≡ true
there_settled id key version fields times is vacant =
    still_there (row_of key is) (is ++ new_row id key version fields times ∷ []) id.slot id.life (λ i e. found_elsewhere _ is i id.slot e vacant)
    ∙ ap (is_life id.life) (found_last is (new_row id key version fields times) id.slot refl vacant) ∙ itself id.life
