-- Rows that come and go bring nothing.
use Rattle.std.proofs.Common.{◌≡◌, refl, sym, ap, ◌∙◌, ◌<◌, ℕ, ◌/◌, ◌%◌, ◌==◌, Bool, true, false, not, ◌&&◌, cond, List, [], ◌∷◌, ◌++◌, length, Option, Some, None, arith}
use Rattle.std.specs.Prelude.{filter, nat_lt, option_map}
use Rattle.pp_cache.specs.Memory.{is_in_memory, retired_at, with_row}
use Rattle.pp_cache_law.proofs.Finds.{find_joined, find_kept, find_mapped, find_out, first_of_two}
use Rattle.pp_holes.specs.Places.{Chunk, bytes_at, first_bytes, is_at, is_of_other, without_owner}
use Rattle.pp_keeping.specs.Keeping.{with_memory}
use Rattle.pp_keeps_law.proofs.Entries.{off_of}
use Rattle.pp_keeps_law.proofs.Held.{same_true}
use Rattle.pp_laws.proofs.Tests.{below, first_holds, same_number}
use Rattle.pp_objects.specs.Changes.{changed_in, given_back_by, is_elsewhere, new_row, retired, retired_from, without_slot}
use Rattle.pp_objects.specs.Instances.{Instance, in_slot, is_in_slot, is_life, is_there, row_of}
use Rattle.pp_objects.specs.Kept.{kept_of as fields_kept}
use Rattle.pp_objects.specs.declared.id.ObjectId.{ObjectId}
use Rattle.pp_state.specs.Bringing.{instance_of}
use Rattle.pp_grown_law.proofs.Less.{there_of}
use Rattle.pp_grown_law.specs.Less.{BringsNone, bare, was}
use Rattle.pp_grown_law.specs.Rows.{RetiringsBringNothing, RowsBringNothing}

-- ---- chunks

pub filter_out : {A : Type 0} (p q : A → Bool) (xs : List A) → ((x : A) → q x ≡ true → p x ≡ false) → filter p (filter q xs) ≡ []
filter_out p q [] never = refl
filter_out {A} p q (x ∷ xs) never = by (q x) refl (filter_out p q xs never)
  where
    by : (b : Bool) → q x ≡ b → filter p (filter q xs) ≡ [] → filter p (cond b (x ∷ filter q xs) (filter q xs)) ≡ []
    by true is rest = ap (λ (c : Bool). cond c (x ∷ filter p (filter q xs)) (filter p (filter q xs))) (never x is) ∙ rest
    by false is rest = rest

pub filter_kept : {A : Type 0} (p q : A → Bool) (xs : List A) → ((x : A) → p x ≡ true → q x ≡ true) → filter p (filter q xs) ≡ filter p xs
filter_kept p q [] all = refl
filter_kept {A} p q (x ∷ xs) all = by (q x) refl (filter_kept p q xs all)
  where
    off : (c : Bool) → p x ≡ c → q x ≡ false → c ≡ false
    off true is isnt = absurd (let both : true ≡ false = sym (all x is) ∙ isnt in cc both)
    off false is isnt = refl

    by : (b : Bool) → q x ≡ b → filter p (filter q xs) ≡ filter p xs → filter p (cond b (x ∷ filter q xs) (filter q xs)) ≡ cond (p x) (x ∷ filter p xs) (filter p xs)
    by true is rest = ap (λ (ys : List A). cond (p x) (x ∷ ys) ys) rest
    by false is rest = rest ∙ sym (ap (λ (c : Bool). cond c (x ∷ filter p xs) (filter p xs)) (off (p x) refl is))

pub held_without : (slot o owner : ℕ) (cs : List Chunk) → is_in_memory slot o (without_owner owner cs) ≡ true → is_in_memory slot o cs ≡ true
held_without slot o owner cs held = by (slot == owner) refl
  where
    by : (b : Bool) → (slot == owner) ≡ b → is_in_memory slot o cs ≡ true
    by true is =
        let out : filter (is_at (slot, o / 4096)) (without_owner owner cs) ≡ [] = filter_out (is_at (slot, o / 4096)) (is_of_other owner) cs (λ c other.
        ap (λ (b : Bool). b && (c.index == o / 4096)) (ap (λ (n : ℕ). c.owner == n) (same_number slot owner is) ∙ off_of (c.owner == owner) other)) in
        let under : o % 4096 < length (bytes_at (slot, o / 4096) (without_owner owner cs)) = below (o % 4096) (length (bytes_at (slot, o / 4096) (without_owner owner cs))) held in
        absurd (omega (arith, under, ap (λ (ds : List Chunk). length (first_bytes ds)) out))
    by false is =
        let kept : filter (is_at (slot, o / 4096)) (without_owner owner cs) ≡ filter (is_at (slot, o / 4096)) cs = filter_kept (is_at (slot, o / 4096)) (is_of_other owner) cs (λ c here. other c here (c.owner == owner) refl) in
        ap (λ (ds : List Chunk). nat_lt (o % 4096) (length (first_bytes ds))) (sym kept) ∙ held
      where
        other : (c : Chunk) → is_at (slot, o / 4096) c ≡ true → (b : Bool) → (c.owner == owner) ≡ b → not b ≡ true
        other c here true its =
            let one : slot ≡ owner = sym (same_number c.owner slot (first_holds (c.owner == slot) (c.index == o / 4096) here)) ∙ same_number c.owner owner its in
            absurd (let both : true ≡ false = sym (same_true slot owner one) ∙ is in cc both)
        other c here false its = refl

held_less : (u : Option Instance) (slot o : ℕ) (cs : List Chunk) → is_in_memory slot o (given_back_by u cs) ≡ true → is_in_memory slot o cs ≡ true
held_less None slot o cs held = held
held_less (Some i) slot o cs held = by (i.followers == 0) held
  where
    by : (b : Bool) → is_in_memory slot o (cond b (without_owner i.slot cs) cs) ≡ true → is_in_memory slot o cs ≡ true
    by true held = held_without slot o i.slot cs held
    by false held = held

-- ---- instances

found_in : (id : ObjectId) (j : Instance) (is js : List Instance) → instance_of id js ≡ Some j → in_slot id.slot is ≡ Some j → instance_of id is ≡ Some j
found_in id j is js found here =
    let at : (is_there id js ≡ true) × (in_slot id.slot js ≡ Some j) = there_of id js j found in
    ap (λ (b : Bool). cond b (in_slot id.slot is) None) (ap (λ (o : Option Instance). is_life id.life o) (here ∙ sym at.1) ∙ at.0) ∙ here

were : (u : Option Instance) (is : List Instance) (id : ObjectId) (j : Instance) → instance_of id (retired_from u is) ≡ Some j → j.is_retired ≡ false → instance_of id is ≡ Some j
were None is id j found row = found
were (Some i) is id j found row = by (i.followers == 0) found
  where
    out : (b : Bool) → (id.slot == i.slot) ≡ b → in_slot id.slot (without_slot i.slot is) ≡ Some j → in_slot id.slot is ≡ Some j
    out true same here =
        let none : in_slot id.slot (without_slot i.slot is) ≡ None = find_out (is_in_slot id.slot) (is_elsewhere i.slot) is (λ x passes. ap (λ (n : ℕ). x.slot == n) (same_number id.slot i.slot same) ∙ off_of (x.slot == i.slot) passes) in
        absurd (let both : None ≡ Some j = sym none ∙ here in cc both)
    out false other here = sym (find_kept (is_in_slot id.slot) (is_elsewhere i.slot) is (λ x its. apart x its (x.slot == i.slot) refl)) ∙ here
      where
        apart : (x : Instance) → (x.slot == id.slot) ≡ true → (b : Bool) → (x.slot == i.slot) ≡ b → not b ≡ true
        apart x its true at =
            let one : id.slot ≡ i.slot = sym (same_number x.slot id.slot its) ∙ same_number x.slot i.slot at in
            absurd (let both : true ≡ false = sym (same_true id.slot i.slot one) ∙ other in cc both)
        apart x its false at = refl

    in_place : (x : Instance) → is_in_slot id.slot (cond (is_in_slot i.slot x) (retired x) x) ≡ is_in_slot id.slot x
    in_place x = same (is_in_slot i.slot x)
      where
        same : (b : Bool) → is_in_slot id.slot (cond b (retired x) x) ≡ is_in_slot id.slot x
        same true = refl
        same false = refl

    stays : (o : Option Instance) → in_slot id.slot is ≡ o → option_map (λ x. cond (is_in_slot i.slot x) (retired x) x) o ≡ Some j → in_slot id.slot is ≡ Some j
    stays None here eq = absurd (cc eq)
    stays (Some k) here eq = by_slot (is_in_slot i.slot k) eq
      where
        by_slot : (b : Bool) → Some (cond b (retired k) k) ≡ Some j → in_slot id.slot is ≡ Some j
        by_slot true same =
            let one : retired k ≡ j = cc same in
            absurd (let both : true ≡ false = ap (λ (x : Instance). x.is_retired) one ∙ row in cc both)
        by_slot false same = here ∙ same

    by : (b : Bool) → instance_of id (cond b (without_slot i.slot is) (changed_in i.slot retired is)) ≡ Some j → instance_of id is ≡ Some j
    by true found = found_in id j is (without_slot i.slot is) found (out (id.slot == i.slot) refl (there_of id (without_slot i.slot is) j found).1)
    by false found =
        found_in id j is (changed_in i.slot retired is) found
        (stays (in_slot id.slot is) refl (sym (find_mapped (is_in_slot id.slot) (λ x. cond (is_in_slot i.slot x) (retired x) x) is in_place) ∙ (there_of id (changed_in i.slot retired is) j found).1))

-- ---- both

pub retirings_bring_nothing : RetiringsBringNothing
unfolding retired_at
retirings_bring_nothing p key shelf = record {
  run = refl;
  kept = λ k kept is. is;
  rows = λ id j found row. was j (were (row_of key p.cache.instances) p.cache.instances id j found row) row refl refl (λ o unkept. held_less (row_of key p.cache.instances) id.slot o p.cache.chunks unkept.held);
}

pub rows_bring_nothing : RowsBringNothing
unfolding with_row
rows_bring_nothing p id key version fields times shelf none = record {
  run = refl;
  kept = λ k kept is. is;
  rows = λ other j found row. by other j row (were (row_of key p.cache.instances) (p.cache.instances ++ new ∷ []) other j found row) (in_slot other.slot p.cache.instances) refl;
}
  where
    new : Instance
    new = new_row id key version (fields_kept fields times) times

    by : (other : ObjectId) (j : Instance) → j.is_retired ≡ false → instance_of other (p.cache.instances ++ new ∷ []) ≡ Some j → (o : Option Instance) → in_slot other.slot p.cache.instances ≡ o
        → BringsNone p (with_memory (with_row id key version fields times p.cache) p) shelf other j
    by other j row found (Some k) here =
        let at : in_slot other.slot (p.cache.instances ++ new ∷ []) ≡ Some j = (there_of other (p.cache.instances ++ new ∷ []) j found).1 in
        let its : Some k ≡ Some j = sym (find_joined (is_in_slot other.slot) p.cache.instances (new ∷ []) ∙ ap (λ (o : Option Instance). first_of_two o (in_slot other.slot (new ∷ []))) here) ∙ at in
        was j (found_in other j p.cache.instances (p.cache.instances ++ new ∷ []) found (here ∙ its)) row refl refl (λ o unkept. held_less (row_of key p.cache.instances) other.slot o p.cache.chunks unkept.held)
    by other j row found None here = bare (λ o unkept. by_slot (id.slot == other.slot) refl o (held_less (row_of key p.cache.instances) other.slot o p.cache.chunks unkept.held))
      where
        at : cond (id.slot == other.slot) (Some new) None ≡ Some j
        at =
            sym (find_joined (is_in_slot other.slot) p.cache.instances (new ∷ []) ∙ ap (λ (o : Option Instance). first_of_two o (in_slot other.slot (new ∷ []))) here)
            ∙ (there_of other (p.cache.instances ++ new ∷ []) j found).1

        by_slot : (b : Bool) → (id.slot == other.slot) ≡ b → (o : ℕ) → is_in_memory other.slot o p.cache.chunks ≡ true → ⊥
        by_slot true same o held = let both : true ≡ false = sym held ∙ ap (λ (n : ℕ). is_in_memory n o p.cache.chunks) (sym (same_number id.slot other.slot same)) ∙ none o in cc both
        by_slot false apart o held = let both : None ≡ Some j = ap (λ (b : Bool). cond b (Some new) None) (sym apart) ∙ at in cc both
