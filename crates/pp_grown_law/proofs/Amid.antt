-- Bytes join an instance, which is noted then, as long as fewer than 16 are.
use Rattle.std.proofs.Common.{◌≡◌, ◌≤◌, refl, sym, subst, ap, ap₂, ◌∙◌, ℕ, ◌+◌, ◌==◌, Bool, true, false, ◌&&◌, ◌||◌, cond, length, List, [], ◌∷◌, ◌++◌, Option, Some, None, option_map, arith}
use Rattle.std.proofs.lemmas.Bool.Decides.{nat_tests}
use Rattle.std.specs.List.{list_any}
use Rattle.std.specs.Prelude.{nat_le}
use Rattle.pp_cache.specs.Memory.{Memory, is_in_memory}
use Rattle.pp_cache.specs.OnDisk.{grown_by}
use Rattle.pp_cache_law.proofs.Faces.{in_slot-faced}
use Rattle.pp_cache_law.proofs.Numbers.{is_same}
use Rattle.pp_holes.specs.Adding.{added}
use Rattle.pp_law.specs.Lists.{Bytes}
use Rattle.pp_objects.specs.Changes.{face}
use Rattle.pp_objects.specs.Instances.{Instance, in_slot, is_life, is_same_id, is_there, total_at}
use Rattle.pp_objects.specs.declared.id.ObjectId.{ObjectId}
use Rattle.pp_obeys.proofs.Silent.{both_hold}
use Rattle.pp_keeps_law.proofs.Held.{same_true}
use Rattle.pp_laws.proofs.Tests.{first_holds}
use Rattle.pp_state.specs.Bodies.{HasJoined, with_bytes}
use Rattle.pp_state.specs.Bringing.{instance_of}
use Rattle.pp_grown_law.proofs.Bytes.{HasFace, faced_of}
use Rattle.pp_grown_law.proofs.Joins.{WasOrJoins, among, before, held_added}
use Rattle.pp_grown_law.proofs.Less.{there_of}
use Rattle.pp_grown_law.proofs.Owners.{HasOwners, Less, RowIn, empty, less_of, row_then, there}
use Rattle.pp_grown_law.proofs.Slots.{lessens_faced}

-- it was there with what is in memory of it, or is noted
pub data RowGrown (m n : Memory) (id : ObjectId) (j : Instance) : Type 0 where
  was_in : RowIn m n id j → RowGrown m n id j
  noted : list_any (is_same_id id) n.grown ≡ true → RowGrown m n id j

pub record Grows (m n : Memory) : Type 0 where
  pub owners : HasOwners n
  pub rows : (id : ObjectId) (j : Instance) → instance_of id n.instances ≡ Some j → j.is_retired ≡ false → RowGrown m n id j

pub grows_none : (m : Memory) → HasOwners m → Grows m m
grows_none m owners = record { owners = owners; rows = λ id j found row. was_in (there j found row refl refl (λ o is. is)) }

-- where no byte comes
pub grows_less : (k m n : Memory) → Grows k m → Less m n → Grows k n
grows_less k m n grows less = record { owners = less.owners; rows = λ id j found row. by id j (less.rows id j found row) }
  where
    on : (id : ObjectId) (i j : Instance) → i.key ≡ j.key → i.version ≡ j.version → ((o : ℕ) → is_in_memory id.slot o n.chunks ≡ true → is_in_memory id.slot o m.chunks ≡ true) → RowGrown k m id i → RowGrown k n id j
    on id i j key version bytes (was_in row) = was_in (row_then k m n id i j key version bytes row)
    on id i j key version bytes (noted is) = noted (subst (λ (ids : List ObjectId). list_any (is_same_id id) ids ≡ true) (sym less.grown) is)

    by : (id : ObjectId) (j : Instance) → RowIn m n id j → RowGrown k n id j
    by id j (there i at row key version bytes) = on id i j key version bytes (grows.rows id i at row)
    by id j (empty bare) = was_in (empty bare)

-- ---- it is noted

any_last : (id other : ObjectId) (ids : List ObjectId) → is_same_id id other ≡ true → list_any (is_same_id id) (ids ++ other ∷ []) ≡ true
any_last id other [] same = ap (λ (b : Bool). b || false) same
any_last id other (x ∷ ids) same = by (is_same_id id x) (any_last id other ids same)
  where
    by : (b : Bool) → list_any (is_same_id id) (ids ++ other ∷ []) ≡ true → (b || list_any (is_same_id id) (ids ++ other ∷ [])) ≡ true
    by true rest = refl
    by false rest = rest

any_more : (id other : ObjectId) (ids : List ObjectId) → list_any (is_same_id id) ids ≡ true → list_any (is_same_id id) (ids ++ other ∷ []) ≡ true
any_more id other [] is = absurd (cc is)
any_more id other (x ∷ ids) is = by (is_same_id id x) is (any_more id other ids)
  where
    by : (b : Bool) → (b || list_any (is_same_id id) ids) ≡ true → (list_any (is_same_id id) ids ≡ true → list_any (is_same_id id) (ids ++ other ∷ []) ≡ true) → (b || list_any (is_same_id id) (ids ++ other ∷ [])) ≡ true
    by true some rest = refl
    by false some rest = rest some

same_ids : (a b : ObjectId) → is_same_id a b ≡ true → a ≡ b
same_ids a b same =
    let slot : a.slot ≡ b.slot = is_same a.slot b.slot (first_holds (a.slot == b.slot) (a.life == b.life) same) in
    let life : a.life ≡ b.life = is_same a.life b.life (second_of (a.slot == b.slot) (a.life == b.life) same) in
    ap₂ (λ (x y : ℕ). let id : ObjectId = record { slot = x; life = y } in id) slot life
  where
    second_of : (p q : Bool) → (p && q) ≡ true → q ≡ true
    second_of true q is = is
    second_of false q is = absurd (cc is)

pub noted_now : (id other : ObjectId) (ids : List ObjectId) → length ids ≤ 15 → is_same_id id other ≡ true → list_any (is_same_id id) (grown_by other ids) ≡ true
noted_now id other ids few same = by (list_any (is_same_id other) ids) refl (nat_le 16 (length ids)) refl
  where
    by : (a : Bool) → list_any (is_same_id other) ids ≡ a → (b : Bool) → nat_le 16 (length ids) ≡ b → list_any (is_same_id id) (cond (a || b) ids (ids ++ other ∷ [])) ≡ true
    by true is b full = ap (λ (x : ObjectId). list_any (is_same_id x) ids) (same_ids id other same) ∙ is
    by false is true full = absurd (let most : 16 ≤ length ids = grind (arith, nat_tests, full) in omega (arith, few, most))
    by false is false full = any_last id other ids same

pub noted_still : (id other : ObjectId) (ids : List ObjectId) → list_any (is_same_id id) ids ≡ true → list_any (is_same_id id) (grown_by other ids) ≡ true
noted_still id other ids is = by (list_any (is_same_id other) ids || nat_le 16 (length ids))
  where
    by : (b : Bool) → list_any (is_same_id id) (cond b ids (ids ++ other ∷ [])) ≡ true
    by true = is
    by false = any_more id other ids is

one_more : (other : ObjectId) (ids : List ObjectId) → length (grown_by other ids) ≤ length ids + 1
one_more other ids = by (list_any (is_same_id other) ids || nat_le 16 (length ids))
  where
    last : (xs : List ObjectId) → length (xs ++ other ∷ []) ≡ length xs + 1
    last [] = refl
    last (x ∷ xs) = omega (arith, last xs)

    by : (b : Bool) → length (cond b ids (ids ++ other ∷ [])) ≤ length ids + 1
    by true = omega arith
    by false = omega (arith, last ids)

-- ---- bytes join

pub record HasGrownBy (k m n : Memory) : Type 0 where
  pub grows : Grows k n
  pub few : length n.grown ≤ length m.grown + 1

pub still_grows : (k m n : Memory) → Grows k m → HasJoined m n → HasGrownBy k m n
still_grows k m n grows has = record {
  grows = grows_less k m n grows (less_of m n grows.owners (lessens_faced m n has.faces (λ slot o is. ap (λ (l : Memory). is_in_memory slot o l.chunks) (sym has.rest) ∙ is) (ap (λ (l : Memory). l.grown) has.rest) (ap (λ (l : Memory). l.size) has.rest)));
  few = omega (arith, ap (λ (l : Memory). length l.grown) has.rest);
}

module _ (k m n : Memory) (id : ObjectId) (at : ℕ) (bytes : Bytes) (few : length m.grown ≤ 15) (grows : Grows k m) where
  abbrev joined : Memory
  joined = record m { chunks = (added m.size id.slot at bytes m.chunks).chunks; grown = grown_by id m.grown }

  joins : is_there id m.instances ≡ true → HasJoined joined n → HasGrownBy k m n
  joins its has = record { grows = record { owners = owners; rows = rows }; few = subst (λ (ids : List ObjectId). length ids ≤ length m.grown + 1) (sym grown) (one_more id m.grown) }
    where
      grown : n.grown ≡ grown_by id m.grown
      grown = ap (λ (l : Memory). l.grown) has.rest

      held : (slot o : ℕ) → is_in_memory slot o n.chunks ≡ true → WasOrJoins m.chunks id.slot at (at + length bytes) slot o
      held slot o is = held_added m.size id.slot at bytes m.chunks slot o (ap (λ (l : Memory). is_in_memory slot o l.chunks) (sym has.rest) ∙ is)

      -- of another slot
      held_else : (slot : ℕ) → (slot == id.slot) ≡ false → (o : ℕ) → is_in_memory slot o n.chunks ≡ true → is_in_memory slot o m.chunks ≡ true
      held_else slot apart o is = by (held slot o is)
        where
          by : WasOrJoins m.chunks id.slot at (at + length bytes) slot o → is_in_memory slot o m.chunks ≡ true
          by (before was) = was
          by (among same above less) = absurd (let both : true ≡ false = sym (same_true slot id.slot same) ∙ apart in cc both)

      none_in : (slot : ℕ) → in_slot slot n.instances ≡ None → in_slot slot m.instances ≡ None
      none_in slot none = by (in_slot slot m.instances) refl
        where
          by : (o : Option Instance) → in_slot slot m.instances ≡ o → o ≡ None
          by None here = refl
          by (Some i) here =
              absurd (let both : Some (face i) ≡ None = sym (ap (λ (o : Option Instance). option_map face o) here) ∙ sym (in_slot-faced slot n.instances m.instances has.faces) ∙ ap (λ (o : Option Instance). option_map face o) none in cc both)

      owners : HasOwners n
      owners slot none o = by (slot == id.slot) refl (is_in_memory slot o n.chunks) refl
        where
          by : (b : Bool) → (slot == id.slot) ≡ b → (c : Bool) → is_in_memory slot o n.chunks ≡ c → c ≡ false
          by b same false is = refl
          by false apart true is = absurd (let both : true ≡ false = sym (held_else slot apart o is) ∙ grows.owners slot (none_in slot none) o in cc both)
          by true same true is =
              let here : in_slot id.slot m.instances ≡ None = subst (λ (s : ℕ). in_slot s m.instances ≡ None) (is_same slot id.slot same) (none_in slot none) in
              absurd (let both : false ≡ true = ap (λ (o : Option Instance). is_life id.life o) (sym here) ∙ its in cc both)

      rows : (other : ObjectId) (j : Instance) → instance_of other n.instances ≡ Some j → j.is_retired ≡ false → RowGrown k n other j
      rows other j found row = by (other.slot == id.slot) refl
        where
          one : HasFace other j m.instances
          one = faced_of other j m.instances n.instances has.faces found

          retired : one.one.is_retired ≡ false
          retired = ap (λ (x : Instance). x.is_retired) one.same ∙ row

          same_one : (other.slot == id.slot) ≡ true → is_same_id other id ≡ true
          same_one same = both_hold (other.slot == id.slot) (other.life == id.life) same (same_true other.life id.life (sym (life_of other) ∙ life_of_it))
            where
              there_other : (is_there other m.instances ≡ true) × (in_slot other.slot m.instances ≡ Some one.one)
              there_other = there_of other m.instances one.one one.there

              life_of : (x : ObjectId) → one.one.life ≡ other.life
              life_of x = is_same one.one.life other.life (ap (λ (o : Option Instance). is_life other.life o) (sym there_other.1) ∙ there_other.0)

              life_of_it : one.one.life ≡ id.life
              life_of_it = is_same one.one.life id.life (ap (λ (o : Option Instance). is_life id.life o) (sym (ap (λ (s : ℕ). in_slot s m.instances) (sym (is_same other.slot id.slot same)) ∙ there_other.1)) ∙ its)

          on : (other.slot == id.slot) ≡ false → RowGrown k m other one.one → RowGrown k n other j
          on apart (was_in here) = was_in (row_then k m n other one.one j (ap (λ (x : Instance). x.key) one.same) (ap (λ (x : Instance). x.version) one.same) (held_else other.slot apart) here)
          on apart (noted is) = noted (subst (λ (ids : List ObjectId). list_any (is_same_id other) ids ≡ true) (sym grown) (noted_still other id m.grown is))

          by : (b : Bool) → (other.slot == id.slot) ≡ b → RowGrown k n other j
          by true same = noted (subst (λ (ids : List ObjectId). list_any (is_same_id other) ids ≡ true) (sym grown) (noted_now other id m.grown few (same_one same)))
          by false apart = on apart (grows.rows other one.one one.there retired)

  pub bytes_grow : HasJoined (with_bytes id at bytes m) n → HasGrownBy k m n
  bytes_grow has = by (is_there id m.instances) refl (nat_le (at + length bytes) (total_at id.slot m.instances)) has
    where
      by : (a : Bool) → is_there id m.instances ≡ a → (b : Bool) → HasJoined (elim (a && b) as (λ t. Memory) [ true ↦ joined | false ↦ m ]) n → HasGrownBy k m n
      by true its true joined_it = joins its joined_it
      by true its false same = still_grows k m n grows same
      by false its b same = still_grows k m n grows same
