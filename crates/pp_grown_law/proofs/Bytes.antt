-- What is in memory where a chunk is out, and where the cells of instances changed.
use Rattle.std.proofs.Common.{◌≡◌, refl, sym, ap, ap₂, ◌∙◌, ◌<◌, ℕ, ◌/◌, ◌%◌, ◌==◌, Bool, true, false, ◌&&◌, cond, List, [], ◌∷◌, length, Option, Some, None, arith}
use Rattle.std.specs.Prelude.{nat_lt, option_map}
use Rattle.pp_cache.specs.Memory.{is_in_memory}
use Rattle.pp_cache_law.proofs.Faces.{in_slot-faced}
use Rattle.pp_holes.specs.Places.{Chunk, bytes_at, is_at, without}
use Rattle.pp_holes.proofs.Map.{Apart, without-here, without-there}
use Rattle.pp_laws.proofs.Tests.{below, first_holds, same_number, second_holds}
use Rattle.pp_objects.specs.Changes.{face, faces}
use Rattle.pp_objects.specs.Instances.{Instance, in_slot, is_life, is_there}
use Rattle.pp_objects.specs.declared.id.ObjectId.{ObjectId}
use Rattle.pp_obeys.proofs.Silent.{both_hold}
use Rattle.pp_keeps_law.proofs.Held.{same_true}
use Rattle.pp_state.specs.Bringing.{instance_of}
use Rattle.pp_steps.specs.Evicting.{without_all}
use Rattle.pp_grown_law.proofs.Less.{there_of}

-- ---- a chunk is out

pub apart_of : (p w : ℕ × ℕ) → ((p.0 == w.0) && (p.1 == w.1)) ≡ false → Apart p w
apart_of p w other c at = by (is_at p c) refl
  where
    by : (b : Bool) → is_at p c ≡ b → b ≡ false
    by false is = refl
    by true is =
        let one : p.0 ≡ w.0 = sym (same_number c.owner p.0 (first_holds (c.owner == p.0) (c.index == p.1) is)) ∙ same_number c.owner w.0 (first_holds (c.owner == w.0) (c.index == w.1) at) in
        let two : p.1 ≡ w.1 = sym (same_number c.index p.1 (second_holds (c.owner == p.0) (c.index == p.1) is)) ∙ same_number c.index w.1 (second_holds (c.owner == w.0) (c.index == w.1) at) in
        sym (both_hold (p.0 == w.0) (p.1 == w.1) (same_true p.0 w.0 one) (same_true p.1 w.1 two)) ∙ other

held_without : (slot o : ℕ) (w : ℕ × ℕ) (cs : List Chunk) → is_in_memory slot o (without w cs) ≡ true → is_in_memory slot o cs ≡ true
held_without slot o w cs held = by ((slot == w.0) && (o / 4096 == w.1)) refl
  where
    by : (b : Bool) → ((slot == w.0) && (o / 4096 == w.1)) ≡ b → is_in_memory slot o cs ≡ true
    by true is =
        let place : w ≡ (slot, o / 4096) = ap₂ (λ (a b : ℕ). (a, b)) (sym (same_number slot w.0 (first_holds (slot == w.0) (o / 4096 == w.1) is))) (sym (same_number (o / 4096) w.1 (second_holds (slot == w.0) (o / 4096 == w.1) is))) in
        let none : bytes_at (slot, o / 4096) (without w cs) ≡ [] = ap (λ (v : ℕ × ℕ). bytes_at (slot, o / 4096) (without v cs)) place ∙ without-here (slot, o / 4096) cs in
        let under : o % 4096 < length (bytes_at (slot, o / 4096) (without w cs)) = below (o % 4096) (length (bytes_at (slot, o / 4096) (without w cs))) held in
        absurd (omega (arith, under, ap (λ (bs : List ℕ). length bs) none))
    by false is = ap (λ (bs : List ℕ). nat_lt (o % 4096) (length bs)) (sym (without-there (slot, o / 4096) w cs (apart_of (slot, o / 4096) w is))) ∙ held

pub held_without_all : (slot o : ℕ) (ws : List (ℕ × ℕ)) (cs : List Chunk) → is_in_memory slot o (without_all ws cs) ≡ true → is_in_memory slot o cs ≡ true
held_without_all slot o [] cs held = held
held_without_all slot o (w ∷ ws) cs held = held_without slot o w cs (held_without_all slot o ws (without w cs) held)

-- ---- cells changed

pub record HasFace (id : ObjectId) (j : Instance) (is : List Instance) : Type 0 where
  pub one : Instance
  pub there : instance_of id is ≡ Some one
  pub same : face one ≡ face j

pub faced_of : (id : ObjectId) (j : Instance) (is js : List Instance) → faces js ≡ faces is → instance_of id js ≡ Some j → HasFace id j is
faced_of id j is js same found = by (in_slot id.slot is) refl
  where
    at : (is_there id js ≡ true) × (in_slot id.slot js ≡ Some j)
    at = there_of id js j found

    faced : option_map face (in_slot id.slot is) ≡ Some (face j)
    faced = in_slot-faced id.slot is js (sym same) ∙ ap (λ (o : Option Instance). option_map face o) at.1

    by : (o : Option Instance) → in_slot id.slot is ≡ o → HasFace id j is
    by None here = absurd (let both : None ≡ Some (face j) = sym (ap (λ (o : Option Instance). option_map face o) here) ∙ faced in cc both)
    by (Some i) here =
        let both : Some (face i) ≡ Some (face j) = sym (ap (λ (o : Option Instance). option_map face o) here) ∙ faced in
        let one : face i ≡ face j = cc both in
        let life : is_life id.life (Some i) ≡ true = ap (λ (k : Instance). is_life id.life (Some k)) one ∙ sym (ap (λ (o : Option Instance). is_life id.life o) at.1) ∙ at.0 in
        record {
          one = i;
          there = ap (λ (b : Bool). cond b (in_slot id.slot is) None) (ap (λ (o : Option Instance). is_life id.life o) here ∙ life) ∙ here;
          same = one;
        }
