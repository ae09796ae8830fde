-- How far an instance is kept, behind a change of another's.
use Rattle.std.proofs.Common.{◌≡◌, ◌<◌, refl, ap, ◌∙◌, ℕ, zero, suc, Bool, true, false, ◌==◌, ◌&&◌, cond, List, [], ◌∷◌, length, Option, Some, arith}
use Rattle.std.specs.Prelude.{slice_get, slice_set}
use Rattle.std.proofs.lemmas.Bool.Decides.{nat_tests}
use Rattle.pp_cache.specs.OnDisk.{bytes_of, kept_to}
use Rattle.pp_cache.specs.declared.extents.Extent.{Extent}
use Rattle.pp_objects.specs.Instances.{is_same_id}
use Rattle.pp_objects.specs.declared.id.ObjectId.{ObjectId}
use Rattle.pp_cache_law.proofs.Numbers.{is_same, same_test}

got_other : (es : List Extent) (i j : ℕ) (e : Extent) → (j == i) ≡ false → slice_get (slice_set es i e) j ≡ slice_get es j
got_other [] i j e apart = refl
got_other (x ∷ es) zero zero e apart = absurd cc
got_other (x ∷ es) zero (suc j) e apart = refl
got_other (x ∷ es) (suc i) zero e apart = refl
got_other (x ∷ es) (suc i) (suc j) e apart = got_other es i j e (less i j apart)
  where
    less : (i j : ℕ) → (suc j == suc i) ≡ false → (j == i) ≡ false
    less i j f = grind (arith, nat_tests)

got_it : (es : List Extent) (i : ℕ) (e : Extent) → i < length es → slice_get (slice_set es i e) i ≡ Some e
got_it [] i e within = absurd (omega (arith, within))
got_it (x ∷ es) zero e within = refl
got_it (x ∷ es) (suc i) e within = got_it es i e (omega (arith, within))

-- one in another slot is as far as it was
pub others_kept : (id other : ObjectId) (n : ℕ) (es : List Extent) → (other.slot == id.slot) ≡ false → bytes_of other (slice_get (kept_to id n es) other.slot) ≡ bytes_of other (slice_get es other.slot)
others_kept id other n es apart = ap (λ (o : Option Extent). bytes_of other o) (got_other es id.slot other.slot (record { id = id; bytes = n }) apart)

in_that_slot : (id other : ObjectId) (n : ℕ) (es : List Extent) → id.slot < length es → (other.slot == id.slot) ≡ true → bytes_of other (slice_get (kept_to id n es) other.slot) ≡ cond (is_same_id id other) n 0
in_that_slot id other n es within same =
    ap (λ (k : ℕ). bytes_of other (slice_get (kept_to id n es) k)) (is_same other.slot id.slot same)
    ∙ ap (λ (o : Option Extent). bytes_of other o) (got_it es id.slot (record { id = id; bytes = n }) within)

pub its_kept : (id : ObjectId) (n : ℕ) (es : List Extent) → id.slot < length es → bytes_of id (slice_get (kept_to id n es) id.slot) ≡ n
its_kept id n es within =
    in_that_slot id id n es within (same_test id.slot id.slot refl)
    ∙ ap (λ (b : Bool). cond (b && (id.life == id.life)) n 0) (same_test id.slot id.slot refl) ∙ ap (λ (b : Bool). cond b n 0) (same_test id.life id.life refl)

-- nothing is kept of a later life
pub later_kept : (id other : ObjectId) (n : ℕ) (es : List Extent) → id.slot < length es → id.life < other.life → bytes_of other (slice_get es other.slot) ≡ 0 → bytes_of other (slice_get (kept_to id n es) other.slot) ≡ 0
later_kept id other n es within later none = by (other.slot == id.slot) refl
  where
    isnt : (a b : ℕ) → a < b → (a == b) ≡ false
    isnt a b e = grind (arith, nat_tests)

    and_false : (b : Bool) → (b && false) ≡ false
    and_false true = refl
    and_false false = refl

    by : (b : Bool) → (other.slot == id.slot) ≡ b → bytes_of other (slice_get (kept_to id n es) other.slot) ≡ 0
    by true same =
        in_that_slot id other n es within same
        ∙ ap (λ (b : Bool). cond ((id.slot == other.slot) && b) n 0) (isnt id.life other.life later) ∙ ap (λ (b : Bool). cond b n 0) (and_false (id.slot == other.slot))
    by false apart = others_kept id other n es apart ∙ none
