-- What the cells tell of the offsets in memory is what the chunks tell, and so is the first that are not.
use Rattle.std.proofs.Common.{◌≡◌, ◌<◌, ◌≤◌, ◌+◌, ◌-◌, ◌/◌, ◌%◌, ℕ, zero, suc, Bool, true, false, not, cond, List, refl, sym, ap, ◌∙◌, arith}
use Rattle.std.specs.Prelude.{min, nat_lt}
use Rattle.std.proofs.lemmas.Grind.{common_steps}
use Rattle.pp_holes.proofs.Runs.{held_length}
use Rattle.pp_holes.specs.Cells.{is_in_memory as is_in_cells}
use Rattle.pp_holes.specs.Holes.{IsFirstHole}
use Rattle.pp_holes.specs.Places.{shown}
use Rattle.pp_objects.specs.Agreement.{AllAgree}
use Rattle.pp_objects.specs.Instances.{Instance, cells_at, table_at, total_at}
use Rattle.pp_pool.specs.Chunks.{Used}
use Rattle.pp_cache.specs.Holes.{first_from, held_from, hole_in, missing_from}
use Rattle.pp_cache.specs.Memory.{is_in_memory}

pub cells_tell : (is : List Instance) (us : List Used) (slot o : ℕ) → AllAgree is us → is_in_memory slot o (shown us) ≡ is_in_cells (cells_at slot is) o
cells_tell is us slot o agree = ap (nat_lt (o % 4096)) (held_length (cells_at slot is) slot (o / 4096) us (agree slot).owns)

-- ---- the first offset for which it holds

first_by : (b : Bool) (more at to : ℕ) (is : ℕ → Bool) → is at ≡ b → (at < to → is at ≡ false) → at ≤ to → to ≤ at + suc more → (to < at + suc more → is to ≡ true) → (at + 1 ≤ to → first_from more (at + 1) is ≡ to)
    → cond b at (first_from more (at + 1) is) ≡ to
first_by true more at to is here before behind within ends rest = grind (arith, common_steps)
first_by false more at to is here before behind within ends rest = rest (grind (arith, common_steps))

pub first_is : (n at to : ℕ) (is : ℕ → Bool) → at ≤ to → to ≤ at + n → ((o : ℕ) → at ≤ o → o < to → is o ≡ false) → (to < at + n → is to ≡ true) → first_from n at is ≡ to
first_is zero at to is behind within before ends = omega (arith, behind, within)
first_is (suc more) at to is behind within before ends =
    first_by (is at) more at to is refl (λ below. before at (omega arith) below) behind within ends
    (λ above. first_is more (at + 1) to is above (omega (arith, within)) (λ o from below. before o (omega (arith, from)) below) (λ short. ends (omega (arith, short))))

-- ---- the first hole

opposite : (b : Bool) → b ≡ true → not b ≡ false
opposite b e = grind (arith, common_steps, e)

opposite_too : (b : Bool) → b ≡ false → not b ≡ true
opposite_too b e = grind (arith, common_steps, e)

missing_is : (is : List Instance) (us : List Used) (slot at : ℕ) (hole : ℕ × ℕ) → AllAgree is us → IsFirstHole (table_at slot is) at hole
    → missing_from slot (total_at slot is) at (shown us) ≡ hole.0
missing_is is us slot at hole agree h =
    first_is (total_at slot is - at) (min at (total_at slot is)) hole.0 (λ o. not (is_in_memory slot o (shown us))) h.behind (grind (arith, common_steps, h.ordered, h.within))
    (λ o from below. opposite (is_in_memory slot o (shown us)) (cells_tell is us slot o agree ∙ h.none_before o (grind (arith, common_steps, h.ordered, h.within, from, below)) below))
    (λ short. opposite_too (is_in_memory slot hole.0 (shown us)) (cells_tell is us slot hole.0 agree ∙ h.missing hole.0 (omega arith) (h.begins (grind (arith, common_steps, short)))))

held_is : (is : List Instance) (us : List Used) (slot at : ℕ) (hole : ℕ × ℕ) → AllAgree is us → IsFirstHole (table_at slot is) at hole
    → held_from slot (total_at slot is) hole.0 (shown us) ≡ hole.1
held_is is us slot at hole agree h =
    first_is (total_at slot is - hole.0) hole.0 hole.1 (λ o. is_in_memory slot o (shown us)) h.ordered (omega (arith, h.ordered, h.within))
    (λ o from below. cells_tell is us slot o agree ∙ h.missing o from below)
    (λ short. cells_tell is us slot hole.1 agree ∙ h.ends (omega (arith, h.ordered, h.within, short)))

pub hole_is : (is : List Instance) (us : List Used) (slot at : ℕ) (hole : ℕ × ℕ) → AllAgree is us → IsFirstHole (table_at slot is) at hole → hole ≡ hole_in slot (total_at slot is) at (shown us)
hole_is is us slot at hole agree h =
    let pair : ℕ → ℕ × ℕ = λ from. (from, held_from slot (total_at slot is) from (shown us)) in
    ap (λ (to : ℕ). let both : ℕ × ℕ = (hole.0, to) in both) (sym (held_is is us slot at hole agree h)) ∙ ap pair (sym (missing_is is us slot at hole agree h))

pub hole_there : (there : Bool) (at : ℕ) (hole other : ℕ × ℕ) → there ≡ true → hole ≡ other → hole ≡ cond there other (at, at)
hole_there there at hole other is same = rw is same
