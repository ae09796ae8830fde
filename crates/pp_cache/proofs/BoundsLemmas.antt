-- What the agreement of instances and chunks says of how much is in memory.
use Rattle.std.proofs.Common.{◌≡◌, ◌<◌, ◌≤◌, ◌⊎◌, inl, inr, ◌/◌, ◌%◌, ℕ, Bool, true, false, ◌&&◌, List, length, Option, Some, None, refl, sym, ap, subst, ◌∙◌, arith}
use Rattle.std.specs.Prelude.{nat_lt}
use Rattle.std.proofs.lemmas.Bool.{cases_lt}
use Rattle.std.proofs.lemmas.Bool.Decides.{nat_tests}
use Rattle.pp_holes.specs.Cells.{IsFront, cell_of, filled_of, is_in_memory as is_filled}
use Rattle.pp_holes.specs.declared.cell.Cell.{Cell}
use Rattle.pp_holes.specs.Places.{bytes_at, shown}
use Rattle.pp_holes.proofs.Runs.{held_length}
use Rattle.pp_objects.specs.Agreement.{AllAgree}
use Rattle.pp_objects.specs.Bounds.{AreLow, AreWithin}
use Rattle.pp_objects.specs.Instances.{Instance, cells_at, is_there, table_at, total_at}
use Rattle.pp_objects.specs.declared.id.ObjectId.{ObjectId}
use Rattle.pp_pool.specs.Chunks.{Used}
use Rattle.pp_cache.specs.Bounds.{IsBounded}
use Rattle.pp_cache.specs.Offsets.{has_offset}
use Rattle.pp_cache.specs.Memory.{Memory, is_in_memory}
use Rattle.pp_cache.proofs.MemoryLemmas.{shown_length}

front_by : (x : Option Cell) → IsFront x → filled_of x ≤ 4096
front_by None f = omega arith
front_by (Some c) f = f.1

-- what a chunk holds is what its cell says
held : (is : List Instance) (us : List Used) (slot index : ℕ) → AllAgree is us → length (bytes_at (slot, index) (shown us)) ≡ filled_of (cell_of (cells_at slot is) index)
held is us slot index all = held_length (cells_at slot is) slot index us (all slot).owns

pub fronts_of : (is : List Instance) (us : List Used) → AllAgree is us → (slot index : ℕ) → length (bytes_at (slot, index) (shown us)) ≤ 4096
fronts_of is us all slot index = omega (arith, held is us slot index all, front_by (cell_of (cells_at slot is) index) ((all slot).fronts index))

in_cells : (is : List Instance) (us : List Used) (slot at : ℕ) → AllAgree is us → is_filled (cells_at slot is) at ≡ is_in_memory slot at (shown us)
in_cells is us slot at all = ap (λ (n : ℕ). nat_lt (at % 4096) n) (sym (held is us slot (at / 4096) all))

pub ends_of : (is : List Instance) (us : List Used) → AllAgree is us → AreWithin is → (slot at : ℕ) → total_at slot is ≤ at → is_in_memory slot at (shown us) ≡ false
ends_of is us all within slot at behind = sym (in_cells is us slot at all) ∙ within slot at behind

less_is : (a b : ℕ) → a < b → nat_lt a b ≡ true
less_is a b less = grind (arith, nat_tests)

and_false : (b : Bool) → (b && false) ≡ false
and_false true = refl
and_false false = refl

pub cells_of : (is : List Instance) (us : List Used) → AllAgree is us → AreWithin is → (slot at : ℕ) → has_offset (table_at slot is) at ≡ is_in_memory slot at (shown us)
cells_of is us all within slot at = by (cases_lt at (total_at slot is))
  where
    filled : Bool
    filled = is_filled (cells_at slot is) at

    by : (at < total_at slot is) ⊎ (total_at slot is ≤ at) → (nat_lt at (total_at slot is) && filled) ≡ is_in_memory slot at (shown us)
    by (inl less) = ap (λ (b : Bool). b && filled) (less_is at (total_at slot is) less) ∙ in_cells is us slot at all
    by (inr behind) =
        ap (λ (b : Bool). nat_lt at (total_at slot is) && b) (within slot at behind)
        ∙ and_false (nat_lt at (total_at slot is)) ∙ sym (ends_of is us all within slot at behind)

-- an instance in a low slot has its extent
pub slots_of : (is : List Instance) (n : ℕ) → n ≡ 1345 → AreLow is → (id : ObjectId) → is_there id is ≡ true → id.slot < n
slots_of is n count low id there = omega (arith, count, low id there)

pub few_of : (us : List Used) (size : ℕ) → length us ≤ size → length (shown us) ≤ size
few_of us size few = omega (arith, shown_length us, few)
