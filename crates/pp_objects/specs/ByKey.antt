-- The index of the rows by their keys.
use Rattle.std.specs.Prelude.{ℕ, List, Option}
use Rattle.std.specs.BTreeMap.{BTreeMap, get_by}
use Rattle.std.specs.Ordering.{nat_cmp}
use Rattle.std.specs.Cmp.Lexicographic.{slice_cmp}
use Rattle.std.specs.declared.vec.Vec.{Vec}

-- the slot that stands under a key
abbrev pub slot_for : {Z : Type 0} → List ℕ → BTreeMap (Vec ℕ Z) ℕ → Option ℕ
slot_for key index = get_by (λ k. slice_cmp nat_cmp key k.items) index
