-- Names that differ are told apart by their order.
use Rattle.std.proofs.Common.{◌≡◌, ℕ, false, List, refl, sym}
use Rattle.std.specs.Prelude.{◌≢◌}
use Rattle.std.specs.declared.cmp.Ordering.{Ordering}
use Rattle.std.specs.declared.cmp.Ordering.TheVariants.{Less, Equal, Greater}
use Rattle.std.specs.Ordering.{is_eq}
use Rattle.std.specs.FinMap.{slice_cmp-IsAntisymmetric, nat_cmp-IsAntisymmetric}
use Rattle.pp_world.specs.Files.{name_order}

not_equal : (order : Ordering) → (order ≡ Equal → ⊥) → is_eq order ≡ false
not_equal Less never = refl
not_equal Equal never = absurd (never refl)
not_equal Greater never = refl

pub is_eq-name_order : (name other : List ℕ) → other ≢ name → is_eq (name_order name other) ≡ false
is_eq-name_order name other differs = not_equal (name_order name other) (λ same. differs (sym (slice_cmp-IsAntisymmetric nat_cmp-IsAntisymmetric name other same)))
