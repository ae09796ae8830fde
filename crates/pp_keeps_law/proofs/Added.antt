-- What nothing, and what a note adds to the log.
use Rattle.std.proofs.Common.{◌≡◌, refl, sym, subst, ◌∙◌, ◌≤◌, ℕ, [], Option, arith}
use Rattle.std.proofs.lemmas.List.{append-nil}
use Rattle.pp_keeping.specs.Kept.{IsStill, Notes, Outside}
use Rattle.pp_obeys.proofs.Adding.{adds_as, calm_add}
use Rattle.pp_obeys.specs.Moves.{Adds, AreCalm, Is}
use Rattle.pp_world.specs.Log.{Log}

nothing : (old new : Option Log) (before now : ℕ) → new ≡ old → before ≤ now → Adds old new before now (Is [])
nothing old new before now told less = record { was = λ l is. (l, [], sym told ∙ is, sym (append-nil l), refl, omega (arith, less)) }

pub still_adds : (x y : Outside) → IsStill x y → Adds x.log y.log x.faults y.faults (Is [])
still_adds x y still = nothing x.log y.log x.faults y.faults still.told still.count

pub note_adds : (notes : Log) (x y : Outside) → AreCalm notes → Notes notes x y → Adds x.log y.log x.faults y.faults (Is notes)
note_adds notes x y calm are = calm_add x.log y.log x.faults y.faults notes are.told are.count calm

-- these, of which that is known
pub adds_these : {old new : Option Log} (before now : ℕ) (hs : Log) (R : Log → Type 0) → R hs → Adds old new before now (Is hs) → Adds old new before now R
adds_these before now hs R holds adds = adds_as before now (Is hs) R (λ k is. subst R (sym is) holds) adds
