-- Behind all that is kept in a turn no instance has a run that is full and not kept (ours).
use Rattle.std.specs.Prelude.{ℕ, List, []}
use Rattle.pp_keeping.specs.Keeping.{Keeping as Kept}
use Rattle.pp_keeps_law.specs.All.{AreAmong, IsDoneWith, IsSameBody}
use Rattle.pp_law.specs.State.{State}
use Rattle.pp_objects.specs.declared.id.ObjectId.{ObjectId}
use Rattle.pp_state.specs.declared.state.State.{State as Turn}
use Rattle.pp_store.specs.Kept.{KeptMap}

abbrev pub HasNone : Turn → KeptMap → Type 0
HasNone p shelf = AreAmong [] p shelf

-- where the law has nothing left to do for the disk
abbrev pub NoneIsLeft : Type 0
NoneIsLeft = (number : ℕ → ℕ) (x y : Kept) (s t : State) → IsDoneWith number x y s t → HasNone y.state y.outside.shelf

-- and as long as nothing comes into memory, nor on the shelf
abbrev pub NoneComesOfTheSame : Type 0
NoneComesOfTheSame = (p q : Turn) (shelf : KeptMap) → IsSameBody p q → HasNone p shelf → HasNone q shelf

-- so each of which a run is full is among any that are noted (`all` of HasGrown of `pp_keeps_law`)
abbrev pub NoneIsAmongAny : Type 0
NoneIsAmongAny = (ids : List ObjectId) (p : Turn) (shelf : KeptMap) → HasNone p shelf → AreAmong ids p shelf
