-- A log that is told or not, and how a call takes it on.
use Rattle.std.specs.Prelude.{◌≡◌, ◌<◌, ◌≤◌, ◌⊎◌, ◌^◌, ◌-◌, ℕ, List, [], ◌∷◌, ◌++◌, Option, Some, None}
use Rattle.pp_world.specs.declared.happening.Happening.{Happening}

abbrev pub Log : Type 0
Log = List Happening

-- P of the log, where it is told
pub record Told (log : Option Log) (P : Log → Type 0) : Type 0 where
  pub at : (l : Log) → log ≡ Some l → P l

-- a log that is told was told before, and is what it was with these happenings behind it, which may depend on what it was
pub record AppendsAll (old new : Option Log) (added : Log → Log) : Type 0 where
  pub was : (l : Log) → new ≡ Some l → (before : Log) × (old ≡ Some before) × (l ≡ before ++ added before)

-- the same with one happening
abbrev pub Appends : Option Log → Option Log → (Log → Happening) → Type 0
Appends old new happening = AppendsAll old new (λ l. happening l ∷ [])

-- the count rose in this call; where no log is told, it may stand at the end of its type instead
abbrev pub Rises : Option Log → ℕ → ℕ → Type 0
Rises log before now = (before < now) ⊎ ((log ≡ None) × (2 ^ 64 - 1 ≤ now))
