-- The failures of the outside that a life counts.
use Rattle.std.specs.Prelude.{◌≡◌, ℕ, ◌+◌, ◌<◌, ◌≤◌, Bool, true, false}
use Rattle.pp_world.specs.declared.happening.Happening.{Happening}
use Rattle.pp_world.specs.declared.happening.Happening.TheVariants.{Woke}
use Rattle.pp_law.specs.State.{State}
-- in which happenings the outside failed
pub use Rattle.pp_links.specs.Failures.{fails}

abbrev pub counted : Bool → ℕ → ℕ
counted false n = n
counted true n = n + 1

abbrev pub wakes : Happening → Bool
wakes (Woke image) = true
wakes h = false

-- one more has failed where it failed, and the life is started as it was
pub record GoesOnIn (s t : State) (failed : Bool) : Type 0 where
  pub failures : t.failures ≡ counted failed s.failures
  pub term : t.term ≡ s.term

-- the count that the outside keeps rose where it failed
abbrev pub Rose : Bool → ℕ → ℕ → Type 0
Rose false before now = before ≤ now
Rose true before now = before < now
