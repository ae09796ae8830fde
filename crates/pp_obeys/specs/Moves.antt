-- What permits happenings, one behind the other, and where they lead; and a call that adds them to the log.
use Rattle.std.specs.Prelude.{◌≡◌, ◌≤◌, ℕ, ◌+◌, true, false, not, [], ◌∷◌, ◌++◌, count_by, Option, Some}
use Rattle.std.specs.List.{list_all}
use Rattle.pp_world.specs.Log.{Log}
use Rattle.pp_world.specs.declared.happening.Happening.{Happening}
use Rattle.pp_law.specs.After.{after}
use Rattle.pp_law.specs.Opening.{may_fail}
use Rattle.pp_law.specs.Permits.{IsPermitted}
use Rattle.pp_law.specs.Phases.{is_done, next}
use Rattle.pp_law.specs.State.{State}
use Rattle.pp_obeys.specs.Failures.{fails, wakes}

-- it may come, where the outside may fail if it failed in it; and it leads there
pub record Goes (s : State) (h : Happening) (t : State) : Type 0 where
  pub may : (fails h ≡ true → may_fail s false ≡ true) → IsPermitted s h
  pub leads : after s h ≡ t

-- within a life; and this holds behind it
pub record Moves (Q : State → Type 0) (h : Happening) (s : State) : Type 0 where
  pub awake : wakes h ≡ false
  pub may : (fails h ≡ true → may_fail s false ≡ true) → IsPermitted s h
  pub holds : Q (after s h)

-- its phase is done, and this holds of the next
pub record Leaves (Q : State → Type 0) (s : State) : Type 0 where
  pub done : is_done s ≡ true
  pub holds : Q (next s)

-- ---- several

-- each may come where it comes, and this holds behind the last
abbrev pub MovesAll : (State → Type 0) → Log → State → Type 0
MovesAll Q [] s = Q s
MovesAll Q (h ∷ hs) s = Moves (MovesAll Q hs) h s

-- they lead there
abbrev pub Leads : Log → State → State → Type 0
Leads hs s t = MovesAll (λ u. u ≡ t) hs s

-- the outside failed in none of them
abbrev pub AreCalm : Log → Type 0
AreCalm hs = list_all (λ h. not (fails h)) hs ≡ true

-- ---- calls

-- happenings of which this holds came to the log, and the outside counted no fewer failures than there are in them
pub record Adds (old new : Option Log) (before now : ℕ) (R : Log → Type 0) : Type 0 where
  pub was : (l : Log) → new ≡ Some l → (k : Log) × (hs : Log) × (old ≡ Some k) × (l ≡ k ++ hs) × R hs × (before + count_by fails hs ≤ now)

-- one behind the other
pub record Both (R S : Log → Type 0) (hs : Log) : Type 0 where
  pub one : Log
  pub two : Log
  pub is : hs ≡ one ++ two
  pub first : R one
  pub then : S two

abbrev pub Is : Log → Log → Type 0
Is hs other = other ≡ hs
