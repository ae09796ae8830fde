-- How a turn goes on beside the law: what came to the log leads from one state to another, and the failures are in the budget of the life (ours).
use Rattle.std.specs.Prelude.{◌≡◌, ◌++◌, ℕ, Some}
use Rattle.pp_law.specs.State.{State}
use Rattle.pp_obeys.specs.Obeys.{Allows, Life}
use Rattle.pp_proxy.specs.Moving.{Turning}
use Rattle.pp_rounds_law.specs.Coming.{ComesTo}
use Rattle.pp_world.specs.Log.{Log}

-- the log is told behind it: what came, led there
pub record GoesTo (life : Life) (budget : ℕ) (before : Log) (y : Turning) (s t : State) : Type 0 where
  pub added : Log
  pub told : y.log ≡ Some (before ++ added)
  pub comes : ComesTo (life.terms budget) before added s t
  pub allows : Allows life budget y.faults t
