-- The last turn of a life: Stop comes at a wait, and all of the turn leads to where all is closed, beside a log that obeys the law, which may
-- end there (RFC 2616, section 8.1; the order is ours).
--
-- Where the premises come from: as in Going, and of the first turn as in First. That Stop is handled is no premise: it adds nothing to the log
-- (Handled, Opening).
use Rattle.std.specs.Prelude.{◌≡◌, ◌≤◌, ◌<◌, ◌+◌, ◌++◌, ℕ, true, [], length, Some}
use Rattle.pp_conf.specs.declared.conf.Conf.{Conf}
use Rattle.pp_joints_law.specs.Opened.{BeginsWith}
use Rattle.pp_law.specs.Permits.{is_over as may_be_over}
use Rattle.pp_law.specs.State.{State}
use Rattle.pp_obeys.specs.Obeys.{Allows, Life, Obeys}
use Rattle.pp_proxy.specs.Awaiting.{Standing, TurnsOn}
use Rattle.pp_proxy.specs.declared.proxy.Proxy.{Proxy}
use Rattle.pp_proxy.specs.declared.proxy.Turn.TheVariants.{Stopped}
use Rattle.pp_rounds_law.specs.Stops.{NobodyIsLeft}
use Rattle.pp_store.specs.Kept.{KeptMap}
use Rattle.pp_turn_law.specs.Going.{StandsOn}
use Rattle.pp_turn_law.specs.Opening.{opened_at}
use Rattle.pp_turn_law.specs.Served.{most_happenings}
use Rattle.pp_turn_law.specs.Straight.{IsStraight}
use Rattle.pp_world.specs.Log.{Log}

-- the log goes on so, nobody is there, and it may end
pub record HasStoppedAt (life : Life) (budget : ℕ) (log : Log) (y : Standing) : Type 0 where
  pub added : Log
  pub then : State
  pub obeys : Obeys (life.terms budget) then (log ++ added)
  pub allows : Allows life budget y.turning.faults then
  pub told : y.turning.log ≡ Some (log ++ added)
  pub clients : then.clients ≡ []
  pub conns : then.conns ≡ []
  pub over : may_be_over then ≡ true
  pub nobody : NobodyIsLeft y.turning.moving

-- where the log is told behind the turn, this life did not go astray by it, and the outside failed no more often than the life may have
abbrev pub TurnsStop : Type 0
TurnsStop = (life : Life) (budget : ℕ) (log after : Log) (x y : Standing) (s : State) → StandsOn life budget log x s → TurnsOn Stopped x y → IsStraight y.turning → y.turning.log ≡ Some after → y.turning.faults ≤ budget + life.base → length after < most_happenings → HasStoppedAt life budget log y

-- and where Stop comes as a life listens, at its first wait
abbrev pub FirstTurnsStop : Type 0
FirstTurnsStop = (life : Life) (budget : ℕ) (log after : Log) (conf : Conf) (p : Proxy) (shelf : KeptMap) (top faults : ℕ) (y : Standing) (s : State) → BeginsWith (life.terms budget) log conf p shelf top s → length p.desk.state.name.items ≤ 64 → Allows life budget faults s → TurnsOn Stopped (opened_at p shelf top log faults) y
    → IsStraight y.turning → y.turning.log ≡ Some after → y.turning.faults ≤ budget + life.base → length after < most_happenings → HasStoppedAt life budget log y
