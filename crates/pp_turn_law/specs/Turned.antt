-- All turns of a life, from where it listens, or from any wait: one goes on from where the one before it led, until Stop comes, or as many were
-- made as were set; the log obeys the law, and may end there (ours).
--
-- Where the premises come from: what the turns do is TurnsUpTo of `pp_run`; what the first begins with as in First, and with any other as in Going.
-- That each event is taken (TakesAll) is so of each life (EventsAreTaken).
use Rattle.std.specs.Prelude.{◌≡◌, ◌≤◌, ◌<◌, ◌+◌, ◌++◌, ℕ, true, length, Some}
use Rattle.pp_conf.specs.declared.conf.Conf.{Conf}
use Rattle.pp_joints_law.specs.Opened.{BeginsWith}
use Rattle.pp_law.specs.Permits.{is_over as may_be_over}
use Rattle.pp_law.specs.State.{State}
use Rattle.pp_obeys.specs.Obeys.{Allows, Life, Obeys}
use Rattle.pp_proxy.specs.Awaiting.{Standing, TurnsOn}
use Rattle.pp_proxy.specs.declared.proxy.Proxy.{Proxy}
use Rattle.pp_proxy.specs.declared.proxy.Turn.TheVariants.{Went}
use Rattle.pp_run.specs.Serving.{TurnsUpTo}
use Rattle.pp_store.specs.Kept.{KeptMap}
use Rattle.pp_turn_law.specs.Going.{ItsEventIsTaken, StandsOn}
use Rattle.pp_turn_law.specs.Opening.{opened_at}
use Rattle.pp_turn_law.specs.Served.{most_happenings}
use Rattle.pp_turn_law.specs.Straight.{IsStraight}
use Rattle.pp_world.specs.Log.{Log}

-- wherever a turn of the life waits, its event is taken, where the log is told behind the turn, the life did not go astray by it, and the outside
-- failed no more often than the life may have
abbrev pub TakesAll : Life → ℕ → Type 0
TakesAll life budget = (log after : Log) (x y : Standing) (s : State) → StandsOn life budget log x s → (turns : TurnsOn Went x y) → IsStraight y.turning → y.turning.log ≡ Some after → y.turning.faults ≤ budget + life.base → length after < most_happenings → ItsEventIsTaken life budget log x y s turns

-- so they are
abbrev pub EventsAreTaken : Type 0
EventsAreTaken = (life : Life) (budget : ℕ) → TakesAll life budget

-- the log goes on so, from this one, and may end
pub record HasGoneOn (life : Life) (budget : ℕ) (log : Log) (y : Standing) : Type 0 where
  pub added : Log
  pub then : State
  pub obeys : Obeys (life.terms budget) then (log ++ added)
  pub allows : Allows life budget y.turning.faults then
  pub told : y.turning.log ≡ Some (log ++ added)
  pub over : may_be_over then ≡ true

-- from any wait: where the log is told behind the last turn, this life did not go astray, and the outside failed no more often than it may have
abbrev pub TurnsGoOnUpTo : Type 0
TurnsGoOnUpTo = (life : Life) (budget most : ℕ) (log after : Log) (x y : Standing) (s : State) → TakesAll life budget → StandsOn life budget log x s → TurnsUpTo most x y → IsStraight y.turning → y.turning.log ≡ Some after → y.turning.faults ≤ budget + life.base → length after < most_happenings
    → HasGoneOn life budget log y

-- and from where a life listens, of a proxy whose name is as short as by its type, and whose cache may have as many chunks as are set
abbrev pub LivesGoOn : Type 0
LivesGoOn = (life : Life) (budget most : ℕ) (log after : Log) (conf : Conf) (p : Proxy) (shelf : KeptMap) (top faults : ℕ) (y : Standing) (s : State) → BeginsWith (life.terms budget) log conf p shelf top s → length p.desk.state.name.items ≤ 64 → p.desk.state.cache.size ≡ s.settings.critical
    → Allows life budget faults s → TurnsUpTo most (opened_at p shelf top log faults) y → IsStraight y.turning → y.turning.log ≡ Some after → y.turning.faults ≤ budget + life.base → length after < most_happenings → HasGoneOn life budget log y
