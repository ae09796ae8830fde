-- At Stop a turn decides, and closes all, beside a log that obeys the law, which may end there (RFC 2616, section 8.1; the order is ours).
--
-- Where the premises come from: as in Served. All clients are looked at, as Stop is handled (Handling.`Stops` of `pp_proxy`), and neither memory
-- nor the disk changes that.
use Rattle.std.specs.Prelude.{◌≡◌, ◌≤◌, ◌<◌, ◌+◌, ◌++◌, ℕ, true, length, vec_capacity, Some}
use Rattle.pp_joints_law.specs.Keeping.{HasBeenKept}
use Rattle.pp_law.specs.State.{State}
use Rattle.pp_obeys.specs.Obeys.{Allows, Life, Obeys}
use Rattle.pp_proxy.specs.Handling.{Handles}
use Rattle.pp_proxy.specs.Moving.{Turning}
use Rattle.pp_rounds_law.specs.Settles.{HasStopped}
use Rattle.pp_state.specs.Ends.{parts}
use Rattle.pp_state.specs.Numbers.{places}
use Rattle.pp_state.specs.declared.state.State.{State as Turn}
use Rattle.pp_stays_law.specs.Names.{HasRoomToNote}
use Rattle.pp_turn_law.specs.Kept.{HasGoneToDecide, LeavesAndKeeps, StandsHandled}
use Rattle.pp_turn_law.specs.Served.{ServesOn, most_happenings}
use Rattle.pp_turn_law.specs.Supplied.{StandsSupplied}
use Rattle.pp_world.specs.Log.{Log}
use Rattle.pp_world.specs.declared.event.Event.TheVariants.{Stop}

-- ---- Stop was said

pub record IsToStop (p : Turn) : Type 0 where
  pub stopped : p.is_stopped ≡ true
  pub awake : p.awake.items ≡ places (length p.seats.items)

-- as it is handled, where there is room to look at all
abbrev pub StopsAreSaid : Type 0
StopsAreSaid = (x y : Turning) → Handles Stop x y → length x.moving.desk.state.seats.items ≤ vec_capacity x.moving.desk.state.awake → IsToStop y.moving.desk.state

-- ---- where decisions come next

pub record StandsToStop (life : Life) (budget : ℕ) (log : Log) (number : ℕ → ℕ) (x : Turning) (s : State) : Type 0 where
  pub obeys : Obeys (life.terms budget) s log
  pub allows : Allows life budget x.faults s
  pub told : x.log ≡ Some log
  pub kept : HasBeenKept number x s
  pub said : IsToStop x.moving.desk.state

-- ---- where it has stopped

-- nobody is there, and the log may end
pub record HasStoppedOn (life : Life) (budget : ℕ) (log : Log) (y : Turning) (s : State) : Type 0 where
  pub added : Log
  pub told : y.log ≡ Some (log ++ added)
  pub stopped : HasStopped (life.terms budget) log y.moving added s
  pub allows : Allows life budget y.faults stopped.then

abbrev pub DecidingOnesStop : Type 0
DecidingOnesStop = (life : Life) (budget : ℕ) (log after : Log) (number : ℕ → ℕ) (x y : Turning) (s : State) → StandsToStop life budget log number x s → StandsSupplied x.shelf x.moving.desk.state s → ServesOn x y → y.log ≡ Some after → y.faults ≤ budget + life.base → length after < most_happenings
    → HasStoppedOn life budget log y s

-- ---- and from where it is handled

pub record HasStoppedBehind (life : Life) (budget : ℕ) (log : Log) (x y : Turning) (s : State) : Type 0 where
  pub kept : Turning
  pub gone : HasGoneToDecide life budget log x kept s
  pub stopped : HasStoppedOn life budget (log ++ gone.goes.added) y gone.then

-- as HandledOnesServe of Served has it of the other events, where there is room to note names: so there is for 768 exchanges, the most that there
-- are before Stop, which brings none, and neither do memory and the disk (Stopping)
abbrev pub HandledOnesStop : Type 0
HandledOnesStop = (life : Life) (budget : ℕ) (log after : Log) (number : ℕ → ℕ) (x k y : Turning) (s : State) → StandsHandled life budget log number x s → LeavesAndKeeps x k → HasRoomToNote (parts k.moving.desk.state) → ServesOn k y → IsToStop x.moving.desk.state → y.log ≡ Some after → y.faults ≤ budget + life.base → length after < most_happenings
    → HasStoppedBehind life budget log x y s
