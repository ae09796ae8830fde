-- From the first decision of a turn, over its rounds, to where it may wait again, beside a log that obeys the law (RFC 2616, sections 8.1 and
-- 8.1.4; the order is ours).
--
-- Where the premises come from: HasBeenKept of `pp_joints_law` is where memory and the disk lead (Kept.`HandledOnesGoToDecide`).
use Rattle.std.specs.Prelude.{◌≡◌, ◌≤◌, ◌<◌, ◌+◌, ◌^◌, ◌++◌, ℕ, false, length, Some}
use Rattle.pp_cache.specs.Bounds.{IsBounded}
use Rattle.pp_given_law.specs.MayNote.{most_names}
use Rattle.pp_joints_law.specs.Carried.{IsCarried}
use Rattle.pp_joints_law.specs.Keeping.{HasBeenKept}
use Rattle.pp_law.specs.Phases.{ending}
use Rattle.pp_law.specs.State.{State}
use Rattle.pp_obeys.specs.Obeys.{Allows, Life, Obeys}
use Rattle.pp_proxy.specs.Moving.{LeadsOn, Turning}
use Rattle.pp_proxy.specs.Settling.{Settles}
use Rattle.pp_rounds_law.specs.Serves.{HasServed}
use Rattle.pp_turn_law.specs.Kept.{HasGoneToDecide, LeavesAndKeeps, StandsHandled}
use Rattle.pp_turn_law.specs.Supplied.{StandsGiven, StandsServing}
use Rattle.pp_world.specs.Log.{Log}

-- ---- where decisions come next

pub record StandsToServe (life : Life) (budget : ℕ) (log : Log) (number : ℕ → ℕ) (x : Turning) (s : State) : Type 0 where
  pub obeys : Obeys (life.terms budget) s log
  pub allows : Allows life budget x.faults s
  pub told : x.log ≡ Some log
  pub kept : HasBeenKept number x s
  -- Stop was not said
  pub going : s.is_stopped ≡ false

-- what is decided and done then
pub record ServesOn (x y : Turning) : Type 0 where
  pub settles : LeadsOn (Settles x.shelf) x.moving y.moving x.log y.log x.faults y.faults
  pub shelf : y.shelf ≡ x.shelf
  pub bounded : IsBounded y.moving.desk.state.cache
  -- this life did not go astray
  pub straight : y.moving.desk.state.is_astray ≡ false

-- ---- where it may wait

pub record HasServedOn (life : Life) (budget : ℕ) (log : Log) (y : Turning) (s : State) : Type 0 where
  pub added : Log
  pub told : y.log ≡ Some (log ++ added)
  pub served : HasServed (life.terms budget) log y.shelf y.moving added s
  pub allows : Allows life budget y.faults served.then
  pub carried : IsCarried y.shelf y.moving (ending served.then)
  -- where replies have begun
  pub supplied : StandsGiven y.moving.desk.state (ending served.then)
  -- few names are noted (MayNote of `pp_given_law`)
  pub few : length y.moving.desk.state.cache.outdated ≤ most_names

-- in a log of fewer happenings than this: so no count ends at 2^64 (`pp_laws_sides`)
abbrev pub most_happenings : ℕ
most_happenings = 2 ^ 50

abbrev pub DecidingOnesServe : Type 0
DecidingOnesServe = (life : Life) (budget : ℕ) (log after : Log) (number : ℕ → ℕ) (x y : Turning) (s : State) → StandsToServe life budget log number x s → StandsServing x.shelf x.moving.desk.state s → ServesOn x y → y.log ≡ Some after → y.faults ≤ budget + life.base
    → length after < most_happenings → HasServedOn life budget log y s

-- ---- and from an event that is handled

-- where that was not Stop: from there, over memory and the disk (Kept), to where the turn may wait again
pub record HasServedBehind (life : Life) (budget : ℕ) (log : Log) (x y : Turning) (s : State) : Type 0 where
  pub kept : Turning
  pub gone : HasGoneToDecide life budget log x kept s
  pub served : HasServedOn life budget (log ++ gone.goes.added) y gone.then

abbrev pub HandledOnesServe : Type 0
HandledOnesServe = (life : Life) (budget : ℕ) (log after : Log) (number : ℕ → ℕ) (x k y : Turning) (s : State) → StandsHandled life budget log number x s → LeavesAndKeeps x k
    → ServesOn k y → x.moving.desk.state.is_stopped ≡ false → y.log ≡ Some after → y.faults ≤ budget + life.base → length after < most_happenings → HasServedBehind life budget log x y s
