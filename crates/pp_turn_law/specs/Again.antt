-- From where a turn served to where it may wait again: what a turn leaves, and what stands beside (ours).
--
-- Where the premises come from: HasServedOn of Served, by whatever led there. Of `read` Whole has all, and of `apart` OverWaits; they are joined in Going.
use Rattle.std.specs.Prelude.{◌≡◌, ◌++◌, ℕ, false}
use Rattle.pp_joints_law.specs.Unnoted.{NoneIsUnnoted}
use Rattle.pp_law.specs.State.{State}
use Rattle.pp_obeys.specs.Obeys.{Life}
use Rattle.pp_proxy.specs.Awaiting.{Standing}
use Rattle.pp_proxy.specs.Moving.{Turning}
use Rattle.pp_turn_law.specs.Kept.{LeavesAndKeeps}
use Rattle.pp_turn_law.specs.Served.{HasServedOn, ServesOn}
use Rattle.pp_turn_law.specs.Waited.{StandsAtWait}
use Rattle.pp_waits_law.specs.Asleep.{WereRead}
use Rattle.pp_waits_law.specs.Waits.{OriginsAreApart}
use Rattle.pp_world.specs.Log.{Log}

-- ---- what is noted

-- behind memory and the disk, and behind decisions and rounds, of the rows that left memory none is left to be noted
abbrev pub TurnsNoteAll : Type 0
TurnsNoteAll = (x k y : Turning) → LeavesAndKeeps x k → ServesOn k y → NoneIsUnnoted y.moving.desk

-- ---- where it may wait again

pub record StandsForNext (y : Standing) : Type 0 where
  pub read : WereRead y.read y.turning.moving.desk.state
  pub apart : OriginsAreApart y.read y.turning.moving.desk
  pub noted : NoneIsUnnoted y.turning.moving.desk

-- before Stop
abbrev pub ServedOnesWaitAgain : Type 0
ServedOnesWaitAgain = (life : Life) (budget : ℕ) (before : Log) (y : Standing) (s : State) → (it : HasServedOn life budget before y.turning s) → it.served.then.is_stopped ≡ false → StandsForNext y → StandsAtWait life budget (before ++ it.added) y it.served.then
