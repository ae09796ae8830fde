-- From one wait to the next: all of a turn, beside a log that obeys the law (ours).
--
-- Where the premises come from: what a turn does is TurnsOn of `pp_proxy`; which events are handled say Handled, Called and Read. As a life begins
-- its first event is handled (Opening), and from there it goes on as here. All turns of a life, one behind the other, are of Turned.
use Rattle.std.specs.Prelude.{◌≡◌, ◌≤◌, ◌<◌, ◌⊎◌, ◌+◌, ◌++◌, ℕ, [], ◌∷◌, length, vec_capacity, Some}
use Rattle.pp_cache.specs.Bounds.{IsBounded}
use Rattle.pp_given_law.specs.MayNote.{most_names}
use Rattle.pp_grown_law.specs.Grown.{HasNothingToKeep}
use Rattle.pp_law.specs.State.{State}
use Rattle.pp_laws_sides.specs.Counts.{IsShortLog}
use Rattle.pp_obeys.specs.Obeys.{Life}
use Rattle.pp_proxy.specs.Awaiting.{Standing, TurnsOn}
use Rattle.pp_proxy.specs.Moving.{Turning}
use Rattle.pp_proxy.specs.declared.proxy.Turn.TheVariants.{Went}
use Rattle.pp_turn_law.specs.Called.{Calls, IsLostOn}
use Rattle.pp_turn_law.specs.Handled.{IsHandledOn}
use Rattle.pp_turn_law.specs.Ordered.{StandsOrdered}
use Rattle.pp_turn_law.specs.Served.{most_happenings}
use Rattle.pp_turn_law.specs.Straight.{IsStraight}
use Rattle.pp_turn_law.specs.Waited.{StandsAtWait}
use Rattle.pp_world.specs.Log.{Log}
use Rattle.pp_world.specs.declared.event.Event.{Event}
use Rattle.pp_world.specs.declared.event.Event.TheVariants.{Accepted, Broken, Readable, Reached, Stop, Tick, Writable}
use Rattle.pp_world.specs.declared.event.Wants.{Wants}
use Rattle.pp_world.specs.declared.happening.Happening.TheVariants.{Waits}

-- ---- at a wait

-- all that a turn carries to the next wait
pub record StandsOn (life : Life) (budget : ℕ) (log : Log) (x : Standing) (s : State) : Type 0 where
  pub wait : StandsAtWait life budget log x s
  -- what is read into
  pub buffer : length x.turning.moving.desk.buffer.items ≡ 32768
  pub holds : 32768 ≤ vec_capacity x.turning.moving.desk.«data»
  pub ordered : StandsOrdered x.turning.moving
  -- the cache may have as many chunks as are set
  pub size : x.turning.moving.desk.state.cache.size ≡ s.settings.critical
  pub bounded : IsBounded x.turning.moving.desk.state.cache
  -- for the disk nothing is left to be kept, and few names are noted
  pub nothing : HasNothingToKeep x.turning.moving.desk.state x.turning.shelf
  pub few : length x.turning.moving.desk.state.cache.outdated ≤ most_names

-- ---- its event

-- it is handled, or the chunk of a client that was to be written to could not be read back
abbrev pub IsTaken : Life → ℕ → Log → Wants → Event → Turning → Type 0
IsTaken life budget log w Stop h = IsHandledOn life budget log w Stop h
IsTaken life budget log w (Tick seconds) h = IsHandledOn life budget log w (Tick seconds) h
IsTaken life budget log w (Accepted c) h = IsHandledOn life budget log w (Accepted c) h
IsTaken life budget log w (Readable id) h = IsHandledOn life budget log w (Readable id) h
IsTaken life budget log w (Writable id) h = IsHandledOn life budget log w (Writable id) h ⊎ IsLostOn life budget log w id h
IsTaken life budget log w (Reached k) h = IsHandledOn life budget log w (Reached k) h
IsTaken life budget log w (Broken k) h = IsHandledOn life budget log w (Broken k) h

-- so is the event of a turn; the log is not too long with the wait, and the outside failed no more often than the life may have
abbrev pub ItsEventIsTaken : (life : Life) (budget : ℕ) (log : Log) (x y : Standing) (s : State) → TurnsOn Went x y → Type 0
ItsEventIsTaken life budget log x y s turns = (event : Event) → turns.event ≡ Some event → (all : Log) (faults : ℕ) (h : Turning) → Calls life budget log turns.wants event x turns.rested all faults h s → IsShortLog (log ++ Waits turns.wants ∷ [])
    → h.faults ≤ budget + life.base → IsTaken life budget log turns.wants event h

-- ---- at the next

pub record GoesOnTo (life : Life) (budget : ℕ) (log : Log) (y : Standing) : Type 0 where
  pub added : Log
  pub then : State
  pub stands : StandsOn life budget (log ++ added) y then

-- where the log is told behind the turn, this life did not go astray by it, and the outside failed no more often than the life may have
abbrev pub TurnsGoOn : Type 0
TurnsGoOn = (life : Life) (budget : ℕ) (log after : Log) (x y : Standing) (s : State) → StandsOn life budget log x s → (turns : TurnsOn Went x y) → ItsEventIsTaken life budget log x y s turns → IsStraight y.turning → y.turning.log ≡ Some after → y.turning.faults ≤ budget + life.base → length after < most_happenings
    → GoesOnTo life budget log y
