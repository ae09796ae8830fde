-- From an event that is handled, over what leaves memory and what is kept on the disk, to where decisions come next, beside a log that obeys
-- the law (RFC 7233, section 4.3, for what asks that bring nothing asked; the order is ours).
--
-- Where the premises come from: Handled and Called have StandsHandled behind each event but the read of an origin, and a write before which a
-- chunk could not be read back. What memory and disk do is TakesEvent of `pp_proxy`.
use Rattle.std.specs.Prelude.{◌≡◌, ◌≤◌, ◌+◌, ℕ, Some}
use Rattle.pp_cache.specs.Bounds.{IsBounded}
use Rattle.pp_events_law.specs.Stands.{AreReadyAt, IsHandled}
use Rattle.pp_grown_law.specs.Grown.{NotesGrown}
use Rattle.pp_joints_law.specs.Carried.{IsCarried}
use Rattle.pp_joints_law.specs.Keeping.{HasBeenKept}
use Rattle.pp_joints_law.specs.Leaving.{IsToLeave}
use Rattle.pp_law.specs.State.{State}
use Rattle.pp_obeys.specs.Obeys.{Allows, Life, Obeys}
use Rattle.pp_proxy.specs.Events.{Keeps}
use Rattle.pp_proxy.specs.Leaving.{Leaves}
use Rattle.pp_proxy.specs.Moving.{LeadsOn, Turning}
use Rattle.pp_turn_law.specs.Goes.{GoesTo}
use Rattle.pp_turn_law.specs.Supplied.{StandsGiven}
use Rattle.pp_world.specs.Log.{Log}

-- ---- where an event is handled

pub record StandsHandled (life : Life) (budget : ℕ) (log : Log) (number : ℕ → ℕ) (x : Turning) (s : State) : Type 0 where
  pub obeys : Obeys (life.terms budget) s log
  pub allows : Allows life budget x.faults s
  pub told : x.log ≡ Some log
  pub handled : IsHandled number x.moving s
  pub ready : AreReadyAt number x.moving s
  pub carried : IsCarried x.shelf x.moving handled.handled
  pub leave : IsToLeave x.moving handled.handled
  pub supplied : StandsGiven x.moving.desk.state handled.handled

-- what is done then, up to the disk: memory is left, and what stands no more is taken away, and what is whole kept
pub record LeavesAndKeeps (x y : Turning) : Type 0 where
  pub left : Turning
  pub leaves : LeadsOn Leaves x.moving left.moving x.log left.log x.faults left.faults
  pub shelf : left.shelf ≡ x.shelf
  pub bounded : IsBounded left.moving.desk.state.cache
  pub keeps : Keeps left y
  -- each instance that has more to keep is noted where the event is handled: HandledOnesNoteGrown of Grown, from where nothing is to be kept
  pub grown : NotesGrown x.moving.desk.state x.shelf

-- ---- where decisions come next

pub record HasGoneToDecide (life : Life) (budget : ℕ) (log : Log) (x y : Turning) (s : State) : Type 0 where
  pub then : State
  pub goes : GoesTo life budget log y s then
  pub number : ℕ → ℕ
  pub kept : HasBeenKept number y then
  pub supplied : StandsGiven y.moving.desk.state then
  -- neither memory nor the disk says Stop
  pub stopped : y.moving.desk.state.is_stopped ≡ x.moving.desk.state.is_stopped

-- the log is told behind it, and the outside failed no more often than the life may have
abbrev pub HandledOnesGoToDecide : Type 0
HandledOnesGoToDecide = (life : Life) (budget : ℕ) (log after : Log) (number : ℕ → ℕ) (x y : Turning) (s : State) → StandsHandled life budget log number x s → LeavesAndKeeps x y → y.log ≡ Some after → y.faults ≤ budget + life.base → HasGoneToDecide life budget log x y s
