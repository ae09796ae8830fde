-- From the end of a turn, over its wait, to where an event is handled: Stop, an origin that was reached, a client that comes, a tick, and an
-- origin whose connection breaks, which add nothing to the log (RFC 2616, section 8.1; the order is ours).
--
-- Where the premises come from: as in Waited and Awaited. What an event does is TakesEvent of `pp_proxy`, by which the cache is bounded; and this
-- life did not go astray by it. As many names may be noted with a tick as in Behind of `pp_joints_law` (OverWaits).
use Rattle.std.specs.Prelude.{◌≡◌, ◌≤◌, ◌++◌, ℕ, false, ◌∷◌}
use Rattle.pp_cache.specs.Bounds.{IsBounded}
use Rattle.pp_desk.specs.declared.desk.Desk.{Desk}
use Rattle.pp_events_law.specs.Stands.{come}
use Rattle.pp_joints_law.specs.Behind.{MayNote}
use Rattle.pp_law.specs.State.{State}
use Rattle.pp_obeys.specs.Obeys.{Life}
use Rattle.pp_proxy.specs.Awaiting.{Awaits, Rests, Standing}
use Rattle.pp_proxy.specs.Handling.{Handles}
use Rattle.pp_proxy.specs.Moving.{Turning}
use Rattle.pp_turn_law.specs.Awaited.{Comes, StandsBeside, awaiting}
use Rattle.pp_turn_law.specs.Kept.{StandsHandled}
use Rattle.pp_turn_law.specs.Waited.{StandsAtWait}
use Rattle.pp_world.specs.Log.{Log}
use Rattle.pp_world.specs.Wire.{event_happening}
use Rattle.pp_world.specs.declared.event.Event.{Event}
use Rattle.pp_world.specs.declared.event.Event.TheVariants.{Accepted, Broken, Reached, Stop, Tick}
use Rattle.pp_world.specs.declared.event.Wants.{Wants}
use Rattle.pp_world.specs.declared.happening.Happening.TheVariants.{Waits}

-- the outside failed no more often than it says
pub record Turns (life : Life) (budget : ℕ) (log : Log) (w : Wants) (event : Event) (x : Standing) (f : Desk) (all : Log) (faults : ℕ) (y : Turning) (s : State) : Type 0 where
  pub stands : StandsAtWait life budget log x s
  pub clients : ℕ
  pub awaiting : Desk
  pub awaits : Awaits x.read w clients x.turning.moving.desk awaiting
  pub rests : Rests w clients awaiting f
  pub beside : StandsBeside x f
  pub comes : Comes w event x all
  pub counted : x.turning.faults ≤ faults
  pub bounded : IsBounded y.moving.desk.state.cache
  pub straight : y.moving.desk.state.is_astray ≡ false

-- the log has the wait and the event, and what was added behind it, and leads to where that is handled
pub record IsHandledOn (life : Life) (budget : ℕ) (log : Log) (w : Wants) (event : Event) (y : Turning) : Type 0 where
  pub added : Log
  pub number : ℕ → ℕ
  pub then : State
  pub stands : StandsHandled life budget (log ++ (Waits w ∷ event_happening event ∷ added)) number y then

abbrev pub HandlesOn : Event → Type 0
HandlesOn event = (life : Life) (budget : ℕ) (log : Log) (w : Wants) (x : Standing) (f : Desk) (all : Log) (faults : ℕ) (y : Turning) (s : State) → Turns life budget log w event x f all faults y s → Handles event (come event (awaiting x f all faults)) y
    → IsHandledOn life budget log w event y

-- ---- nothing is added behind it

abbrev pub StopsAreHandled : Type 0
StopsAreHandled = HandlesOn Stop

abbrev pub ReachedOnesAreHandled : Type 0
ReachedOnesAreHandled = (k : ℕ) → HandlesOn (Reached k)

abbrev pub ClientsAreHandled : Type 0
ClientsAreHandled = (c : ℕ) → HandlesOn (Accepted c)

-- attempts may be lost, and names noted
abbrev pub NotesOn : Event → Type 0
NotesOn event = (life : Life) (budget : ℕ) (log : Log) (w : Wants) (x : Standing) (f : Desk) (all : Log) (faults : ℕ) (y : Turning) (s : State) → Turns life budget log w event x f all faults y s → Handles event (come event (awaiting x f all faults)) y
    → MayNote (awaiting x f all faults).moving → IsHandledOn life budget log w event y

abbrev pub TicksAreHandled : Type 0
TicksAreHandled = (seconds : ℕ) → NotesOn (Tick seconds)

abbrev pub BrokenOnesAreHandled : Type 0
BrokenOnesAreHandled = (k : ℕ) → NotesOn (Broken k)
