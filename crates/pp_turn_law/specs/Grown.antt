-- What grew, over a turn: where an event comes nothing is to be kept, so what it brings is noted; and behind the keeping nothing is to be kept, up
-- to the next event (ours).
--
-- Where the premises come from: Awaited has IsAwaited, and Waited what is carried. Where a life opens nothing is in memory (`empty_memory` of
-- `pp_cache`).
use Rattle.std.specs.Prelude.{◌≡◌, ◌≤◌, ◌+◌, ℕ, false, List, [], Some}
use Rattle.pp_comes_law.specs.Awaited.{IsAwaited}
use Rattle.pp_desk.specs.declared.desk.Desk.{Desk}
use Rattle.pp_events_law.specs.Stands.{come}
use Rattle.pp_grown_law.specs.Grown.{HasNothingToKeep, NotesGrown}
use Rattle.pp_grown_law.specs.Reads.{StandsToGrow}
use Rattle.pp_joints_law.specs.Carried.{IsCarried}
use Rattle.pp_joints_law.specs.Keeping.{HasBeenKept}
use Rattle.pp_law.specs.State.{State, Term}
use Rattle.pp_law.specs.Turn.{rest_with}
use Rattle.pp_obeys.specs.Obeys.{Life}
use Rattle.pp_proxy.specs.Awaiting.{Standing}
use Rattle.pp_proxy.specs.Handling.{Handles}
use Rattle.pp_proxy.specs.Moving.{Turning}
use Rattle.pp_state.specs.declared.state.State.{State as Turn}
use Rattle.pp_store.specs.Kept.{KeptMap}
use Rattle.pp_turn_law.specs.Awaited.{awaiting}
use Rattle.pp_turn_law.specs.Handled.{Turns}
use Rattle.pp_turn_law.specs.Kept.{LeavesAndKeeps, StandsHandled}
use Rattle.pp_turn_law.specs.Served.{ServesOn}
use Rattle.pp_world.specs.Log.{Log}
use Rattle.pp_world.specs.declared.event.Event.{Event}
use Rattle.pp_world.specs.declared.event.Wants.{Wants}

-- ---- from one wait to where its event is handled

-- where no instance is there
abbrev pub EmptyOnesHaveNothing : Type 0
EmptyOnesHaveNothing = (p : Turn) (shelf : KeptMap) → p.cache.instances ≡ [] → p.cache.grown ≡ [] → HasNothingToKeep p shelf

-- where an event is awaited
abbrev pub AwaitedOnesMayGrow : Type 0
AwaitedOnesMayGrow = (terms : List Term) (log : Log) (number : ℕ → ℕ) (w : Wants) (x : Turning) (u : State) → IsAwaited terms log number w x u → IsCarried x.shelf x.moving (rest_with w u) → StandsToGrow x

-- each event: that of a client, of an origin, of the clock, and Stop
abbrev pub HandledOnesNoteGrown : Type 0
HandledOnesNoteGrown = (life : Life) (budget : ℕ) (log : Log) (w : Wants) (event : Event) (x : Standing) (f : Desk) (all : Log) (faults : ℕ) (y : Turning) (s : State) → Turns life budget log w event x f all faults y s → Handles event (come event (awaiting x f all faults)) y
    → HasNothingToKeep x.turning.moving.desk.state x.turning.shelf → NotesGrown y.moving.desk.state y.shelf

-- ---- from there to the next wait

-- behind memory and the disk, where this life did not go astray
abbrev pub HandledOnesLeaveNothing : Type 0
HandledOnesLeaveNothing = (life : Life) (budget : ℕ) (log after : Log) (number : ℕ → ℕ) (x y : Turning) (s : State) → StandsHandled life budget log number x s → LeavesAndKeeps x y → y.log ≡ Some after → y.faults ≤ budget + life.base → y.moving.desk.state.is_astray ≡ false
    → HasNothingToKeep y.moving.desk.state y.shelf

-- and behind decisions and rounds
abbrev pub ServedOnesLeaveNothing : Type 0
ServedOnesLeaveNothing = (number : ℕ → ℕ) (x y : Turning) (s : State) → HasBeenKept number x s → ServesOn x y → HasNothingToKeep x.moving.desk.state x.shelf → HasNothingToKeep y.moving.desk.state y.shelf

-- ---- from one wait to the next

-- an event is handled, memory and the disk do what is to be done of what grew, and then decisions and rounds
abbrev pub TurnsLeaveNothing : Type 0
TurnsLeaveNothing = (life : Life) (budget : ℕ) (log behind after : Log) (w : Wants) (event : Event) (x : Standing) (f : Desk) (all : Log) (faults : ℕ) (handled kept y : Turning) (number : ℕ → ℕ) (s t : State) → Turns life budget log w event x f all faults handled s
    → Handles event (come event (awaiting x f all faults)) handled → StandsHandled life budget behind number handled t → (NotesGrown handled.moving.desk.state handled.shelf → LeavesAndKeeps handled kept) → kept.log ≡ Some after → kept.faults ≤ budget + life.base
    → kept.moving.desk.state.is_astray ≡ false → ServesOn kept y → HasNothingToKeep x.turning.moving.desk.state x.turning.shelf → HasNothingToKeep y.moving.desk.state y.shelf
