-- Over a whole turn, from its wait to the next: those who were read, and what is read into (ours).
--
-- Where the premises come from: Handled and Called lead to IsHandledOn, and Kept to HasGoneToDecide, as Lost; what the program does is TakesEvent of
-- `pp_proxy`.
use Rattle.std.specs.Prelude.{◌≡◌, ◌++◌, ℕ, take, ◌∷◌}
use Rattle.pp_desk.specs.declared.desk.Desk.{Desk}
use Rattle.pp_events_law.specs.Stands.{come}
use Rattle.pp_law.specs.State.{State}
use Rattle.pp_links.specs.Links.{IsLinked}
use Rattle.pp_obeys.specs.Obeys.{Life}
use Rattle.pp_proxy.specs.Awaiting.{Awaits, Rests, Standing}
use Rattle.pp_proxy.specs.Handling.{Handles}
use Rattle.pp_proxy.specs.Moving.{Turning}
use Rattle.pp_turn_law.specs.Awaited.{StandsBeside, awaiting}
use Rattle.pp_turn_law.specs.Handled.{Turns}
use Rattle.pp_turn_law.specs.Kept.{HasGoneToDecide, LeavesAndKeeps}
use Rattle.pp_turn_law.specs.Served.{ServesOn}
use Rattle.pp_waits_law.specs.Asleep.{WereRead}
use Rattle.pp_world.specs.Log.{Log}
use Rattle.pp_world.specs.Wire.{event_happening}
use Rattle.pp_world.specs.declared.event.Event.{Event}
use Rattle.pp_world.specs.declared.event.Wants.{Wants}
use Rattle.pp_world.specs.declared.happening.Happening.TheVariants.{Waits}

-- behind its event memory was left, and what is for the disk was done: the log has what was added to it, and decisions come next
pub record DecidesNext (life : Life) (budget : ℕ) (log : Log) (w : Wants) (event : Event) (h k : Turning) : Type 0 where
  pub added : Log
  pub then : State
  pub gone : HasGoneToDecide life budget (log ++ (Waits w ∷ event_happening event ∷ added)) h k then

-- its event was handled, decisions came next, and it served
pub record GoesOver (life : Life) (budget : ℕ) (log : Log) (w : Wants) (event : Event) (x : Standing) (f : Desk) (all : Log) (faults : ℕ) (h k y : Turning) (s : State) : Type 0 where
  pub turns : Turns life budget log w event x f all faults h s
  pub handles : Handles event (come event (awaiting x f all faults)) h
  pub keeps : LeavesAndKeeps h k
  pub next : DecidesNext life budget log w event h k
  pub serves : ServesOn k y

-- ---- who was read

-- those who were read at its wait were read at the last one, as the next comes
abbrev pub ReadOnesStayRead : Type 0
ReadOnesStayRead = (life : Life) (budget : ℕ) (log : Log) (w : Wants) (event : Event) (x : Standing) (f : Desk) (all : Log) (faults : ℕ) (h k y : Turning) (s : State) → (it : GoesOver life budget log w event x f all faults h k y s) → WereRead (take it.turns.clients w.read.items) y.moving.desk.state

-- ---- what is read into

-- beside the next wait, too, it is as long as from the opening on; which connections are open is told there
abbrev pub NextWaitsStandBeside : Type 0
NextWaitsStandBeside = (life : Life) (budget : ℕ) (log : Log) (w : Wants) (event : Event) (x : Standing) (f : Desk) (all : Log) (faults : ℕ) (h k y : Turning) (s : State) → GoesOver life budget log w event x f all faults h k y s
    → (next : Standing) (v : Wants) (clients : ℕ) (d g : Desk) → next.turning ≡ y → IsLinked y.log y.moving.top y.moving.links → Awaits next.read v clients next.turning.moving.desk d → Rests v clients d g → StandsBeside next g
