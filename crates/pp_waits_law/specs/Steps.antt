-- Amid a turn nobody falls asleep: of each step (ours).
--
-- Where the premises come from: clients stand in the order of their numbers (`order` of `ShowsSteps`, of pp_states_law), and those that are
-- looked at rise (`AreAwake` of pp_turns_law). There is room to look at 257 clients, one more than there may be, and for one read, from the
-- opening on (`HasRoom` and `HasBuffers` of pp_desk); behind a client that comes `IsSeated` of pp_proxy has it.
use Rattle.std.specs.Prelude.{◌<◌, ◌≤◌, ℕ, List, length, vec_capacity, Option}
use Rattle.pp_desk.specs.declared.desk.Desk.{Desk}
use Rattle.pp_proxy.specs.Awaiting.{ComesTo, behind}
use Rattle.pp_proxy.specs.Events.{Keeps, TakesEvent}
use Rattle.pp_proxy.specs.Handling.{Handles}
use Rattle.pp_proxy.specs.Leaving.{Leaves}
use Rattle.pp_proxy.specs.Moving.{Moving, Turning}
use Rattle.pp_proxy.specs.Settling.{Settles}
use Rattle.pp_state.specs.Ends.{AreInOrder, AreSeated}
use Rattle.pp_state.specs.declared.state.State.{State}
use Rattle.pp_store.specs.Kept.{KeptMap}
use Rattle.pp_waits_law.specs.Asleep.{KeepsAwake, WereRead}
use Rattle.pp_world.specs.Log.{Log}
use Rattle.pp_world.specs.declared.event.Event.{Event}
use Rattle.pp_world.specs.declared.event.Wants.{Wants}

-- ---- each step

-- all can be looked at
abbrev pub HasRoom : State → Type 0
HasRoom s = length s.seats.items ≤ vec_capacity s.awake

-- one more can, and an origin be read
pub record CanLook (d : Desk) : Type 0 where
  pub order : AreInOrder d.state.awake.items
  pub one : length d.state.awake.items < vec_capacity d.state.awake
  pub all : HasRoom d.state
  pub reads : length d.buffer.items ≤ vec_capacity d.«data»

abbrev pub EventsKeepAwake : Type 0
EventsKeepAwake = (event : Event) (x y : Turning) → CanLook x.moving.desk → Handles event x y → KeepsAwake x.moving.desk.state y.moving.desk.state

abbrev pub LeavingKeepsAwake : Type 0
LeavingKeepsAwake = (x : Moving) (log : Log) (y : Moving) → Leaves x log y → KeepsAwake x.desk.state y.desk.state

abbrev pub KeepingKeepsAwake : Type 0
KeepingKeepsAwake = (x y : Turning) → Keeps x y → KeepsAwake x.moving.desk.state y.moving.desk.state

abbrev pub SettlingKeepsAwake : Type 0
SettlingKeepsAwake = (shelf : KeptMap) (x : Moving) (log : Log) (y : Moving) → HasRoom x.desk.state → Settles shelf x log y → KeepsAwake x.desk.state y.desk.state

-- ---- from a wait to the next

pub record CanGoOn (s : State) : Type 0 where
  pub seated : AreSeated s
  pub room : HasRoom s

pub record CanTake (event : Event) (x : Turning) : Type 0 where
  pub looks : CanLook x.moving.desk
  pub seated : AreSeated x.moving.desk.state
  pub behind : (y : Turning) → Handles event x y → CanGoOn y.moving.desk.state

abbrev pub TurnsKeepAwake : Type 0
TurnsKeepAwake = (event : Event) (x y : Turning) → CanTake event x → TakesEvent event x y → KeepsAwake x.moving.desk.state y.moving.desk.state

-- whatever comes
abbrev pub MayCome : Turning → Type 0
MayCome x = (event : Event) (log : Option Log) (faults : ℕ) → CanTake event (behind event log faults x)

abbrev pub ReadStayToNextWait : Type 0
ReadStayToNextWait = (read : List ℕ) (wants : Wants) (event : Option Event) (x y : Turning) → MayCome x → ComesTo wants event x y → WereRead read x.moving.desk.state → WereRead read y.moving.desk.state
