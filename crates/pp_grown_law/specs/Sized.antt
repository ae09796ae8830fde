-- The number of chunks that a cache may have stays as it was set, over each piece of a turn (ours).
--
-- Of the program alone. Where the premises come from: exchanges are numbered as they show the law's (Numbered), and stay so here; and what a read
-- may bring has room from the opening on (`HasBuffers` of `pp_desk`).
use Rattle.std.specs.Prelude.{◌≡◌, ◌≤◌, ℕ, List, length, vec_capacity}
use Rattle.pp_desk.specs.declared.desk.Desk.{Desk}
use Rattle.pp_proxy.specs.Awaiting.{Awaits, Rests}
use Rattle.pp_proxy.specs.Events.{Keeps, TakesEvent}
use Rattle.pp_proxy.specs.Handling.{Handles}
use Rattle.pp_proxy.specs.Leaving.{Leaves}
use Rattle.pp_proxy.specs.Moving.{Moving, Turning}
use Rattle.pp_proxy.specs.Settling.{Settles}
use Rattle.pp_state.specs.Ends.{AreSeated}
use Rattle.pp_state.specs.declared.state.State.{State as Turn}
use Rattle.pp_store.specs.Kept.{KeptMap}
use Rattle.pp_world.specs.Log.{Log}
use Rattle.pp_world.specs.declared.event.Event.{Event}
use Rattle.pp_world.specs.declared.event.Wants.{Wants}
use Rattle.pp_grown_law.specs.Numbered.{AreNumbered}

-- as many, and each exchange has a number of its own still
pub record StaysSized (p q : Turn) : Type 0 where
  pub size : q.cache.size ≡ p.cache.size
  pub numbered : AreNumbered q.flow

-- what a read may bring has room
abbrev pub HasRoomToRead : Desk → Type 0
HasRoomToRead d = length d.buffer.items ≤ vec_capacity d.«data»

-- ---- each piece

abbrev pub SizeOverWaits : Type 0
SizeOverWaits = (before : List ℕ) (w : Wants) (clients : ℕ) (d e f : Desk) → Awaits before w clients d e → Rests w clients e f → AreNumbered d.state.flow → StaysSized d.state f.state

abbrev pub SizeInEvents : Type 0
SizeInEvents = (event : Event) (x y : Turning) → HasRoomToRead x.moving.desk → AreNumbered x.moving.desk.state.flow → Handles event x y → StaysSized x.moving.desk.state y.moving.desk.state

abbrev pub SizeAsLeft : Type 0
SizeAsLeft = (x y : Moving) (log : Log) → AreNumbered x.desk.state.flow → Leaves x log y → StaysSized x.desk.state y.desk.state

abbrev pub SizeAsKept : Type 0
SizeAsKept = (x y : Turning) → AreNumbered x.moving.desk.state.flow → Keeps x y → StaysSized x.moving.desk.state y.moving.desk.state

abbrev pub SizeAsSettled : Type 0
SizeAsSettled = (shelf : KeptMap) (x y : Moving) (log : Log) → AreNumbered x.desk.state.flow → Settles shelf x log y → StaysSized x.desk.state y.desk.state

-- ---- from one wait to the end of its turn, where clients stand in the order of their numbers

abbrev pub TurnsStaySized : Type 0
TurnsStaySized = (event : Event) (x y : Turning) (it : TakesEvent event x y) → AreSeated x.moving.desk.state → AreSeated it.handled.moving.desk.state → AreSeated it.kept.moving.desk.state → HasRoomToRead x.moving.desk → AreNumbered x.moving.desk.state.flow
    → StaysSized x.moving.desk.state y.moving.desk.state
