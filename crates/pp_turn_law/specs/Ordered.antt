-- Clients stand in the order of their numbers, whatever became of the life (ours): from the opening on, over each turn.
--
-- Each is of the program alone. Where the premises come from: what comes is HasCome of `pp_proxy`, by which a client that comes has a number
-- above all that were given (IsNumbered of `pp_world`); and what a read may bring has room from the opening on (`HasBuffers` of `pp_desk`).
use Rattle.std.specs.Prelude.{◌≤◌, ℕ, List, [], ◌∷◌, length, vec_capacity, Option, ⊤}
use Rattle.pp_desk.specs.declared.desk.Desk.{Desk}
use Rattle.pp_proxy.specs.Awaiting.{Awaits, Rests, Standing, TurnsOn, behind}
use Rattle.pp_proxy.specs.Events.{Keeps}
use Rattle.pp_proxy.specs.Handling.{Handles}
use Rattle.pp_proxy.specs.Leaving.{Leaves}
use Rattle.pp_proxy.specs.Moving.{Moving, Turning, with_desk}
use Rattle.pp_proxy.specs.Settling.{Settles}
use Rattle.pp_proxy.specs.declared.proxy.Turn.{Turn as Result}
use Rattle.pp_state.specs.Ends.{AreSeated, numbers_of}
use Rattle.pp_store.specs.Kept.{KeptMap}
use Rattle.pp_world.specs.Log.{Log}
use Rattle.pp_world.specs.Wire.{IsNumbered}
use Rattle.pp_world.specs.declared.event.Event.{Event}
use Rattle.pp_world.specs.declared.event.Wants.{Wants}

-- none of these is above the greatest that was given
abbrev pub AreGivenTo : ℕ → List ℕ → Type 0
AreGivenTo top [] = ⊤
AreGivenTo top (n ∷ ns) = (n ≤ top) × AreGivenTo top ns

pub record StandsOrdered (x : Moving) : Type 0 where
  pub seated : AreSeated x.desk.state
  pub given : AreGivenTo x.top (numbers_of x.desk.state.seats.items)
  pub room : length x.desk.buffer.items ≤ vec_capacity x.desk.«data»

-- ---- from one wait to the next

abbrev pub OrderedOverWaits : Type 0
OrderedOverWaits = (before : List ℕ) (w : Wants) (clients : ℕ) (x : Moving) (e f : Desk) → Awaits before w clients x.desk e → Rests w clients e f → StandsOrdered x → StandsOrdered (with_desk f x)

abbrev pub OrderedInEvents : Type 0
OrderedInEvents = (event : Event) (log : Option Log) (faults : ℕ) (x y : Turning) → IsNumbered x.moving.top event → Handles event (behind event log faults x) y → StandsOrdered x.moving → StandsOrdered y.moving

abbrev pub OrderedAsLeft : Type 0
OrderedAsLeft = (x y : Moving) (log : Log) → Leaves x log y → StandsOrdered x → StandsOrdered y

abbrev pub OrderedAsKept : Type 0
OrderedAsKept = (x y : Turning) → Keeps x y → StandsOrdered x.moving → StandsOrdered y.moving

abbrev pub OrderedAsSettled : Type 0
OrderedAsSettled = (shelf : KeptMap) (x y : Moving) (log : Log) → Settles shelf x log y → StandsOrdered x → StandsOrdered y

abbrev pub TurnsStayOrdered : Type 0
TurnsStayOrdered = (result : Result) (x y : Standing) → TurnsOn result x y → StandsOrdered x.turning.moving → StandsOrdered y.turning.moving
