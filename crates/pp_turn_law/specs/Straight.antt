-- A life that went astray stays so, over all of a turn (ours): so where it did not at the turn's end, it did at none of its places.
--
-- Each is of the program alone. Where the premises come from: as in Ordered.
use Rattle.std.specs.Prelude.{◌≡◌, ℕ, false, Option}
use Rattle.pp_proxy.specs.Awaiting.{Standing, TurnsOn, behind}
use Rattle.pp_proxy.specs.Events.{Keeps, TakesEvent}
use Rattle.pp_proxy.specs.Leaving.{Leaves}
use Rattle.pp_proxy.specs.Moving.{Moving, Turning}
use Rattle.pp_proxy.specs.Settling.{Settles}
use Rattle.pp_proxy.specs.declared.proxy.Turn.{Turn as Result}
use Rattle.pp_rounds_law.specs.Astray.{IsAstray}
use Rattle.pp_store.specs.Kept.{KeptMap}
use Rattle.pp_turn_law.specs.Ordered.{StandsOrdered}
use Rattle.pp_world.specs.Log.{Log}
use Rattle.pp_world.specs.Wire.{IsNumbered}
use Rattle.pp_world.specs.declared.event.Event.{Event}

-- ---- what follows an event

abbrev pub LeavingsStayAstray : Type 0
LeavingsStayAstray = (x y : Moving) (log : Log) → Leaves x log y → IsAstray x → IsAstray y

abbrev pub KeepingsStayAstray : Type 0
KeepingsStayAstray = (x y : Turning) → Keeps x y → IsAstray x.moving → IsAstray y.moving

abbrev pub SettlingsStayAstray : Type 0
SettlingsStayAstray = (shelf : KeptMap) (x y : Moving) (log : Log) → Settles shelf x log y → IsAstray x → IsAstray y

-- ---- all of it

abbrev pub IsStraight : Turning → Type 0
IsStraight x = x.moving.desk.state.is_astray ≡ false

-- where it did not go astray up to the end, it did not as the event was handled, as memory was left, and as all was kept
pub record WasStraight (event : Event) (x y : Turning) (takes : TakesEvent event x y) : Type 0 where
  pub before : IsStraight x
  pub handled : IsStraight takes.handled
  pub left : IsStraight takes.left
  pub kept : IsStraight takes.kept
  -- and clients stood in the order of their numbers
  pub ordered_handled : StandsOrdered takes.handled.moving
  pub ordered_kept : StandsOrdered takes.kept.moving

abbrev pub TurnsWereStraight : Type 0
TurnsWereStraight = (event : Event) (log : Option Log) (faults : ℕ) (x y : Turning) → IsNumbered x.moving.top event → StandsOrdered x.moving → (takes : TakesEvent event (behind event log faults x) y) → IsStraight y → WasStraight event (behind event log faults x) y takes

-- over the wait, and whatever comes
abbrev pub TurnsStayAstray : Type 0
TurnsStayAstray = (result : Result) (x y : Standing) → TurnsOn result x y → StandsOrdered x.turning.moving → IsAstray x.turning.moving → IsAstray y.turning.moving
