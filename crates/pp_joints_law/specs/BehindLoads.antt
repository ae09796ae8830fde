-- What is carried stands behind a write before which the chunk of the next byte was read back (ours): wherever the write led, other than out of
-- the event as in BehindLosses.
--
-- Where the premises come from: as in BehindLosses, and in Loads of `pp_events_law`.
use Rattle.std.specs.Prelude.{◌≡◌, ℕ, List, Some}
use Rattle.pp_cache.specs.Bounds.{IsBounded}
use Rattle.pp_events_law.specs.Loads.{MayLoad}
use Rattle.pp_events_law.specs.Stands.{HasLed, StandsAtEvent}
use Rattle.pp_joints_law.specs.Behind.{CarriesOn, HasFew}
use Rattle.pp_joints_law.specs.BehindLosses.{StandsOwed}
use Rattle.pp_law.specs.State.{State, Term, Handling, WriteTo}
use Rattle.pp_obeys.specs.Obeys.{Obeys}
use Rattle.pp_proxy.specs.Handling.{SaysAt}
use Rattle.pp_proxy.specs.Moving.{Turning}
use Rattle.pp_seats.specs.declared.seat.Next.{Next}
use Rattle.pp_seats.specs.declared.seat.Seat.{Seat}
use Rattle.pp_world.specs.Log.{Log}

abbrev pub LoadsCarry : Type 0
LoadsCarry = (terms : List Term) (before : Log) (number : ℕ → ℕ) (id i : ℕ) (x y : Turning) (seat : Seat) (next : Next) (s : State) → x.log ≡ Some before → Obeys terms s before → StandsAtEvent number Handling (WriteTo id) x.moving s → MayLoad id i x y seat next s
    → (says : SaysAt i x y) → IsBounded says.says.loaded.state.cache → StandsOwed x.shelf x.moving s → HasFew y.moving → (it : HasLed number x y s) → CarriesOn y.shelf y.moving it.handled.handled.handled
