-- The event of a client that can be written to, from the wait on: attempts count anew, and it is said what is at hand (RFC 2616, section 6).
--
-- Where the premises come from: as in `Says`, of the client as it stands once it is woken (`Wakes` of pp_proxy: attempts count anew, and its
-- connection is not idle), which changes nothing that they read.
use Rattle.std.specs.Prelude.{◌≡◌, ℕ, Some}
use Rattle.pp_cache.specs.Bounds.{IsBounded}
use Rattle.pp_desk.specs.declared.desk.Desk.{Desk}
use Rattle.pp_events_law.specs.Ready.{HasLedReadyBehind}
use Rattle.pp_events_law.specs.Stands.{AreReadyAt, StandsAtEvent, come}
use Rattle.pp_law.specs.After.{event, owing}
use Rattle.pp_law.specs.State.{State, Awaiting, Free, WriteTo}
use Rattle.pp_laws_turn.specs.SoundTurn.{IsSoundTurn}
use Rattle.pp_proxy.specs.Handling.{Handles, Wakes}
use Rattle.pp_proxy.specs.Moving.{Turning, at_desk}
use Rattle.pp_seats.specs.declared.seat.Seat.{Seat}
use Rattle.pp_state.specs.Ends.{numbers_of, place_of}
use Rattle.pp_world.specs.declared.event.Event.TheVariants.{Writable}
use Rattle.pp_world.specs.declared.happening.Happening.TheVariants.{CanWrite}
use Rattle.pp_events_law.specs.Says.{MaySay}

abbrev pub ClientWritesLead : Type 0
ClientWritesLead = (number : ℕ → ℕ) (id i : ℕ) (x y : Turning) (seat : Seat) (s : State) → StandsAtEvent number Awaiting Free x.moving s → AreReadyAt number x.moving s → IsSoundTurn (event (owing (WriteTo id) id s)) → place_of id (numbers_of x.moving.desk.state.seats.items) ≡ Some i
    → ((woken : Desk) → Wakes id x.moving.desk woken → MaySay id i (at_desk woken x) seat) → IsBounded y.moving.desk.state.cache → Handles (Writable id) (come (Writable id) x) y → HasLedReadyBehind number (CanWrite id) x y s
