-- The event of a client that can be read, whole: attempts count anew, it is read, and replies that are over end (RFC 2616, section 5).
--
-- Where the premises come from: as in `Hears`, of the client as it stands at the wait.
use Rattle.std.specs.Prelude.{ℕ}
use Rattle.pp_cache.specs.Bounds.{IsBounded}
use Rattle.pp_law.specs.After.{event, owing}
use Rattle.pp_law.specs.State.{State, Awaiting, Free, ReadOf}
use Rattle.pp_laws_turn.specs.SoundTurn.{IsSoundTurn}
use Rattle.pp_proxy.specs.Handling.{Handles}
use Rattle.pp_proxy.specs.Moving.{Turning}
use Rattle.pp_seats.specs.declared.seat.Seat.{Seat}
use Rattle.pp_world.specs.declared.event.Event.TheVariants.{Readable}
use Rattle.pp_world.specs.declared.happening.Happening.TheVariants.{CanRead}
use Rattle.pp_events_law.specs.Hears.{MayHear}
use Rattle.pp_events_law.specs.Ready.{HasLedReadyBehind}
use Rattle.pp_events_law.specs.Stands.{AreReadyAt, StandsAtEvent, come}

abbrev pub ClientReadsLead : Type 0
ClientReadsLead = (number : ℕ → ℕ) (id i : ℕ) (x y : Turning) (seat : Seat) (s : State) → StandsAtEvent number Awaiting Free x.moving s → AreReadyAt number x.moving s → IsSoundTurn (event (owing (ReadOf id) id s)) → MayHear id i x seat → IsBounded y.moving.desk.state.cache
    → Handles (Readable id) (come (Readable id) x) y → HasLedReadyBehind number (CanRead id) x y s
