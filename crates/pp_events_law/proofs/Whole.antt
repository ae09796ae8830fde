-- The event of a client that can be written to, from the wait on.
use Rattle.std.proofs.Common.{◌≡◌, subst, ℕ, [], ◌∷◌, Option, Some}
use Rattle.pp_cache.specs.Bounds.{IsBounded}
use Rattle.pp_desk.specs.declared.desk.Desk.{Desk}
use Rattle.pp_events_law.proofs.Alike.{AreAlike}
use Rattle.pp_events_law.proofs.ReadyBehind.{given_on}
use Rattle.pp_events_law.proofs.Woken.{client_writes, woken_alike}
use Rattle.pp_events_law.specs.Ready.{HasLedReady, HasLedReadyBehind}
use Rattle.pp_events_law.specs.Stands.{AreReadyAt, StandsAtEvent, come}
use Rattle.pp_events_law.specs.Woken.{IsOwed}
use Rattle.pp_law.specs.After.{event, owing}
use Rattle.pp_law.specs.State.{State, Awaiting, Free, WriteTo}
use Rattle.pp_laws_turn.specs.SoundTurn.{IsSoundTurn}
use Rattle.pp_obeys.proofs.Moving.{lead_joined}
use Rattle.pp_proxy.specs.Handling.{SaysAt, Wakes, WritesAt, WritesBy}
use Rattle.pp_proxy.specs.Moving.{Turning, at_desk}
use Rattle.pp_seats.specs.declared.seat.Seat.{Seat}
use Rattle.pp_state.specs.Ends.{numbers_of, parts, place_of}
use Rattle.pp_world.specs.declared.event.Event.TheVariants.{Writable}
use Rattle.pp_world.specs.declared.happening.Happening.TheVariants.{CanWrite}
use Rattle.pp_events_law.proofs.Sayings.{sayings_lead}
use Rattle.pp_events_law.specs.Says.{MaySay}
use Rattle.pp_events_law.specs.Sayable.{ClientWritesLead}

module _ (number : ℕ → ℕ) (id i : ℕ) (x y : Turning) (seat : Seat) (s : State) (stands : StandsAtEvent number Awaiting Free x.moving s) (ready : AreReadyAt number x.moving s) (sound : IsSoundTurn (event (owing (WriteTo id) id s))) (place : place_of id (numbers_of x.moving.desk.state.seats.items) ≡ Some i)
    (may : (woken : Desk) → Wakes id x.moving.desk woken → MaySay id i (at_desk woken x) seat) (bounded : IsBounded y.moving.desk.state.cache) (writes : WritesAt id (come (Writable id) x) y) where
  abbrev woken : Desk
  woken = writes.woken

  abbrev v : State
  v = event (owing (WriteTo id) id s)

  abbrev next : Turning
  next = at_desk woken x

  says : SaysAt i next y
  says = subst (λ (o : Option ℕ). WritesBy o id next y) (may woken writes.wakes).place writes.writes

  owed : IsOwed number (WriteTo id) (CanWrite id) next.moving s v
  owed = client_writes number id x.moving woken s stands ready writes.wakes i place

  alike : AreAlike (parts x.moving.desk.state) (parts woken.state)
  alike = woken_alike number id x.moving woken s stands ready writes.wakes (WriteTo id)

  said : HasLedReady number next y v
  said = sayings_lead number id i next y seat v owed.stands owed.ready sound (may woken writes.wakes) bounded says

  write_whole : HasLedReadyBehind number (CanWrite id) x y s
  write_whole = record {
    led = record { log = said.led.log; then = said.led.then; told = said.led.handled.told; leads = lead_joined (CanWrite id ∷ []) said.led.log s v said.led.then owed.leads said.led.handled.leads; handled = said.led.handled.handled };
    ready = λ given. said.ready (given_on x next y alike given);
  }

pub writes_whole : ClientWritesLead
writes_whole number id i x y seat s stands ready sound place may bounded writes = write_whole number id i x y seat s stands ready sound place may bounded writes
