-- What is carried stands behind the read of a client, behind a write to one for which nothing is read back before, behind the write to an
-- origin, and where its connection breaks (ours).
--
-- Where the premises come from: as in `Behind`; and those of who is read and written to as in Readable, Sayable, Writable and Breaks of
-- `pp_events_law`. The log is told behind the event, and before it says whose each connection is (Links of `pp_links`, at each call).
use Rattle.std.specs.Prelude.{◌≡◌, ℕ, false, List, slice_get, Some, None}
use Rattle.pp_desk.specs.declared.desk.Desk.{Desk}
use Rattle.pp_due.specs.OnDisk.{next_on_disk}
use Rattle.pp_events_law.specs.Silent.{IsSilentlyHandled}
use Rattle.pp_events_law.specs.Stands.{HasLedBehind, come}
use Rattle.pp_joints_law.specs.Behind.{CarriesOn, HasFew, MayNote, StandsBefore}
use Rattle.pp_law.specs.After.{event, gone, paid}
use Rattle.pp_law.specs.Connections.{conn}
use Rattle.pp_law.specs.State.{State, Conn, Term}
use Rattle.pp_links.specs.Links.{IsLinked}
use Rattle.pp_proxy.specs.Handling.{Handles, Wakes}
use Rattle.pp_proxy.specs.Moving.{Turning}
use Rattle.pp_seats.specs.declared.seat.Seat.{Seat}
use Rattle.pp_state.specs.Ends.{numbers_of, place_of}
use Rattle.pp_store.specs.Kept.{KeptMap}
use Rattle.pp_world.specs.Log.{Log}
use Rattle.pp_world.specs.declared.event.Event.TheVariants.{Broken, Readable, Writable}
use Rattle.pp_world.specs.declared.happening.Happening.TheVariants.{Broke, CanRead, CanWrite}

-- the log is told
pub record IsTold (y : Turning) : Type 0 where
  pub log : Log
  pub told : y.log ≡ Some log

-- ---- of clients

abbrev pub ClientReadsCarry : Type 0
ClientReadsCarry = (terms : List Term) (log : Log) (number : ℕ → ℕ) (shelf : KeptMap) (id i : ℕ) (x y : Turning) (s : State) → StandsBefore terms log number shelf x.moving s → place_of id (numbers_of x.moving.desk.state.seats.items) ≡ Some i → IsLinked x.log x.moving.top x.moving.links → IsTold y
    → Handles (Readable id) (come (Readable id) x) y → HasFew y.moving → (it : HasLedBehind number (CanRead id) x y s) → CarriesOn shelf y.moving it.handled.handled

-- its next byte is not on the disk alone
pub record HoldsNext (id i : ℕ) (x : Turning) (seat : Seat) : Type 0 where
  pub place : place_of id (numbers_of x.moving.desk.state.seats.items) ≡ Some i
  -- once it is woken
  pub here : (woken : Desk) → Wakes id x.moving.desk woken → slice_get woken.state.seats.items i ≡ Some seat
  pub held : (woken : Desk) → Wakes id x.moving.desk woken → next_on_disk woken.state seat ≡ None

abbrev pub ClientWritesCarry : Type 0
ClientWritesCarry = (terms : List Term) (log : Log) (number : ℕ → ℕ) (shelf : KeptMap) (id i : ℕ) (x y : Turning) (seat : Seat) (s : State) → StandsBefore terms log number shelf x.moving s → HoldsNext id i x seat → IsTold y
    → Handles (Writable id) (come (Writable id) x) y → HasFew y.moving → (it : HasLedBehind number (CanWrite id) x y s) → CarriesOn shelf y.moving it.handled.handled

-- ---- of origins

abbrev pub OriginWritesCarry : Type 0
OriginWritesCarry = (terms : List Term) (log : Log) (number : ℕ → ℕ) (shelf : KeptMap) (k : ℕ) (x y : Turning) (s : State) (j : Conn) → StandsBefore terms log number shelf x.moving s → conn s k ≡ Some j → IsTold y
    → Handles (Writable k) (come (Writable k) x) y → HasFew y.moving → MayNote x.moving → (it : HasLedBehind number (CanWrite k) x y s) → CarriesOn shelf y.moving it.handled.handled

abbrev pub BreaksCarry : Type 0
BreaksCarry = (terms : List Term) (log : Log) (number : ℕ → ℕ) (shelf : KeptMap) (k : ℕ) (x y : Turning) (s : State) → StandsBefore terms log number shelf x.moving s → Handles (Broken k) (come (Broken k) x) y → HasFew y.moving → MayNote x.moving
    → (it : IsSilentlyHandled number (Broke k) y s (paid (gone false k (event s)))) → CarriesOn shelf y.moving it.handled.handled
