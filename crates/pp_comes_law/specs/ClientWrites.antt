-- A client that can be written to, as it was waited for, is handled as the law has it (RFC 2616, section 6): it is said what is at hand; where
-- its next byte is on the disk alone, the chunk is read back before, or cannot be read.
--
-- Where the premises come from: as in Awaited; that the log is not too long is Counts of `pp_laws_sides`. Those of the disk are carried
-- (IsCarried of `pp_joints_law`, ToLoad of `pp_events_law`).
use Rattle.std.specs.Prelude.{◌≡◌, ◌⊎◌, ℕ, false, List, [], ◌∷◌, slice_get, Some, None}
use Rattle.pp_cache.specs.Bounds.{IsBounded}
use Rattle.pp_desk.specs.Anything.{anything}
use Rattle.pp_desk.specs.declared.desk.Desk.{Desk}
use Rattle.pp_due.specs.OnDisk.{next_on_disk}
use Rattle.pp_events_law.specs.Loads.{HasLostChunk}
use Rattle.pp_events_law.specs.Losses.{without_entry}
use Rattle.pp_events_law.specs.Stands.{AreReadyAt, come}
use Rattle.pp_events_law.specs.ToLoad.{StandsOnDisk}
use Rattle.pp_law.specs.After.{event, owing}
use Rattle.pp_law.specs.State.{State, Term, WriteTo}
use Rattle.pp_law.specs.Turn.{rest_with}
use Rattle.pp_laws_sides.specs.Counts.{IsShortLog}
use Rattle.pp_obeys.specs.Moves.{Leads}
use Rattle.pp_proxy.specs.Handling.{Handles, Wakes}
use Rattle.pp_proxy.specs.Moving.{Turning}
use Rattle.pp_seats.specs.declared.seat.Next.{Next}
use Rattle.pp_seats.specs.declared.seat.Seat.{Seat}
use Rattle.pp_state.specs.Ends.{numbers_of, place_of}
use Rattle.pp_store.specs.Held.{Holds}
use Rattle.pp_world.specs.Log.{Log, Told}
use Rattle.pp_world.specs.declared.event.Event.TheVariants.{Writable}
use Rattle.pp_world.specs.declared.event.Wants.{Wants}
use Rattle.pp_world.specs.declared.happening.Happening.TheVariants.{CanWrite}
use Rattle.pp_comes_law.specs.Awaited.{HasComeTo, IsAwaited, IsHandledBehind}

-- ---- a client that was waited for to be written to

-- it is this one, at this place
pub record CanBeWritten (id i : ℕ) (seat : Seat) (log : Log) (w : Wants) (x : Turning) : Type 0 where
  pub place : place_of id (numbers_of x.moving.desk.state.seats.items) ≡ Some i
  pub here : slice_get x.moving.desk.state.seats.items i ≡ Some seat
  pub came : HasComeTo log w (Writable id) x
  pub short : IsShortLog log

-- where a write is owed to it
abbrev pub at_write : ℕ → State → State
at_write id s = event (owing (WriteTo id) id s)

-- ---- once it is woken

-- it is this one, and its next byte is where it was
pub record IsWokenAs (id i : ℕ) (seat : Seat) (x : Turning) : Type 0 where
  pub new : Seat
  pub here : (woken : Desk) → Wakes id x.moving.desk woken → slice_get woken.state.seats.items i ≡ Some new
  pub next : (woken : Desk) → Wakes id x.moving.desk woken → next_on_disk woken.state new ≡ next_on_disk x.moving.desk.state seat

-- whichever way it is
abbrev pub WrittenOnesWake : Type 0
WrittenOnesWake = (id i : ℕ) (seat : Seat) (terms : List Term) (log : Log) (number : ℕ → ℕ) (w : Wants) (x y : Turning) (u : State) → IsAwaited terms log number w x u → CanBeWritten id i seat log w x → Handles (Writable id) (come (Writable id) x) y → IsWokenAs id i seat x

-- ---- its next byte is not on the disk alone

abbrev pub ClientWritesCome : Type 0
ClientWritesCome = (id i : ℕ) (seat : Seat) (terms : List Term) (log : Log) (number : ℕ → ℕ) (w : Wants) (x y : Turning) (u : State) → IsAwaited terms log number w x u → CanBeWritten id i seat log w x → next_on_disk x.moving.desk.state seat ≡ None → Handles (Writable id) (come (Writable id) x) y
    → IsBounded y.moving.desk.state.cache → y.moving.desk.state.is_astray ≡ false → IsHandledBehind number (Writable id) x y (rest_with w u)

-- ---- it is

pub record CanBeLoaded (x y : Turning) (s : State) : Type 0 where
  pub disk : StandsOnDisk x.shelf s
  pub holds : Told x.log (Holds anything x.shelf)
  -- from the opening on (Opening.`IsNew` of `pp_desk`): so there is room for the chunk (Room of `pp_laws_room`)
  pub size : x.moving.desk.state.cache.size ≡ s.settings.critical
  -- behind it the log is told
  pub log : Log
  pub told : y.log ≡ Some log

-- the chunk could not be read: nothing is said, and each client that goes on can be decided
pub record IsLostBehind (number : ℕ → ℕ) (id : ℕ) (x y : Turning) (s : State) : Type 0 where
  pub leads : Leads (CanWrite id ∷ []) s (at_write id s)
  pub lost : HasLostChunk number x y (at_write id s)
  pub ready : AreReadyAt number y.moving (without_entry lost.key (at_write id s))

abbrev pub ClientLoadsCome : Type 0
ClientLoadsCome = (id i : ℕ) (seat : Seat) (next : Next) (terms : List Term) (log : Log) (number : ℕ → ℕ) (w : Wants) (x y : Turning) (u : State) → IsAwaited terms log number w x u → CanBeWritten id i seat log w x → next_on_disk x.moving.desk.state seat ≡ Some next → CanBeLoaded x y (rest_with w u) → Handles (Writable id) (come (Writable id) x) y
    → IsBounded y.moving.desk.state.cache → y.moving.desk.state.is_astray ≡ false → IsHandledBehind number (Writable id) x y (rest_with w u) ⊎ IsLostBehind number id x y (rest_with w u)
