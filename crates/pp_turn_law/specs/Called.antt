-- From the end of a turn, over its wait, to where a read or a write is handled: of a client that is read, of one that is written to, and of an
-- origin that is asked (RFC 2616, sections 5, 6 and 8.1; the order is ours). Where the next byte of a client is on the disk alone its chunk is
-- read back before; where it cannot be, its entry is gone, and nothing is said.
--
-- Where the premises come from: as in Handled. Which connections are open is told by the log also behind the call (Links of `pp_links`, at
-- each call); and the log is told there. That there are as many chunks as are set stands at each wait (Going).
use Rattle.std.specs.Prelude.{◌≡◌, ◌≤◌, ◌⊎◌, ◌+◌, ◌++◌, ℕ, [], ◌∷◌, slice_get, Some, None}
use Rattle.pp_cache.specs.Bounds.{IsBounded}
use Rattle.pp_comes_law.specs.Origins.{IsOfOrigin}
use Rattle.pp_desk.specs.Anything.{anything}
use Rattle.pp_desk.specs.declared.desk.Desk.{Desk}
use Rattle.pp_due.specs.OnDisk.{next_on_disk}
use Rattle.pp_events_law.specs.Losses.{at_disk}
use Rattle.pp_events_law.specs.Stands.{AreReadyAt, IsHandled, come}
use Rattle.pp_evicting_law.specs.Evicting.{MayLeave}
use Rattle.pp_joints_law.specs.Behind.{MayNote}
use Rattle.pp_joints_law.specs.BehindReads.{IsTold}
use Rattle.pp_joints_law.specs.Carried.{IsCarried}
use Rattle.pp_joints_law.specs.Loading.{NoneHasToLeave}
use Rattle.pp_law.specs.Lists.{Bytes}
use Rattle.pp_law.specs.State.{State}
use Rattle.pp_laws_sides.specs.Counts.{IsShortLog}
use Rattle.pp_links.specs.Links.{IsLinked}
use Rattle.pp_obeys.specs.Obeys.{Allows, Life, Obeys}
use Rattle.pp_proxy.specs.Awaiting.{Standing}
use Rattle.pp_proxy.specs.Handling.{Handles}
use Rattle.pp_proxy.specs.Moving.{Turning}
use Rattle.pp_seats.specs.declared.seat.Next.{Next}
use Rattle.pp_seats.specs.declared.seat.Seat.{Seat}
use Rattle.pp_state.specs.Ends.{numbers_of, place_of}
use Rattle.pp_store.specs.Held.{Holds}
use Rattle.pp_target.specs.Name.{name_of}
use Rattle.pp_turn_law.specs.Awaited.{awaiting}
use Rattle.pp_turn_law.specs.Handled.{IsHandledOn, Turns}
use Rattle.pp_turn_law.specs.Supplied.{StandsGiven}
use Rattle.pp_world.specs.Log.{Log, Told}
use Rattle.pp_world.specs.declared.event.Event.{Event}
use Rattle.pp_world.specs.declared.event.Event.TheVariants.{Readable, Writable}
use Rattle.pp_world.specs.declared.event.Wants.{Wants}
use Rattle.pp_world.specs.declared.happening.Happening.TheVariants.{CanWrite, Noted, Unread, Waits}
use Rattle.pp_world.specs.declared.note.Remark.TheVariants.{Gone}

pub record Calls (life : Life) (budget : ℕ) (log : Log) (w : Wants) (event : Event) (x : Standing) (f : Desk) (all : Log) (faults : ℕ) (y : Turning) (s : State) : Type 0 where
  pub turns : Turns life budget log w event x f all faults y s
  pub handles : Handles event (come event (awaiting x f all faults)) y
  pub told : IsTold y
  pub linked : IsLinked y.log y.moving.top y.moving.links

-- at this place
abbrev pub ClientReadsAreHandled : Type 0
ClientReadsAreHandled = (id i : ℕ) (life : Life) (budget : ℕ) (log : Log) (w : Wants) (x : Standing) (f : Desk) (all : Log) (faults : ℕ) (y : Turning) (s : State) → place_of id (numbers_of f.state.seats.items) ≡ Some i → Calls life budget log w (Readable id) x f all faults y s → IsHandledOn life budget log w (Readable id) y

abbrev pub OriginWritesAreHandled : Type 0
OriginWritesAreHandled = (k : ℕ) (life : Life) (budget : ℕ) (log : Log) (w : Wants) (x : Standing) (f : Desk) (all : Log) (faults : ℕ) (y : Turning) (s : State) → IsOfOrigin k (awaiting x f all faults) → Calls life budget log w (Writable k) x f all faults y s → MayNote (awaiting x f all faults).moving
    → IsHandledOn life budget log w (Writable k) y

-- its next byte is not on the disk alone; the log is not too long with the wait
abbrev pub ClientWritesAreHandled : Type 0
ClientWritesAreHandled = (id i : ℕ) (seat : Seat) (life : Life) (budget : ℕ) (log : Log) (w : Wants) (x : Standing) (f : Desk) (all : Log) (faults : ℕ) (y : Turning) (s : State) → place_of id (numbers_of f.state.seats.items) ≡ Some i → slice_get f.state.seats.items i ≡ Some seat → next_on_disk f.state seat ≡ None
    → IsShortLog (log ++ Waits w ∷ []) → Calls life budget log w (Writable id) x f all faults y s → IsHandledOn life budget log w (Writable id) y

-- ---- its next byte is on the disk alone

pub record StandsToLoad (life : Life) (budget : ℕ) (x : Standing) (y : Turning) (s : State) : Type 0 where
  -- TurnsOn of `pp_proxy`
  pub holds : Told x.turning.log (Holds anything x.turning.shelf)
  -- at each wait: StandsOn of Going
  pub bounded : IsBounded x.turning.moving.desk.state.cache
  pub size : x.turning.moving.desk.state.cache.size ≡ s.settings.critical
  -- no more often than the life may have
  pub few : y.faults ≤ budget + life.base

-- what was added with the wait: the write, the read that failed, and that the entry is gone
abbrev pub lost_log : Log → Wants → ℕ → Bytes → Log
lost_log log w id key = log ++ (Waits w ∷ CanWrite id ∷ Unread (name_of key) ∷ Noted (Gone key) ∷ [])

-- the chunk could not be read: the law goes on at the disk, as Handling and Evicting are left without a happening, and the turn shows its state
-- as it is before that, without the entry. There nothing has to leave memory
pub record IsLostOn (life : Life) (budget : ℕ) (log : Log) (w : Wants) (id : ℕ) (y : Turning) : Type 0 where
  pub key : Bytes
  pub number : ℕ → ℕ
  pub then : State
  pub told : y.log ≡ Some (lost_log log w id key)
  pub obeys : Obeys (life.terms budget) (at_disk then) (lost_log log w id key)
  pub allows : Allows life budget y.faults (at_disk then)
  pub handled : IsHandled number y.moving then
  pub ready : AreReadyAt number y.moving then
  pub none : NoneHasToLeave then
  pub may : MayLeave y.moving handled.handled
  pub carried : IsCarried y.shelf y.moving handled.handled
  pub supplied : StandsGiven y.moving.desk.state handled.handled

abbrev pub ClientLoadsAreHandled : Type 0
ClientLoadsAreHandled = (id i : ℕ) (seat : Seat) (next : Next) (life : Life) (budget : ℕ) (log : Log) (w : Wants) (x : Standing) (f : Desk) (all : Log) (faults : ℕ) (y : Turning) (s : State) → place_of id (numbers_of f.state.seats.items) ≡ Some i → slice_get f.state.seats.items i ≡ Some seat → next_on_disk f.state seat ≡ Some next
    → IsShortLog (log ++ Waits w ∷ []) → Calls life budget log w (Writable id) x f all faults y s → StandsToLoad life budget x y s → IsHandledOn life budget log w (Writable id) y ⊎ IsLostOn life budget log w id y
