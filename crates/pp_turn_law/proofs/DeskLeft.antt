-- Over each event but Stop it stays whether all stops, and the file that entries are laid out in is the same.
use Rattle.std.proofs.Common.{◌≡◌, inl, inr, refl, ap, ◌∙◌, ℕ, true, false, take, List, [], length, Option, Some, None, Ok, Err}
use Rattle.std.specs.Prelude.{option_and_then, slice_get}
use Rattle.pp_desk.specs.Calls.{Found}
use Rattle.pp_desk.specs.Closings.{KeepsDesk, Sides}
use Rattle.pp_desk.specs.declared.desk.Desk.{Desk}
use Rattle.pp_due.specs.OnDisk.{next_on_disk}
use Rattle.pp_objects.specs.Instances.{Instance}
use Rattle.pp_links.specs.Links.{Link}
use Rattle.pp_objects.specs.declared.id.ObjectId.{ObjectId}
use Rattle.pp_origins.specs.Gots.{Both, EndsBehind, IsReceived, Receives, both, remaining}
use Rattle.pp_origins.specs.Responses.{origin_gone}
use Rattle.pp_proxy.specs.Accepting.{IsAccepted}
use Rattle.pp_proxy.specs.Handling.{Handles, ReadsBy, Rouses, Wakes, WritesBy}
use Rattle.pp_proxy.specs.Moving.{Turning, at_desk}
use Rattle.pp_reads_law.proofs.StayReads.{reads_stay}
use Rattle.pp_reads_law.specs.Keys.{HasRoomForData}
use Rattle.pp_seats.specs.declared.seat.Next.{Next}
use Rattle.pp_state.specs.Bringing.{instance_of}
use Rattle.pp_state.specs.Ends.{numbers_of, place_of}
use Rattle.pp_state.specs.declared.state.State.{State}
use Rattle.pp_store.specs.Kept.{KeptMap}
use Rattle.pp_talk.specs.Loading.{Answer, LoadsOf, LoadsWhere, TakesChunk, chunk_at}
use Rattle.pp_world.specs.Log.{Log}
use Rattle.pp_world.specs.declared.event.Event.{Event}
use Rattle.pp_world.specs.declared.event.Event.TheVariants.{Stop, Tick, Accepted, Readable, Writable, Reached, Broken}
use Rattle.pp_world.specs.declared.event.Got.TheVariants.{Bytes, End as Ended, NotYet}
use Rattle.pp_turn_law.proofs.DeskOn.{woken_room}

pub record StaysSo (old new : Desk) : Type 0 where
  pub stopped : new.state.is_stopped ≡ old.state.is_stopped
  pub file : new.file ≡ old.file

as_same : (old new : Desk) → new.state.is_stopped ≡ old.state.is_stopped → new.file ≡ old.file → StaysSo old new
as_same old new stopped file = record { stopped = stopped; file = file }

set_then : (a b c : Desk) → StaysSo a b → StaysSo b c → StaysSo a c
set_then a b c one two = record { stopped = two.stopped ∙ one.stopped; file = two.file ∙ one.file }

kept : (old new : Desk) → KeepsDesk old new → StaysSo old new
kept old new is = as_same old new (ap (λ (d : Desk). d.state.is_stopped) is) (ap (λ (d : Desk). d.file) is)

pub wakes_left : (id : ℕ) (old new : Desk) → Wakes id old new → StaysSo old new
wakes_left id old new is =
    set_then old is.anew new (as_same old is.anew (ap (λ (d : Desk). d.state.is_stopped) is.regains.rest) (ap (λ (d : Desk). d.file) is.regains.rest)) (kept is.anew new is.touches.rest)

rouses_left : (i : ℕ) (old new : Desk) → Rouses i old new → StaysSo old new
rouses_left i old new is = as_same old new (ap (λ (d : Desk). d.state.is_stopped) is.rest) (ap (λ (d : Desk). d.file) is.rest)

-- ---- a chunk that is read back

takes_stopped : (answer : Answer) (out : List ℕ) (index : ℕ) (id : ObjectId) (old new : State) → TakesChunk answer out index id old new → new.is_stopped ≡ old.is_stopped
takes_stopped None out index id old new is = ap (λ (s : State). s.is_stopped) is
takes_stopped (Some (Ok count)) out index id old new is = ap (λ (s : State). s.is_stopped) is.rest
takes_stopped (Some (Err fault)) out index id old new is = ap (λ (s : State). s.is_stopped) is

loads_stopped : (o : Option Next) (shelf : KeptMap) (s : State) (behind : KeptMap) (t : State) (old new : Option Log) (before now : ℕ) → LoadsWhere o shelf s behind t old new before now → t.is_stopped ≡ s.is_stopped
loads_stopped None shelf s behind t old new before now is = ap (λ (u : State). u.is_stopped) is.1
loads_stopped (Some next) shelf s behind t old new before now is = by (instance_of next.source s.cache.instances) (chunk_at next.at) is
  where
    by : (i : Option Instance) (index : Option ℕ) → LoadsOf next.source i index shelf s behind t old new before now → t.is_stopped ≡ s.is_stopped
    by None index stays = ap (λ (u : State). u.is_stopped) stays.1
    by (Some i) None stays = ap (λ (u : State). u.is_stopped) stays.1
    by (Some i) (Some index) loads = takes_stopped loads.answer loads.out index next.source s t loads.is

-- ---- what one read of an origin brings

ends_stopped : (made : Sides → Sides) (x y : Both) → EndsBehind made x y → y.state.is_stopped ≡ x.state.is_stopped
ends_stopped made x y is = ap (λ (s : State). s.is_stopped) is.rest

received_stopped : (found : Found) (shelf : KeptMap) (k : ℕ) (front : List ℕ) (x y : Both) → IsReceived found shelf k front x y → y.state.is_stopped ≡ x.state.is_stopped
received_stopped None shelf k front x y is = ap (λ (b : Both). b.state.is_stopped) is
received_stopped (Some (Ok (Bytes n))) shelf k front x y is = ends_stopped (λ z. z) is.0 y is.2 ∙ (reads_stay 65600 shelf k (Some (remaining (take n front) [])) x is.0 is.1).knows.stopped
received_stopped (Some (Ok Ended)) shelf k front x y is = ends_stopped (origin_gone true k) x y is
received_stopped (Some (Ok NotYet)) shelf k front x y is = ap (λ (b : Both). b.state.is_stopped) is
received_stopped (Some (Err fault)) shelf k front x y is = ends_stopped (origin_gone false k) x y is

receives_stopped : (most : ℕ) (shelf : KeptMap) (k : ℕ) (links : List Link) (x y : Both) (old new : Option Log) → Receives most shelf k links x y old new → y.state.is_stopped ≡ x.state.is_stopped
receives_stopped most shelf k links x y old new is = received_stopped is.found shelf k is.front is.begins y is.is ∙ ap (λ (s : State). s.is_stopped) is.same.rest

-- ---- each event

reads_left : (o : Option ℕ) (id : ℕ) (x y : Turning) → HasRoomForData x → ReadsBy o id x y → StaysSo x.moving.desk y.moving.desk
reads_left (Some i) id x y room is =
    set_then x.moving.desk is.roused y.moving.desk (rouses_left i x.moving.desk is.roused is.rouses)
    (as_same is.roused y.moving.desk (ap (λ (d : Desk). d.state.is_stopped) is.rest) (ap (λ (d : Desk). d.file) is.rest))
reads_left None id x y room is = record {
  stopped = receives_stopped (length x.moving.desk.buffer.items) x.shelf id x.moving.links (both x.moving.desk) (both y.moving.desk) x.log y.log (is.receives room);
  file = ap (λ (d : Desk). d.file) is.rest;
}

writes_left : (o : Option ℕ) (id : ℕ) (x y : Turning) → WritesBy o id x y → StaysSo x.moving.desk y.moving.desk
writes_left (Some i) id x y is =
    set_then x.moving.desk is.roused y.moving.desk (rouses_left i x.moving.desk is.roused is.rouses)
    (set_then is.roused is.says.loaded y.moving.desk
    (as_same is.roused is.says.loaded
    (loads_stopped (option_and_then (next_on_disk is.roused.state) (slice_get is.roused.state.seats.items i)) x.shelf is.roused.state y.shelf is.says.loaded.state x.log is.says.between x.faults is.says.count is.says.loads)
    (ap (λ (d : Desk). d.file) is.says.stays))
    (as_same is.says.loaded y.moving.desk (ap (λ (d : Desk). d.state.is_stopped) is.says.rest) (ap (λ (d : Desk). d.file) is.says.rest)))
writes_left None id x y is = record { stopped = ap (λ (d : Desk). d.state.is_stopped) is.rest; file = ap (λ (d : Desk). d.file) is.rest }

accepts_left : (c : ℕ) (old new : Desk) → IsAccepted c old new → StaysSo old new
accepts_left c old new (inl is) = as_same old new (ap (λ (d : Desk). d.state.is_stopped) is.rest) (ap (λ (d : Desk). d.file) is.rest)
accepts_left c old new (inr is) = as_same old new (ap (λ (d : Desk). d.state.is_stopped) is.rest) (ap (λ (d : Desk). d.file) is.rest)

pub events_left : (event : Event) (x y : Turning) → (event ≡ Stop → ⊥) → HasRoomForData x → Handles event x y → StaysSo x.moving.desk y.moving.desk
events_left Stop x y going room is = absurd (going refl)
events_left (Tick seconds) x y going room is = as_same x.moving.desk y.moving.desk (ap (λ (d : Desk). d.state.is_stopped) is.0.rest) (ap (λ (d : Desk). d.file) is.0.rest)
events_left (Accepted c) x y going room is = accepts_left c x.moving.desk y.moving.desk is.0
events_left (Readable id) x y going room is =
    set_then x.moving.desk is.woken y.moving.desk (wakes_left id x.moving.desk is.woken is.wakes) (reads_left (place_of id (numbers_of is.woken.state.seats.items)) id (at_desk is.woken x) y (woken_room id x is.woken is.wakes room) is.reads)
events_left (Writable id) x y going room is =
    set_then x.moving.desk is.woken y.moving.desk (wakes_left id x.moving.desk is.woken is.wakes) (writes_left (place_of id (numbers_of is.woken.state.seats.items)) id (at_desk is.woken x) y is.writes)
events_left (Reached k) x y going room is = set_then x.moving.desk is.0.woken y.moving.desk (kept x.moving.desk is.0.woken is.0.touches.rest) (kept is.0.woken y.moving.desk is.0.reaches.rest)
events_left (Broken k) x y going room is =
    set_then x.moving.desk is.0.anew y.moving.desk (as_same x.moving.desk is.0.anew (ap (λ (d : Desk). d.state.is_stopped) is.0.regains.rest) (ap (λ (d : Desk). d.file) is.0.regains.rest))
    (record { stopped = ap (λ (d : Desk). d.state.is_stopped) is.0.rest; file = ap (λ (d : Desk). d.file) is.0.rest })
