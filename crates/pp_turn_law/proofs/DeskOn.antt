-- What an event leaves of a desk: the name of the proxy, and room for what one read brings.
use Rattle.std.proofs.Common.{◌≡◌, ◌≤◌, inl, inr, sym, subst, ap, ◌∙◌, le_refl, le_trans, ℕ, true, false, take, List, [], length, Option, Some, None, Ok, Err}
use Rattle.std.specs.Prelude.{option_and_then, slice_get, vec_capacity}
use Rattle.pp_desk.specs.Calls.{Found}
use Rattle.pp_desk.specs.Closings.{KeepsDesk, Sides}
use Rattle.pp_desk.specs.declared.desk.Desk.{Desk}
use Rattle.pp_due.specs.OnDisk.{next_on_disk}
use Rattle.pp_objects.specs.Instances.{Instance}
use Rattle.pp_links.specs.Links.{Link}
use Rattle.pp_objects.specs.declared.id.ObjectId.{ObjectId}
use Rattle.pp_origins.specs.Gots.{Both, EndsBehind, IsReceived, Receives, both, remaining}
use Rattle.pp_origins.specs.Responses.{origin_gone}
use Rattle.pp_proxy.specs.Accepting.{IsAccepted}
use Rattle.pp_proxy.specs.Awaiting.{Awaits, Rests}
use Rattle.pp_proxy.specs.Handling.{Handles, ReadsBy, Rouses, Wakes, WritesBy}
use Rattle.pp_proxy.specs.Moving.{Turning, at_desk}
use Rattle.pp_reads_law.proofs.StayReads.{reads_stay}
use Rattle.pp_reads_law.specs.Keys.{HasRoomForData}
use Rattle.pp_seats.specs.declared.seat.Next.{Next}
use Rattle.pp_state.specs.Bringing.{instance_of}
use Rattle.pp_state.specs.Ends.{numbers_of, place_of}
use Rattle.pp_state.specs.declared.state.State.{State}
use Rattle.pp_store.specs.Kept.{KeptMap}
use Rattle.pp_talk.specs.Loading.{Answer, LoadsOf, LoadsWhere, TakesChunk, chunk_at}
use Rattle.pp_world.specs.Log.{Log}
use Rattle.pp_world.specs.declared.event.Event.{Event}
use Rattle.pp_world.specs.declared.event.Event.TheVariants.{Stop, Tick, Accepted, Readable, Writable, Reached, Broken}
use Rattle.pp_world.specs.declared.event.Got.TheVariants.{Bytes, End as Ended, NotYet}
use Rattle.pp_world.specs.declared.event.Wants.{Wants}

pub record StaysSet (old new : Desk) : Type 0 where
  pub name : new.state.name.items ≡ old.state.name.items
  pub room : vec_capacity old.«data» ≤ vec_capacity new.«data»

-- all of it is the same
as_same : (old new : Desk) → new.state.name.items ≡ old.state.name.items → vec_capacity new.«data» ≡ vec_capacity old.«data» → StaysSet old new
as_same old new name room = record { name = name; room = subst (λ (n : ℕ). vec_capacity old.«data» ≤ n) (sym room) (le_refl (vec_capacity old.«data»)) }

set_then : (a b c : Desk) → StaysSet a b → StaysSet b c → StaysSet a c
set_then a b c one two = record { name = two.name ∙ one.name; room = le_trans one.room two.room }

kept : (old new : Desk) → KeepsDesk old new → StaysSet old new
kept old new is = as_same old new (ap (λ (d : Desk). d.state.name.items) is) (ap (λ (d : Desk). vec_capacity d.«data») is)

pub wakes_set : (id : ℕ) (old new : Desk) → Wakes id old new → StaysSet old new
wakes_set id old new is =
    set_then old is.anew new (as_same old is.anew (ap (λ (d : Desk). d.state.name.items) is.regains.rest) (ap (λ (d : Desk). vec_capacity d.«data») is.regains.rest)) (kept is.anew new is.touches.rest)

rouses_set : (i : ℕ) (old new : Desk) → Rouses i old new → StaysSet old new
rouses_set i old new is = as_same old new (ap (λ (d : Desk). d.state.name.items) is.rest) (ap (λ (d : Desk). vec_capacity d.«data») is.rest)

-- ---- a chunk that is read back

takes_name : (answer : Answer) (out : List ℕ) (index : ℕ) (id : ObjectId) (old new : State) → TakesChunk answer out index id old new → new.name.items ≡ old.name.items
takes_name None out index id old new is = ap (λ (s : State). s.name.items) is
takes_name (Some (Ok count)) out index id old new is = ap (λ (s : State). s.name.items) is.rest
takes_name (Some (Err fault)) out index id old new is = ap (λ (s : State). s.name.items) is

loads_name : (o : Option Next) (shelf : KeptMap) (s : State) (behind : KeptMap) (t : State) (old new : Option Log) (before now : ℕ) → LoadsWhere o shelf s behind t old new before now → t.name.items ≡ s.name.items
loads_name None shelf s behind t old new before now is = ap (λ (u : State). u.name.items) is.1
loads_name (Some next) shelf s behind t old new before now is = by (instance_of next.source s.cache.instances) (chunk_at next.at) is
  where
    by : (i : Option Instance) (index : Option ℕ) → LoadsOf next.source i index shelf s behind t old new before now → t.name.items ≡ s.name.items
    by None index stays = ap (λ (u : State). u.name.items) stays.1
    by (Some i) None stays = ap (λ (u : State). u.name.items) stays.1
    by (Some i) (Some index) loads = takes_name loads.answer loads.out index next.source s t loads.is

-- ---- what one read of an origin brings

ends_name : (made : Sides → Sides) (x y : Both) → EndsBehind made x y → y.state.name.items ≡ x.state.name.items
ends_name made x y is = ap (λ (s : State). s.name.items) is.rest

received_name : (found : Found) (shelf : KeptMap) (k : ℕ) (front : List ℕ) (x y : Both) → IsReceived found shelf k front x y → y.state.name.items ≡ x.state.name.items
received_name None shelf k front x y is = ap (λ (b : Both). b.state.name.items) is
received_name (Some (Ok (Bytes n))) shelf k front x y is = ends_name (λ z. z) is.0 y is.2 ∙ (reads_stay 65600 shelf k (Some (remaining (take n front) [])) x is.0 is.1).knows.name
received_name (Some (Ok Ended)) shelf k front x y is = ends_name (origin_gone true k) x y is
received_name (Some (Ok NotYet)) shelf k front x y is = ap (λ (b : Both). b.state.name.items) is
received_name (Some (Err fault)) shelf k front x y is = ends_name (origin_gone false k) x y is

receives_name : (most : ℕ) (shelf : KeptMap) (k : ℕ) (links : List Link) (x y : Both) (old new : Option Log) → Receives most shelf k links x y old new → y.state.name.items ≡ x.state.name.items
receives_name most shelf k links x y old new is = received_name is.found shelf k is.front is.begins y is.is ∙ ap (λ (s : State). s.name.items) is.same.rest

-- ---- each event

reads_set : (o : Option ℕ) (id : ℕ) (x y : Turning) → HasRoomForData x → ReadsBy o id x y → StaysSet x.moving.desk y.moving.desk
reads_set (Some i) id x y room is =
    set_then x.moving.desk is.roused y.moving.desk (rouses_set i x.moving.desk is.roused is.rouses)
    (as_same is.roused y.moving.desk (ap (λ (d : Desk). d.state.name.items) is.rest) (ap (λ (d : Desk). vec_capacity d.«data») is.rest))
reads_set None id x y room is = record {
  name = receives_name (length x.moving.desk.buffer.items) x.shelf id x.moving.links (both x.moving.desk) (both y.moving.desk) x.log y.log (is.receives room);
  room = is.room;
}

writes_set : (o : Option ℕ) (id : ℕ) (x y : Turning) → WritesBy o id x y → StaysSet x.moving.desk y.moving.desk
writes_set (Some i) id x y is =
    set_then x.moving.desk is.roused y.moving.desk (rouses_set i x.moving.desk is.roused is.rouses)
    (set_then is.roused is.says.loaded y.moving.desk
    (as_same is.roused is.says.loaded
    (loads_name (option_and_then (next_on_disk is.roused.state) (slice_get is.roused.state.seats.items i)) x.shelf is.roused.state y.shelf is.says.loaded.state x.log is.says.between x.faults is.says.count is.says.loads)
    (ap (λ (d : Desk). vec_capacity d.«data») is.says.stays))
    (as_same is.says.loaded y.moving.desk (ap (λ (d : Desk). d.state.name.items) is.says.rest) (ap (λ (d : Desk). vec_capacity d.«data») is.says.rest)))
writes_set None id x y is = record { name = ap (λ (d : Desk). d.state.name.items) is.rest; room = is.room }

accepts_set : (c : ℕ) (old new : Desk) → IsAccepted c old new → StaysSet old new
accepts_set c old new (inl is) = as_same old new (ap (λ (d : Desk). d.state.name.items) is.rest) (ap (λ (d : Desk). vec_capacity d.«data») is.rest)
accepts_set c old new (inr is) = as_same old new (ap (λ (d : Desk). d.state.name.items) is.rest) (ap (λ (d : Desk). vec_capacity d.«data») is.rest)

pub woken_room : (id : ℕ) (x : Turning) (woken : Desk) → Wakes id x.moving.desk woken → HasRoomForData x → HasRoomForData (at_desk woken x)
woken_room id x woken wakes room =
    le_trans (subst (λ (n : ℕ). n ≤ vec_capacity x.moving.desk.«data») (sym (ap (λ (d : Desk). length d.buffer.items) wakes.touches.rest ∙ ap (λ (d : Desk). length d.buffer.items) wakes.regains.rest)) room) (wakes_set id x.moving.desk woken wakes).room

pub events_set : (event : Event) (x y : Turning) → HasRoomForData x → Handles event x y → StaysSet x.moving.desk y.moving.desk
events_set Stop x y room is = as_same x.moving.desk y.moving.desk (ap (λ (d : Desk). d.state.name.items) is.0.rest) (ap (λ (d : Desk). vec_capacity d.«data») is.0.rest)
events_set (Tick seconds) x y room is = as_same x.moving.desk y.moving.desk (ap (λ (d : Desk). d.state.name.items) is.0.rest) (ap (λ (d : Desk). vec_capacity d.«data») is.0.rest)
events_set (Accepted c) x y room is = accepts_set c x.moving.desk y.moving.desk is.0
events_set (Readable id) x y room is =
    set_then x.moving.desk is.woken y.moving.desk (wakes_set id x.moving.desk is.woken is.wakes) (reads_set (place_of id (numbers_of is.woken.state.seats.items)) id (at_desk is.woken x) y (woken_room id x is.woken is.wakes room) is.reads)
events_set (Writable id) x y room is =
    set_then x.moving.desk is.woken y.moving.desk (wakes_set id x.moving.desk is.woken is.wakes) (writes_set (place_of id (numbers_of is.woken.state.seats.items)) id (at_desk is.woken x) y is.writes)
events_set (Reached k) x y room is = set_then x.moving.desk is.0.woken y.moving.desk (kept x.moving.desk is.0.woken is.0.touches.rest) (kept is.0.woken y.moving.desk is.0.reaches.rest)
events_set (Broken k) x y room is =
    set_then x.moving.desk is.0.anew y.moving.desk (as_same x.moving.desk is.0.anew (ap (λ (d : Desk). d.state.name.items) is.0.regains.rest) (ap (λ (d : Desk). vec_capacity d.«data») is.0.regains.rest))
    (record { name = ap (λ (d : Desk). d.state.name.items) is.0.rest; room = is.0.room })

-- ---- and a wait all of it

pub waits_set : (before : List ℕ) (wants : Wants) (clients : ℕ) (d e f : Desk) → Awaits before wants clients d e → Rests wants clients e f → StaysSet d f
waits_set before wants clients d e f awaits rests =
    set_then d e f (as_same d e (ap (λ (c : Desk). c.state.name.items) awaits.rest) (ap (λ (c : Desk). vec_capacity c.«data») awaits.rest))
    (as_same e f (ap (λ (c : Desk). c.state.name.items) rests.rest) (ap (λ (c : Desk). vec_capacity c.«data») rests.rest))
