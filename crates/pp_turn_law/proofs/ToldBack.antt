-- Where a log is told behind an event, it was before.
use Rattle.std.proofs.Common.{◌≡◌, ◌≤◌, sym, subst, ap, ◌∙◌, ℕ, List, ◌++◌, Option, Some, None}
use Rattle.std.specs.Prelude.{length, slice_get, vec_capacity}
use Rattle.std.specs.List.{find}
use Rattle.std.specs.Option.{option_and_then}
use Rattle.pp_desk.specs.Closings.{Sides, sides}
use Rattle.pp_desk.specs.declared.desk.Desk.{Desk}
use Rattle.pp_due.specs.OnDisk.{next_on_disk}
use Rattle.pp_links.specs.Links.{Link}
use Rattle.pp_objects.specs.Instances.{Instance}
use Rattle.pp_origins.specs.Asked.{AsksBy, BodyIsAsked, TextIsAsked}
use Rattle.pp_peers.specs.Peers.{is_number}
use Rattle.pp_peers.specs.declared.peers.Peer.{Peer}
use Rattle.pp_proxy.specs.Handling.{Handles, ReadsBy, Wakes, WritesBy}
use Rattle.pp_proxy.specs.Moving.{Turning, at_desk}
use Rattle.pp_seats.specs.declared.seat.Next.{Next}
use Rattle.pp_seats.specs.declared.seat.Seat.{Seat}
use Rattle.pp_state.specs.Asking.{asking}
use Rattle.pp_state.specs.Bringing.{instance_of}
use Rattle.pp_state.specs.Ends.{numbers_of, place_of}
use Rattle.pp_state.specs.declared.asking.Asking.{Asking}
use Rattle.pp_state.specs.declared.asking.Asking.TheVariants.{Body, Text}
use Rattle.pp_state.specs.declared.state.State.{State as Turn}
use Rattle.pp_store.specs.Kept.{KeptMap}
use Rattle.pp_talk.specs.Loading.{LoadsOf, LoadsWhere, chunk_at}
use Rattle.pp_talk.specs.Talking.{IsReadAt, IsWrittenAt}
use Rattle.pp_world.specs.Log.{AppendsAll, Log}
use Rattle.pp_world.specs.declared.event.Event.{Event}
use Rattle.pp_world.specs.declared.event.Event.TheVariants.{Accepted, Broken, Readable, Reached, Stop, Tick, Writable}

abbrev pub Back : Option Log → Option Log → Type 0
Back old new = (l : Log) → new ≡ Some l → (k : Log) × (old ≡ Some k)

same_back : (old new : Option Log) → new ≡ old → Back old new
same_back old new same l told = (l, sym same ∙ told)

more_back : (old new : Option Log) (f : Log → Log) → AppendsAll old new f → Back old new
more_back old new f adds l told = let was : (before : Log) × (old ≡ Some before) × (l ≡ before ++ f before) = adds.was l told in (was.0, was.1)

then_back : (a b c : Option Log) → Back a b → Back b c → Back a c
then_back a b c one two l told = let mid : (k : Log) × (b ≡ Some k) = two l told in one mid.0 mid.1

read_back : (o : Option Seat) (most i : ℕ) (links : List Link) (x y : Sides) (old new : Option Log) → IsReadAt o most i links x y old new → Back old new
read_back None most i links x y old new it = same_back old new it.1
read_back (Some seat) most i links x y old new it = more_back old new _ it.told

written_back : (o : Option Seat) (i : ℕ) (links : List Link) (x y : Sides) (old new : Option Log) → IsWrittenAt o i links x y old new → Back old new
written_back None i links x y old new it = same_back old new it.1
written_back (Some seat) i links x y old new it = more_back old new _ it.told

text_back : (o : Option Peer) (k n left now : ℕ) (awake : List ℕ) (links : List Link) (x y : Sides) (old new : Option Log) → TextIsAsked o k n left now awake links x y old new → Back old new
text_back None k n left now awake links x y old new it = same_back old new it.told
text_back (Some peer) k n left now awake links x y old new it = more_back old new _ it.told

body_back : (o : Option Seat) (k n left i : ℕ) (awake : List ℕ) (links : List Link) (x y : Sides) (old new : Option Log) → BodyIsAsked o k n left i awake links x y old new → Back old new
body_back None k n left i awake links x y old new it = same_back old new it.told
body_back (Some seat) k n left i awake links x y old new it = more_back old new _ it.told

asked_back : (o : Option Asking) (k now : ℕ) (awake : List ℕ) (links : List Link) (x y : Sides) (old new : Option Log) → AsksBy o k now awake links x y old new → Back old new
asked_back None k now awake links x y old new it = same_back old new it.told
asked_back (Some (Text n left)) k now awake links x y old new it = text_back (find (is_number k) x.peers) k n left now awake links x y old new it
asked_back (Some (Body n left i)) k now awake links x y old new it = body_back (slice_get x.parts.seats i) k n left i awake links x y old new it

chunk_back : (next : Next) (o : Option Instance) (index : Option ℕ) (shelf : KeptMap) (s : Turn) (behind : KeptMap) (t : Turn) (old new : Option Log) (before now : ℕ) → LoadsOf next.source o index shelf s behind t old new before now → Back old new
chunk_back next None index shelf s behind t old new before now it = same_back old new it.2
chunk_back next (Some i) None shelf s behind t old new before now it = same_back old new it.2
chunk_back next (Some i) (Some index) shelf s behind t old new before now it = more_back old new _ it.told

load_back : (o : Option Next) (shelf : KeptMap) (s : Turn) (behind : KeptMap) (t : Turn) (old new : Option Log) (before now : ℕ) → LoadsWhere o shelf s behind t old new before now → Back old new
load_back None shelf s behind t old new before now it = same_back old new it.2
load_back (Some next) shelf s behind t old new before now it = chunk_back next (instance_of next.source s.cache.instances) (chunk_at next.at) shelf s behind t old new before now it

module _ (id : ℕ) (x y : Turning) where
  read_by : (o : Option ℕ) → ReadsBy o id x y → length x.moving.desk.buffer.items ≤ vec_capacity x.moving.desk.«data» → Back x.log y.log
  read_by (Some i) it room = read_back (slice_get (sides it.roused).parts.seats i) (length it.roused.buffer.items) i x.moving.links (sides it.roused) it.hears.0 x.log y.log it.hears.1
  read_by None it room = more_back x.log y.log _ (it.receives room).told

  written_by : (o : Option ℕ) → WritesBy o id x y → Back x.log y.log
  written_by (Some i) it =
      then_back x.log it.says.between y.log
      (load_back (option_and_then (next_on_disk it.roused.state) (slice_get it.roused.state.seats.items i)) x.shelf it.roused.state y.shelf it.says.loaded.state x.log it.says.between x.faults it.says.count it.says.loads)
      (written_back (slice_get (sides it.says.loaded).parts.seats i) i x.moving.links (sides it.says.loaded) it.says.says.0 it.says.between y.log it.says.says.1)
  written_by None it =
      asked_back (asking id (sides x.moving.desk).parts.seats (sides x.moving.desk).parts.flow) id x.moving.desk.state.now x.moving.desk.state.awake.items x.moving.links (sides x.moving.desk) (sides y.moving.desk) x.log y.log it.asks

woken_room : (id : ℕ) (x : Turning) (woken : Desk) → Wakes id x.moving.desk woken → length x.moving.desk.buffer.items ≤ vec_capacity x.moving.desk.«data» → length woken.buffer.items ≤ vec_capacity woken.«data»
woken_room id x woken wakes room =
    subst (λ (n : ℕ). length woken.buffer.items ≤ n) (sym (ap (λ (d : Desk). vec_capacity d.«data») wakes.touches.rest ∙ ap (λ (d : Desk). vec_capacity d.«data») wakes.regains.rest))
    (subst (λ (n : ℕ). n ≤ vec_capacity x.moving.desk.«data») (sym (ap (λ (d : Desk). length d.buffer.items) wakes.touches.rest ∙ ap (λ (d : Desk). length d.buffer.items) wakes.regains.rest)) room)

-- where there is room for the data of one read
pub handled_back : (event : Event) (x y : Turning) → length x.moving.desk.buffer.items ≤ vec_capacity x.moving.desk.«data» → Handles event x y → Back x.log y.log
handled_back Stop x y room (it, silent) = same_back x.log y.log silent.told
handled_back (Tick seconds) x y room (it, silent) = same_back x.log y.log silent.told
handled_back (Accepted c) x y room (it, silent) = same_back x.log y.log silent.told
handled_back (Readable id) x y room it = read_by id (at_desk it.woken x) y (place_of id (numbers_of it.woken.state.seats.items)) it.reads (woken_room id x it.woken it.wakes room)
handled_back (Writable id) x y room it = written_by id (at_desk it.woken x) y (place_of id (numbers_of it.woken.state.seats.items)) it.writes
handled_back (Reached k) x y room (it, silent) = same_back x.log y.log silent.told
handled_back (Broken k) x y room (it, silent) = same_back x.log y.log silent.told
