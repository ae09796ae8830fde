-- Over a whole turn what is read into stays as long.
use Rattle.std.proofs.Common.{◌≡◌, ◌≤◌, inl, inr, sym, subst, ap, ◌∙◌, le_trans, ℕ, length, Option, Some, None, arith}
use Rattle.std.specs.Prelude.{vec_capacity}
use Rattle.pp_desk.specs.declared.desk.Desk.{Desk}
use Rattle.pp_events_law.specs.Stands.{come}
use Rattle.pp_joints_law.proofs.Settled.{settles_work}
use Rattle.pp_joints_law.specs.Serving.{IsButForWork}
use Rattle.pp_links.specs.Links.{IsLinked}
use Rattle.pp_proxy.specs.Accepting.{IsAccepted}
use Rattle.pp_proxy.specs.Awaiting.{Standing}
use Rattle.pp_proxy.specs.Handling.{Handles, ReadsBy, Wakes, WritesBy}
use Rattle.pp_proxy.specs.Leaving.{Leaves}
use Rattle.pp_proxy.specs.Moving.{Moving, Turning, at_desk}
use Rattle.pp_reads_law.specs.Keys.{HasRoomForData}
use Rattle.pp_state.specs.Ends.{numbers_of, place_of}
use Rattle.pp_world.specs.Log.{Log}
use Rattle.pp_world.specs.declared.event.Event.{Event}
use Rattle.pp_world.specs.declared.event.Event.TheVariants.{Stop, Tick, Accepted, Readable, Writable, Reached, Broken}
use Rattle.pp_turn_law.specs.Awaited.{StandsBeside, awaiting}
use Rattle.pp_turn_law.specs.Kept.{LeavesAndKeeps}
use Rattle.pp_turn_law.specs.Served.{ServesOn}
use Rattle.pp_turn_law.specs.Whole.{NextWaitsStandBeside}
use Rattle.pp_turn_law.proofs.DeskOn.{events_set, waits_set}

abbrev IsLong : Desk → Desk → Type 0
IsLong old new = length new.buffer.items ≡ length old.buffer.items

woken_long : (id : ℕ) (old new : Desk) → Wakes id old new → IsLong old new
woken_long id old new is = ap (λ (d : Desk). length d.buffer.items) is.touches.rest ∙ ap (λ (d : Desk). length d.buffer.items) is.regains.rest

accepted_long : (c : ℕ) (old new : Desk) → IsAccepted c old new → IsLong old new
accepted_long c old new (inl is) = ap (λ (d : Desk). length d.buffer.items) is.rest
accepted_long c old new (inr is) = ap (λ (d : Desk). length d.buffer.items) is.rest

read_long : (o : Option ℕ) (id : ℕ) (x y : Turning) → ReadsBy o id x y → IsLong x.moving.desk y.moving.desk
read_long (Some i) id x y is = is.long ∙ ap (λ (d : Desk). length d.buffer.items) is.rouses.rest
read_long None id x y is = is.long

written_long : (o : Option ℕ) (id : ℕ) (x y : Turning) → WritesBy o id x y → IsLong x.moving.desk y.moving.desk
written_long (Some i) id x y is = ap (λ (d : Desk). length d.buffer.items) is.says.rest ∙ ap (λ (d : Desk). length d.buffer.items) is.says.stays ∙ ap (λ (d : Desk). length d.buffer.items) is.rouses.rest
written_long None id x y is = ap (λ (d : Desk). length d.buffer.items) is.rest

event_long : (event : Event) (x y : Turning) → Handles event x y → IsLong x.moving.desk y.moving.desk
event_long Stop x y is = ap (λ (d : Desk). length d.buffer.items) is.0.rest
event_long (Tick seconds) x y is = ap (λ (d : Desk). length d.buffer.items) is.0.rest
event_long (Accepted c) x y is = accepted_long c x.moving.desk y.moving.desk is.0
event_long (Readable id) x y is = read_long (place_of id (numbers_of is.woken.state.seats.items)) id (at_desk is.woken x) y is.reads ∙ woken_long id x.moving.desk is.woken is.wakes
event_long (Writable id) x y is = written_long (place_of id (numbers_of is.woken.state.seats.items)) id (at_desk is.woken x) y is.writes ∙ woken_long id x.moving.desk is.woken is.wakes
event_long (Reached k) x y is = ap (λ (d : Desk). length d.buffer.items) is.0.reaches.rest ∙ ap (λ (d : Desk). length d.buffer.items) is.0.touches.rest
event_long (Broken k) x y is = ap (λ (d : Desk). length d.buffer.items) is.0.rest ∙ ap (λ (d : Desk). length d.buffer.items) is.0.regains.rest

-- what leaves memory leaves what is read into, and where the data of a read go
leaves_long : (x y : Moving) (log : Log) → Leaves x log y → IsLong x.desk y.desk
leaves_long x y log is = ap (λ (d : Desk). length d.buffer.items) is.gives.rest ∙ ap (λ (d : Desk). length d.buffer.items) is.leaves.rest ∙ ap (λ (d : Desk). length d.buffer.items) is.regains.rest

leaves_data : (x y : Moving) (log : Log) → Leaves x log y → vec_capacity y.desk.«data» ≡ vec_capacity x.desk.«data»
leaves_data x y log is = ap (λ (d : Desk). vec_capacity d.«data») is.gives.rest ∙ ap (λ (d : Desk). vec_capacity d.«data») is.leaves.rest ∙ ap (λ (d : Desk). vec_capacity d.«data») is.regains.rest

-- wherever the wait was
module _ (event : Event) (x : Standing) (f : Desk) (all : Log) (faults : ℕ) (h k y : Turning) (beside : StandsBeside x f) (handles : Handles event (come event (awaiting x f all faults)) h) (keeps : LeavesAndKeeps h k) (serves : ServesOn k y) where
  abbrev came : Turning
  came = come event (awaiting x f all faults)

  room : HasRoomForData came
  room = omega (arith, beside.buffer, beside.holds)

  settled : IsButForWork k.moving.desk y.moving.desk
  settled = settles_work k.shelf k.moving y.moving serves.settles.added serves.settles.is

  pub buffer_there : length y.moving.desk.buffer.items ≡ 32768
  buffer_there =
      ap (λ (d : Desk). length d.buffer.items) settled ∙ ap (λ (d : Desk). length d.buffer.items) keeps.keeps.rest ∙ leaves_long h.moving keeps.left.moving keeps.leaves.added keeps.leaves.is
      ∙ event_long event came h handles ∙ beside.buffer

  pub data_there : 32768 ≤ vec_capacity y.moving.desk.«data»
  data_there =
      subst (λ (n : ℕ). 32768 ≤ n)
      (sym (ap (λ (d : Desk). vec_capacity d.«data») settled ∙ ap (λ (d : Desk). vec_capacity d.«data») keeps.keeps.rest ∙ leaves_data h.moving keeps.left.moving keeps.leaves.added keeps.leaves.is))
      (le_trans beside.holds (events_set event came h room handles).room)

pub stands_beside : NextWaitsStandBeside
stands_beside life budget log w event x f all faults h k y s it next v clients d g same linked awaits rests = record {
  buffer =
      ap (λ (e : Desk). length e.buffer.items) rests.rest ∙ ap (λ (e : Desk). length e.buffer.items) awaits.rest ∙ ap (λ (t : Turning). length t.moving.desk.buffer.items) same
      ∙ buffer_there event x f all faults h k y it.turns.beside it.handles it.keeps it.serves;
  holds = le_trans (subst (λ (t : Turning). 32768 ≤ vec_capacity t.moving.desk.«data») (sym same) (data_there event x f all faults h k y it.turns.beside it.handles it.keeps it.serves)) (waits_set next.read v clients next.turning.moving.desk d g awaits rests).room;
  linked = subst (λ (t : Turning). IsLinked t.log t.moving.top t.moving.links) (sym same) linked;
}
