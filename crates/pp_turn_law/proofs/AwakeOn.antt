-- Over a whole turn nobody falls asleep: those who were read at its wait were read at the last one.
use Rattle.std.proofs.Common.{◌≡◌, ◌≤◌, ◌<◌, ℕ, length, take, [], ◌∷◌, ◌++◌, arith}
use Rattle.std.specs.Prelude.{vec_capacity}
use Rattle.pp_asks_law.proofs.Few.{few_awake}
use Rattle.pp_desk.specs.declared.desk.Desk.{Desk}
use Rattle.pp_events_law.proofs.Newcomer.{rising}
use Rattle.pp_events_law.specs.Stands.{come}
use Rattle.pp_law.specs.Phases.{ending}
use Rattle.pp_law.specs.State.{State}
use Rattle.pp_law.specs.Turn.{rest_with}
use Rattle.pp_laws_turn.proofs.Laws.{sound_turns}
use Rattle.pp_obeys.specs.Obeys.{Life}
use Rattle.pp_proxy.specs.Awaiting.{Standing}
use Rattle.pp_proxy.specs.Handling.{Handles}
use Rattle.pp_proxy.specs.Moving.{Turning}
use Rattle.pp_turns_law.proofs.Wanted.{same_length}
use Rattle.pp_waits_law.proofs.Awake.{read_stay, then_awake}
use Rattle.pp_waits_law.proofs.Events.{handled as events_awake}
use Rattle.pp_waits_law.proofs.Rounds.{settles as settling_awake}
use Rattle.pp_waits_law.proofs.Turns.{keeping as keeping_awake, leaving as leaving_awake}
use Rattle.pp_waits_law.specs.Asleep.{KeepsAwake, WereRead}
use Rattle.pp_waits_law.specs.Steps.{CanLook, HasRoom}
use Rattle.pp_world.specs.Log.{Log}
use Rattle.pp_world.specs.Wire.{event_happening}
use Rattle.pp_world.specs.declared.event.Event.{Event}
use Rattle.pp_world.specs.declared.event.Wants.{Wants}
use Rattle.pp_world.specs.declared.happening.Happening.TheVariants.{Waits}
use Rattle.pp_turn_law.specs.Awaited.{StandsBeside, awaiting}
use Rattle.pp_turn_law.specs.Kept.{HasGoneToDecide, LeavesAndKeeps}
use Rattle.pp_turn_law.specs.Served.{ServesOn}
use Rattle.pp_turn_law.specs.Waited.{HasWaitedOn}
use Rattle.pp_turn_law.specs.Whole.{ReadOnesStayRead}
use Rattle.pp_turn_law.proofs.HandledSo.{waited}

one_more : (a b c : ℕ) → a ≤ 256 → 257 ≤ b → a < b
one_more a b c few room = omega (arith, few, room)

all_fit : (a b c : ℕ) → a ≡ b → b ≤ 256 → 257 ≤ c → a ≤ c
all_fit a b c same few room = omega (arith, same, few, room)

-- wherever the wait was
module _ (life : Life) (budget : ℕ) (log : Log) (w : Wants) (event : Event) (x : Standing) (f : Desk) (all : Log) (faults : ℕ) (h k y : Turning) (s : State) (number : ℕ → ℕ) (clients : ℕ) (waited_so : HasWaitedOn life budget log x w clients f number s) (beside : StandsBeside x f)
    (handles : Handles event (come event (awaiting x f all faults)) h) (keeps : LeavesAndKeeps h k) (added : Log) (then : State) (gone : HasGoneToDecide life budget (log ++ (Waits w ∷ event_happening event ∷ added)) h k then) (serves : ServesOn k y) where
  abbrev rested : State
  rested = rest_with w (ending s)

  few : length rested.clients ≤ 256
  few = (sound_turns (life.terms budget) rested (log ++ Waits w ∷ []) waited_so.comes.obeys).bounded.clients

  can : CanLook f
  can = record {
    order = rising f.state.awake.items 0 (length f.state.seats.items) waited_so.awaits.stands.awake.order;
    one = one_more (length f.state.awake.items) (vec_capacity f.state.awake) 0
        (few_awake number f.state.name.items f.state.seats.items rested.clients f.state.awake.items waited_so.awaits.stands.desk.turn.steps.shows.clients waited_so.awaits.stands.awake.order few) waited_so.carried.set.room;
    all = all_fit (length f.state.seats.items) (length rested.clients) (vec_capacity f.state.awake) (same_length number f.state.name.items f.state.seats.items rested.clients waited_so.awaits.stands.desk.turn.steps.shows.clients) few waited_so.carried.set.room;
    reads = omega (arith, beside.buffer, beside.holds);
  }

  room : HasRoom k.moving.desk.state
  room = all_fit (length k.moving.desk.state.seats.items) (length gone.then.clients) (vec_capacity k.moving.desk.state.awake)
      (same_length gone.number k.moving.desk.state.name.items k.moving.desk.state.seats.items gone.then.clients gone.kept.turn.steps.shows.clients)
      (sound_turns (life.terms budget) gone.then ((log ++ (Waits w ∷ event_happening event ∷ added)) ++ gone.goes.added) gone.goes.comes.obeys).bounded.clients gone.kept.carried.set.room

  awake : KeepsAwake f.state y.moving.desk.state
  awake =
      then_awake f.state h.moving.desk.state y.moving.desk.state (events_awake event (come event (awaiting x f all faults)) h can handles)
      (then_awake h.moving.desk.state keeps.left.moving.desk.state y.moving.desk.state (leaving_awake h.moving keeps.leaves.added keeps.left.moving keeps.leaves.is)
      (then_awake keeps.left.moving.desk.state k.moving.desk.state y.moving.desk.state (keeping_awake keeps.left k keeps.keeps)
      (settling_awake k.shelf k.moving serves.settles.added y.moving room serves.settles.is)))

  pub still_read : WereRead (take clients w.read.items) y.moving.desk.state
  still_read = read_stay (take clients w.read.items) f.state y.moving.desk.state awake waited_so.read

pub read_on : ReadOnesStayRead
read_on life budget log w event x f all faults h k y s it =
    still_read life budget log w event x f all faults h k y s it.turns.stands.number it.turns.clients (waited life budget log w event x f all faults h s it.turns) it.turns.beside it.handles it.keeps it.next.added it.next.then it.next.gone it.serves
