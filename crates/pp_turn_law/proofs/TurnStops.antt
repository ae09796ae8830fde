-- From the last wait, wherever that was, over Stop, to where all is closed.
use Rattle.std.proofs.Common.{◌≡◌, ◌≤◌, ◌<◌, refl, sym, subst, ap, ◌∙◌, ℕ, Bool, true, false, ◌+◌, cond, length, List, [], ◌∷◌, ◌++◌, append_assoc, Option, Some, None, le_trans, arith}
use Rattle.pp_turns_law.proofs.GivenUp.{waiting_in_order}
use Rattle.pp_desk.specs.Closings.{Sides}
use Rattle.pp_desk.specs.declared.desk.Desk.{Desk}
use Rattle.pp_events_law.specs.Stands.{come}
use Rattle.pp_flow.specs.Changes.{Exchanges, entry_of, numbers as flow_numbers, without}
use Rattle.pp_flow.specs.Entries.{is_number}
use Rattle.pp_flow.specs.declared.entry.Entry.{Entry}
use Rattle.pp_flow_law.proofs.Told.{counts}
use Rattle.pp_flow_law.specs.Tables.{none_leaves}
use Rattle.pp_grown_law.proofs.Noted.{nothing_is_noted}
use Rattle.pp_joints_law.specs.Keeping.{kept_in}
use Rattle.pp_law.specs.State.{State}
use Rattle.pp_laws_turn.proofs.Laws.{sound_turns}
use Rattle.pp_laws_turn.specs.SoundTurn.{IsSoundTurn}
use Rattle.pp_obeys.specs.Obeys.{Life, Obeys}
use Rattle.pp_proxy.specs.Awaiting.{Standing, TurnsOn, turn_behind}
use Rattle.pp_proxy.specs.Handling.{Stops}
use Rattle.pp_proxy.specs.Leaving.{Leaves}
use Rattle.pp_proxy.specs.Moving.{Moving, Turning}
use Rattle.pp_proxy.specs.declared.proxy.Turn.TheVariants.{Stopped}
use Rattle.pp_state.specs.Asking.{is_useless}
use Rattle.pp_state.specs.Ends.{AreInOrder, Parts, ended, parts}
use Rattle.pp_state.specs.declared.state.State.{State as Turn}
use Rattle.pp_stays_law.proofs.Starts.{room_at_first}
use Rattle.pp_stays_law.specs.Names.{HasRoomToNote}
use Rattle.pp_take.specs.GivingUp.{all_given_up, given_up_if}
use Rattle.pp_turns_law.proofs.Wanted.{same_length}
use Rattle.pp_world.specs.Log.{Log}
use Rattle.pp_world.specs.Wire.{event_happening}
use Rattle.pp_world.specs.declared.event.Event.{Event}
use Rattle.pp_world.specs.declared.event.Event.TheVariants.{Accepted, Broken, Readable, Reached, Stop, Tick, Writable}
use Rattle.pp_world.specs.declared.event.Wants.{Wants}
use Rattle.pp_world.specs.declared.happening.Happening.TheVariants.{Waits}
use Rattle.pp_turn_law.proofs.SilentOnes.{stops_handled}
use Rattle.pp_turn_law.proofs.StoppedOnes.{handled_stop, same_long, stops_said}
use Rattle.pp_turn_law.proofs.TurnHalf.{HasTaken, HasTurned, StandsOver, stands_over, turned, turns_taken}
use Rattle.pp_turn_law.specs.Awaited.{awaiting}
use Rattle.pp_turn_law.specs.Going.{IsTaken, StandsOn}
use Rattle.pp_turn_law.specs.Handled.{IsHandledOn}
use Rattle.pp_turn_law.specs.Served.{most_happenings}
use Rattle.pp_turn_law.specs.Stopped.{HasStoppedBehind, IsToStop}
use Rattle.pp_turn_law.specs.Stopping.{HasStoppedAt, TurnsStop}
use Rattle.pp_turn_law.specs.Straight.{IsStraight}
use Rattle.pp_turn_law.specs.Waited.{HasWaitedOn, rested}

-- a turn that stops has Stop
is_stop : (o : Option Event) → Stopped ≡ turn_behind o → o ≡ Some Stop
is_stop None is = absurd (cc is)
is_stop (Some Stop) is = refl
is_stop (Some (Tick seconds)) is = absurd (cc is)
is_stop (Some (Accepted c)) is = absurd (cc is)
is_stop (Some (Readable id)) is = absurd (cc is)
is_stop (Some (Writable id)) is = absurd (cc is)
is_stop (Some (Reached k)) is = absurd (cc is)
is_stop (Some (Broken k)) is = absurd (cc is)

-- ---- exchanges that are given up are fewer

fewer_without : (n : ℕ) (es : List Entry) → length (without n es) ≤ length es
fewer_without n [] = omega arith
fewer_without n (e ∷ es) = by (is_number n e) (fewer_without n es)
  where
    by : (b : Bool) → length (without n es) ≤ length es → length (cond b es (e ∷ without n es)) ≤ length (e ∷ es)
    by true less = omega (arith, less)
    by false less = omega (arith, less)

both_fewer : (a b c d : ℕ) → a ≤ c → b ≤ d → a + b ≤ c + d
both_fewer a b c d one two = omega (arith, one, two)

abbrev under_way : Exchanges → ℕ
under_way f = length f.waiting + length f.placed

fewer_given_up : (ns : List ℕ) (p : Parts) → under_way (all_given_up ns p).flow ≤ under_way p.flow
unfolding all_given_up
fewer_given_up [] p = omega arith
fewer_given_up (n ∷ ns) p = le_trans (fewer_given_up ns (given_up_if n p)) (by (is_useless p.cache p.seats (entry_of n p.flow)))
  where
    by : (b : Bool) → under_way (elim b as (λ t. Parts) [ true ↦ ended n p | false ↦ p ]).flow ≤ under_way p.flow
    by true = both_fewer (length (without n p.flow.waiting)) (length (without n p.flow.placed)) (length p.flow.waiting) (length p.flow.placed) (fewer_without n p.flow.waiting) (fewer_without n p.flow.placed)
    by false = omega arith

-- ---- as many clients, and no more exchanges, where memory is left

module _ (x y : Moving) (log : Log) (leaves : Leaves x log y) where
  seats_left : length y.desk.state.seats.items ≡ length x.desk.state.seats.items
  seats_left =
      same_long y.desk.state.seats.items leaves.left.state.seats.items leaves.gives.numbers ∙ ap (λ (t : Turn). length t.seats.items) leaves.leaves.is.rest
      ∙ same_long leaves.anew.state.seats.items x.desk.state.seats.items leaves.regains.numbers

  same_flow : leaves.left.state.flow ≡ x.desk.state.flow
  same_flow = ap (λ (t : Turn). t.flow) leaves.leaves.is.rest ∙ ap (λ (d : Desk). d.state.flow) leaves.regains.rest

  flow_left : AreInOrder (flow_numbers x.desk.state.flow.waiting) → under_way y.desk.state.flow ≤ under_way x.desk.state.flow
  flow_left order =
      subst (λ (f : Exchanges). under_way y.desk.state.flow ≤ under_way f) same_flow
      (subst (λ (p : Parts). under_way p.flow ≤ under_way leaves.left.state.flow)
      (sym (ap (λ (z : Sides). z.parts) (leaves.gives.is (subst (λ (f : Exchanges). AreInOrder (flow_numbers f.waiting)) (sym same_flow) order))))
      (fewer_given_up (flow_numbers leaves.left.state.flow.waiting) (parts leaves.left.state)))

-- ---- all of it

-- wherever its wait was
module _ (life : Life) (budget : ℕ) (log after : Log) (x y : Standing) (s : State) (number : ℕ → ℕ) (turns : TurnsOn Stopped x y) (st : StandsOver life budget log x s number turns.wants turns.clients turns.rested turns.event) (well : IsStraight y.turning) (told : y.turning.log ≡ Some after)
    (few : y.turning.faults ≤ budget + life.base) (brief : length after < most_happenings) where
  abbrev w : Wants
  w = turns.wants

  abbrev f : Desk
  f = turns.rested

  half : HasTurned life budget log w Stop x f y.turning
  half = turned life budget log after Stopped x y s number turns st well told few brief Stop (is_stop turns.event turns.result_is)

  abbrev h : Turning
  h = half.handled

  abbrev k : Turning
  k = half.kept

  on : IsHandledOn life budget log w Stop h
  on = half.on

  stops : Stops f h.moving.desk
  stops = half.taken.handles.0

  -- ---- so many clients and exchanges there are at the wait

  waits : HasWaitedOn life budget log x w turns.clients f number s
  waits = st.waited

  sound : IsSoundTurn (rested w s)
  sound = sound_turns (life.terms budget) (rested w s) (log ++ Waits w ∷ []) waits.comes.obeys

  few_seats : length f.state.seats.items ≤ 256
  few_seats = subst (λ (n : ℕ). n ≤ 256) (sym (same_length number f.state.name.items f.state.seats.items (rested w s).clients waits.awaits.stands.desk.turn.steps.shows.clients)) sound.bounded.clients

  few_flow : under_way f.state.flow ≤ 768
  few_flow = subst (λ (n : ℕ). n ≤ 768) (sym (counts number none_leaves f.state.flow (rested w s) waits.awaits.stands.desk.turn.steps.shows.exchanges).0) (sound.bounded.exchanges going)
    where
      going : (rested w s).is_stopped ≡ false
      going = sym waits.awaits.stands.desk.turn.stopped ∙ ap (λ (d : Desk). d.state.is_stopped) turns.rests.rest ∙ ap (λ (d : Desk). d.state.is_stopped) turns.awaits.rest ∙ st.going

  -- ---- all are looked at

  said : IsToStop h.moving.desk.state
  said = stops_said (come Stop (awaiting x f half.all half.faults)) h half.taken.handles (omega (arith, few_seats, waits.carried.set.room))

  -- ---- and behind the disk there is room to note names

  seats_kept : length k.moving.desk.state.seats.items ≡ length f.state.seats.items
  seats_kept =
      ap (λ (d : Desk). length d.state.seats.items) half.keeps.keeps.rest ∙ seats_left h.moving half.keeps.left.moving half.keeps.leaves.added half.keeps.leaves.is ∙ ap (λ (d : Desk). length d.state.seats.items) stops.rest

  order : AreInOrder (flow_numbers h.moving.desk.state.flow.waiting)
  order = waiting_in_order on.number h.moving.desk.state.name.items none_leaves h.moving.desk.peers (parts h.moving.desk.state) on.stands.handled.handled on.stands.handled.stands.desk.turn.steps

  flow_kept : under_way k.moving.desk.state.flow ≤ under_way f.state.flow
  flow_kept =
      subst (λ (g : Exchanges). under_way g ≤ under_way f.state.flow) (sym (ap (λ (d : Desk). d.state.flow) half.keeps.keeps.rest))
      (subst (λ (g : Exchanges). under_way half.keeps.left.moving.desk.state.flow ≤ under_way g) (ap (λ (d : Desk). d.state.flow) stops.rest) (flow_left h.moving half.keeps.left.moving half.keeps.leaves.added half.keeps.leaves.is order))

  room : HasRoomToNote (parts k.moving.desk.state)
  room =
      room_at_first (parts k.moving.desk.state) (nothing_is_noted (length half.keeps.left.moving.desk.file.items) (kept_in half.keeps.left) (kept_in k) half.keeps.keeps.is half.straight).outdated
      (fits (length k.moving.desk.state.seats.items) (under_way k.moving.desk.state.flow) (length f.state.seats.items) (under_way f.state.flow) seats_kept flow_kept few_seats few_flow)
    where
      fits : (a b c d : ℕ) → a ≡ c → b ≤ d → c ≤ 256 → d ≤ 768 → a + b < 2048
      fits a b c d is less one two = omega (arith, is, less, one, two)

  -- ---- to where all is closed

  abbrev there : Log
  there = log ++ (Waits w ∷ event_happening Stop ∷ on.added)

  stopped : HasStoppedBehind life budget there h y.turning on.then
  stopped = handled_stop life budget there after on.number h k y.turning on.then on.stands half.keeps room half.serves said told few brief

  abbrev added : Log
  added = ((Waits w ∷ event_happening Stop ∷ on.added) ++ stopped.gone.goes.added) ++ stopped.stopped.added

  whole : (there ++ stopped.gone.goes.added) ++ stopped.stopped.added ≡ log ++ added
  whole =
      ap (λ (l : Log). l ++ stopped.stopped.added) (append_assoc log (Waits w ∷ event_happening Stop ∷ on.added) stopped.gone.goes.added)
      ∙ append_assoc log ((Waits w ∷ event_happening Stop ∷ on.added) ++ stopped.gone.goes.added) stopped.stopped.added

  pub stopped_at : HasStoppedAt life budget log y
  stopped_at = record {
    added = added;
    then = stopped.stopped.stopped.then;
    obeys = subst (λ (l : Log). Obeys (life.terms budget) stopped.stopped.stopped.then l) whole stopped.stopped.stopped.comes.obeys;
    allows = stopped.stopped.allows;
    told = stopped.stopped.told ∙ ap (λ (l : Log). Some l) whole;
    clients = stopped.stopped.stopped.clients;
    conns = stopped.stopped.stopped.conns;
    over = stopped.stopped.stopped.over;
    nobody = stopped.stopped.stopped.nobody;
  }

-- ---- where a turn waits as from one wait to the next

only_stop : (life : Life) (budget : ℕ) (log : Log) (x y : Standing) (s : State) → StandsOn life budget log x s → (turns : TurnsOn Stopped x y) (event : Event) → event ≡ Stop → (all : Log) (faults : ℕ) (h : Turning) → HasTaken turns.wants event x turns.rested all faults h → IsTaken life budget log turns.wants event h
only_stop life budget log x y s st turns Stop is all faults h it = stops_handled life budget log turns.wants x turns.rested all faults h s (turns_taken life budget log Stopped x y s st turns Stop all faults h it) it.handles
only_stop life budget log x y s st turns (Tick seconds) is all faults h it = absurd (cc is)
only_stop life budget log x y s st turns (Accepted c) is all faults h it = absurd (cc is)
only_stop life budget log x y s st turns (Readable id) is all faults h it = absurd (cc is)
only_stop life budget log x y s st turns (Writable id) is all faults h it = absurd (cc is)
only_stop life budget log x y s st turns (Reached k) is all faults h it = absurd (cc is)
only_stop life budget log x y s st turns (Broken k) is all faults h it = absurd (cc is)

pub turns_end : TurnsStop
turns_end life budget log after x y s st turns well told few brief =
    stopped_at life budget log after x y s st.wait.number turns (stands_over life budget log Stopped x y s st turns (λ event is all faults h it short less. only_stop life budget log x y s st turns event (same event is) all faults h it)) well told few brief
  where
    same : (event : Event) → turns.event ≡ Some event → event ≡ Stop
    same event is = let both : Some event ≡ Some Stop = sym is ∙ is_stop turns.event turns.result_is in cc both
