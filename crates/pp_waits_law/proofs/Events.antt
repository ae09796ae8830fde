-- An event puts nobody to sleep.
use Rattle.std.proofs.Common.{◌≡◌, ◌≤◌, ◌<◌, inl, inr, refl, sym, subst, ap, ◌∙◌, ℕ, suc, Bool, true, ◌||◌, ◌==◌, length, List, [], ◌∷◌, ◌++◌, Option, Some, None, arith}
use Rattle.std.specs.Prelude.{vec_capacity}
use Rattle.pp_desk.specs.declared.desk.Desk.{Desk}
use Rattle.pp_law.specs.Lists.{has_number}
use Rattle.pp_origins.specs.Gots.{both}
use Rattle.pp_proxy.specs.Accepting.{IsAccepted, newcomer}
use Rattle.pp_proxy.specs.Handling.{AsksOn, HearsAt, ReadsBy, ReceivesOn, Rouses, SaysAt, Wakes, WritesBy}
use Rattle.pp_proxy.specs.Moving.{Turning, at_desk}
use Rattle.pp_seats.specs.declared.seat.Seat.{Seat}
use Rattle.pp_state.specs.Ends.{AreInOrder, numbers_of, place_of}
use Rattle.pp_state.specs.Numbers.{places, with_number}
use Rattle.pp_state.specs.declared.state.State.{State}
use Rattle.pp_waits_law.proofs.Awake.{all_awake, stay, then_awake}
use Rattle.pp_waits_law.proofs.Got.{receives}
use Rattle.pp_waits_law.proofs.Like.{count_same}
use Rattle.pp_waits_law.proofs.Loads.{loads}
use Rattle.pp_waits_law.proofs.Rising.{has_with, is_itself, or_there}
use Rattle.pp_waits_law.proofs.Ticked.{tick_numbers}
use Rattle.pp_waits_law.specs.Asleep.{KeepsAwake}
use Rattle.pp_waits_law.specs.Steps.{CanLook, EventsKeepAwake}
use Rattle.pp_world.specs.declared.event.Event.TheVariants.{Stop, Tick, Accepted, Readable, Writable, Reached, Broken}

-- ---- the same are looked at, or one more

same : (old new : State) → numbers_of new.seats.items ≡ numbers_of old.seats.items → new.awake ≡ old.awake → KeepsAwake old new
same old new numbers awake = stay old new numbers (λ i is. ap (λ a. has_number i a.items) awake ∙ is)

one_more : (n i : ℕ) (ms : List ℕ) → has_number i ms ≡ true → has_number i (with_number n ms) ≡ true
one_more n i ms is = has_with i n ms ∙ or_there (n == i) (has_number i ms) is

roused : (i : ℕ) (old new : Desk) → CanLook old → Rouses i old new → KeepsAwake old.state new.state
roused i old new can rouses =
    stay old.state new.state (ap (λ (d : Desk). numbers_of d.state.seats.items) rouses.rest)
    (λ j is. ap (λ (ns : List ℕ). has_number j ns) (rouses.awake can.order can.one) ∙ one_more i j old.state.awake.items is)

-- ---- a client comes

numbers_end : (seats : List Seat) (seat : Seat) → numbers_of (seats ++ seat ∷ []) ≡ numbers_of seats ++ seat.client.id ∷ []
numbers_end [] seat = refl
numbers_end (first ∷ seats) seat = ap (λ (ns : List ℕ). first.client.id ∷ ns) (numbers_end seats seat)

length_end : (seats : List Seat) (seat : Seat) → length (seats ++ seat ∷ []) ≡ suc (length seats)
length_end [] seat = refl
length_end (first ∷ seats) seat = ap suc (length_end seats seat)

last_one : (n m i : ℕ) → n ≤ i → i < m → m ≡ suc n → n ≡ i
last_one n m i from less is = omega (arith, from, less, is)

accepted : (c : ℕ) (old new : Desk) → CanLook old → IsAccepted c old new → KeepsAwake old.state new.state
accepted c old new can (inl seated) = inl (record {
  come = c ∷ [];
  numbers = ap numbers_of seated.seats ∙ numbers_end old.state.seats.items (newcomer c old);
  awake = λ i is. ap (λ (ns : List ℕ). has_number i ns) (seated.awake can.order can.one) ∙ one_more (length old.state.seats.items) i old.state.awake.items is;
  newcomers = λ i from less.
      ap (λ (ns : List ℕ). has_number i ns) (seated.awake can.order can.one)
      ∙ has_with i (length old.state.seats.items) old.state.awake.items
      ∙ ap (λ (b : Bool). b || has_number i old.state.awake.items)
      (ap (λ (k : ℕ). k == i) (last_one (length old.state.seats.items) (length new.state.seats.items) i from less (ap (λ (seats : List Seat). length seats) seated.seats ∙ length_end old.state.seats.items (newcomer c old))) ∙ is_itself i);
})
accepted c old new can (inr away) = same old.state new.state (ap numbers_of away.seats) (ap (λ (d : Desk). d.state.awake) away.rest)

-- ---- with a read or a write

woken : (id : ℕ) (old new : Desk) → Wakes id old new → KeepsAwake old.state new.state
woken id old new wakes =
    same old.state new.state (wakes.touches.numbers ∙ wakes.regains.numbers) (ap (λ (d : Desk). d.state.awake) wakes.touches.rest ∙ ap (λ (d : Desk). d.state.awake) wakes.regains.rest)

-- it can be looked at then, too
still_can : (id : ℕ) (old new : Desk) → CanLook old → Wakes id old new → CanLook new
still_can id old new can wakes = record {
  order = subst (λ a. AreInOrder a.items) (sym awake) can.order;
  one = subst (λ a. length a.items < vec_capacity a) (sym awake) can.one;
  all = subst (λ a. length new.state.seats.items ≤ vec_capacity a) (sym awake)
      (subst (λ (n : ℕ). n ≤ vec_capacity old.state.awake) (sym (count_same new.state.seats.items old.state.seats.items (wakes.touches.numbers ∙ wakes.regains.numbers))) can.all);
  reads = subst (λ b. length b.items ≤ vec_capacity new.«data») (sym buffer) (subst (λ b. length old.buffer.items ≤ vec_capacity b) (sym bytes) can.reads);
}
  where
    awake : new.state.awake ≡ old.state.awake
    awake = ap (λ (d : Desk). d.state.awake) wakes.touches.rest ∙ ap (λ (d : Desk). d.state.awake) wakes.regains.rest

    buffer : new.buffer ≡ old.buffer
    buffer = ap (λ (d : Desk). d.buffer) wakes.touches.rest ∙ ap (λ (d : Desk). d.buffer) wakes.regains.rest

    bytes : new.«data» ≡ old.«data»
    bytes = ap (λ (d : Desk). d.«data») wakes.touches.rest ∙ ap (λ (d : Desk). d.«data») wakes.regains.rest

heard : (i : ℕ) (x y : Turning) → CanLook x.moving.desk → HearsAt i x y → KeepsAwake x.moving.desk.state y.moving.desk.state
heard i x y can hears =
    then_awake x.moving.desk.state hears.roused.state y.moving.desk.state (roused i x.moving.desk hears.roused can hears.rouses)
    (same hears.roused.state y.moving.desk.state (hears.numbers ∙ sym (ap (λ (d : Desk). numbers_of d.state.seats.items) hears.rouses.rest)) (ap (λ (d : Desk). d.state.awake) hears.rest))

said : (i : ℕ) (x y : Turning) → CanLook x.moving.desk → SaysAt i x y → KeepsAwake x.moving.desk.state y.moving.desk.state
said i x y can says =
    then_awake x.moving.desk.state says.roused.state y.moving.desk.state (roused i x.moving.desk says.roused can says.rouses)
    (same says.roused.state y.moving.desk.state (says.numbers ∙ sym (ap (λ (d : Desk). numbers_of d.state.seats.items) says.rouses.rest))
    (ap (λ (d : Desk). d.state.awake) says.says.rest ∙ loads i x.shelf says.roused.state y.shelf says.says.loaded.state x.log says.says.between x.faults says.says.count says.says.loads))

asked : (k : ℕ) (x y : Turning) → AsksOn k x y → KeepsAwake x.moving.desk.state y.moving.desk.state
asked k x y asks = same x.moving.desk.state y.moving.desk.state asks.numbers (ap (λ (d : Desk). d.state.awake) asks.rest)

received : (k : ℕ) (x y : Turning) → CanLook x.moving.desk → ReceivesOn k x y → KeepsAwake x.moving.desk.state y.moving.desk.state
received k x y can on =
    same x.moving.desk.state y.moving.desk.state on.numbers
    (receives (length x.moving.desk.buffer.items) x.shelf k x.moving.links (both x.moving.desk) (both y.moving.desk) x.log y.log (on.receives can.reads))

reads : (o : Option ℕ) (id : ℕ) (x y : Turning) → CanLook x.moving.desk → ReadsBy o id x y → KeepsAwake x.moving.desk.state y.moving.desk.state
reads (Some i) id x y can it = heard i x y can it
reads None id x y can it = received id x y can it

writes : (o : Option ℕ) (id : ℕ) (x y : Turning) → CanLook x.moving.desk → WritesBy o id x y → KeepsAwake x.moving.desk.state y.moving.desk.state
writes (Some i) id x y can it = said i x y can it
writes None id x y can it = asked id x y it

-- ---- each

pub handled : EventsKeepAwake
handled Stop x y can (stops, silent) =
    all_awake x.moving.desk.state y.moving.desk.state
    (stops.awake can.all ∙ ap (λ (seats : List Seat). places (length seats)) (sym (ap (λ (d : Desk). d.state.seats.items) stops.rest)))
handled (Tick seconds) x y can (ticks, silent) =
    all_awake x.moving.desk.state y.moving.desk.state
    (ticks.awake can.all ∙ ap places (sym (count_same y.moving.desk.state.seats.items x.moving.desk.state.seats.items (tick_numbers seconds x.moving.desk y.moving.desk ticks))))
handled (Accepted c) x y can (comes, silent) = accepted c x.moving.desk y.moving.desk can comes
handled (Readable id) x y can its =
    then_awake x.moving.desk.state its.woken.state y.moving.desk.state (woken id x.moving.desk its.woken its.wakes)
    (reads (place_of id (numbers_of its.woken.state.seats.items)) id (at_desk its.woken x) y (still_can id x.moving.desk its.woken can its.wakes) its.reads)
handled (Writable id) x y can its =
    then_awake x.moving.desk.state its.woken.state y.moving.desk.state (woken id x.moving.desk its.woken its.wakes)
    (writes (place_of id (numbers_of its.woken.state.seats.items)) id (at_desk its.woken x) y (still_can id x.moving.desk its.woken can its.wakes) its.writes)
handled (Reached k) x y can (its, silent) =
    same x.moving.desk.state y.moving.desk.state (its.reaches.numbers ∙ its.touches.numbers) (ap (λ (d : Desk). d.state.awake) its.reaches.rest ∙ ap (λ (d : Desk). d.state.awake) its.touches.rest)
handled (Broken k) x y can (its, silent) =
    same x.moving.desk.state y.moving.desk.state (its.numbers ∙ its.regains.numbers) (ap (λ (d : Desk). d.state.awake) its.rest ∙ ap (λ (d : Desk). d.state.awake) its.regains.rest)
