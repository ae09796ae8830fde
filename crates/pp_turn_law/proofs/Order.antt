-- Clients stand in the order of their numbers over each piece of a turn.
use Rattle.std.proofs.Common.{◌≡◌, ◌≤◌, ◌<◌, refl, sym, subst, ap, ◌∙◌, inl, inr, ℕ, zero, suc, Bool, true, false, cond, filter, length, List, [], ◌∷◌, ◌++◌, Option, Some, None, Result, Ok, Err, le_refl, le_trans, arith}
use Rattle.std.specs.Prelude.{slice_index, vec_capacity, IfOk}
use Rattle.std.specs.Result.{result_unwrap_or}
use Rattle.pp_desk.proofs.ClosingLemmas.{left_in_order}
use Rattle.pp_desk.specs.Shutting.{is_any_over, stays}
use Rattle.pp_desk.specs.declared.desk.Desk.{Desk}
use Rattle.pp_events_law.proofs.Newcomer.{order_more, seats_more}
use Rattle.pp_flow.specs.Changes.{entry_of}
use Rattle.pp_flow.specs.declared.entry.Entry.{Entry}
use Rattle.pp_joints_law.proofs.Settled.{settles_work}
use Rattle.pp_peers.specs.declared.placing.Placed.{Placed}
use Rattle.pp_peers.specs.declared.placing.Placed.TheVariants.{On, Dial, CloseThenDial, Wait}
use Rattle.pp_places.specs.Around.{Around, Moment, moment_of}
use Rattle.pp_places.specs.Placing.{ArePlaced, IsDialled, IsDialledFor, IsDialledTo, IsPlaced, IsPlacedAs, dials_to, goes_on_behind, host_of, next_waiting, place_for}
use Rattle.pp_links.specs.Waits.{newcomer_of}
use Rattle.pp_proxy.proofs.FoundLemmas.{found_stays}
use Rattle.pp_proxy.specs.Accepting.{newcomer}
use Rattle.pp_proxy.specs.Awaiting.{behind}
use Rattle.pp_proxy.specs.Closing.{ClosesOver}
use Rattle.pp_proxy.specs.Deciding.{Decides, DecidesAll, TakesOne}
use Rattle.pp_proxy.specs.Handling.{Handles, ReadsBy, Wakes, WritesBy}
use Rattle.pp_proxy.specs.Moving.{Moving, Turning, at_desk, with_desk, with_state}
use Rattle.pp_proxy.specs.Rounds.{GoRounds, GoesRound, Serves}
use Rattle.pp_proxy.specs.Settling.{GoesOn}
use Rattle.pp_seats.specs.declared.due.Due.{Due}
use Rattle.pp_seats.specs.declared.seat.Seat.{Seat}
use Rattle.pp_state.specs.Astray.{gone_astray_where}
use Rattle.pp_state.specs.Ends.{AreInOrder, AreSeated, numbers_of, place_of}
use Rattle.pp_state.specs.declared.state.State.{State as Turn}
use Rattle.pp_store.specs.Kept.{KeptMap}
use Rattle.pp_waits_law.proofs.Like.{all_numbers, waiting_is}
use Rattle.pp_waits_law.proofs.Ticked.{tick_numbers}
use Rattle.pp_world.specs.Log.{Log}
use Rattle.pp_world.specs.Wire.{IsNewNumber}
use Rattle.pp_world.specs.declared.event.Event.{Event}
use Rattle.pp_world.specs.declared.event.Event.TheVariants.{Accepted, Broken, Readable, Reached, Stop, Tick, Writable}
use Rattle.pp_world.specs.declared.wire.WireFault.{WireFault}
use Rattle.pp_turn_law.specs.Ordered.{AreGivenTo, OrderedAsKept, OrderedAsLeft, OrderedAsSettled, OrderedInEvents, OrderedOverWaits, StandsOrdered}

-- ---- numbers

given_more : (a b : ℕ) (ns : List ℕ) → a ≤ b → AreGivenTo a ns → AreGivenTo b ns
given_more a b [] le given = given
given_more a b (n ∷ ns) le given = (le_trans given.0 le, given_more a b ns le given.1)

given_end : (top c : ℕ) (ns : List ℕ) → top < c → AreGivenTo top ns → AreGivenTo c (ns ++ c ∷ [])
given_end top c [] less given = (le_refl c, given)
given_end top c (n ∷ ns) less given = (omega (arith, less, given.0), given_end top c ns less given.1)

given_below : (top c : ℕ) (ns : List ℕ) → top < c → AreGivenTo top ns → (i : ℕ) → i < length ns → slice_index ns i < c
given_below top c [] less given i within = absurd (omega (arith, within))
given_below top c (n ∷ ns) less given zero within = omega (arith, less, given.0)
given_below top c (n ∷ ns) less given (suc i) within = given_below top c ns less given.1 i (omega (arith, within))

given_kept : (top : ℕ) (test : Seat → Bool) (seats : List Seat) → AreGivenTo top (numbers_of seats) → AreGivenTo top (numbers_of (filter test seats))
given_kept top test [] given = given
given_kept top test (seat ∷ seats) given = by (test seat) (given_kept top test seats given.1)
  where
    by : (b : Bool) → AreGivenTo top (numbers_of (filter test seats)) → AreGivenTo top (numbers_of (cond b (seat ∷ filter test seats) (filter test seats)))
    by true rest = (given.0, rest)
    by false rest = rest

-- ---- clients, and the greatest number

abbrev Stand : Moving → Type 0
Stand x = AreSeated x.desk.state × AreGivenTo x.top (numbers_of x.desk.state.seats.items)

abbrev Go : Moving → Moving → Type 0
Go x y = Stand x → Stand y

pub same_go : (x y : Moving) → numbers_of y.desk.state.seats.items ≡ numbers_of x.desk.state.seats.items → x.top ≤ y.top → Go x y
same_go x y numbers le (order, given) =
    (subst (λ (ns : List ℕ). AreInOrder ns) (sym numbers) order, subst (λ (ns : List ℕ). AreGivenTo y.top ns) (sym numbers) (given_more x.top y.top (numbers_of x.desk.state.seats.items) le given))

as_great : (a b : ℕ) → b ≡ a → a ≤ b
as_great a b is = subst (λ (n : ℕ). a ≤ n) (sym is) (le_refl a)

-- ---- decisions

decides_go : (more : ℕ) (shelf : KeptMap) (x : Moving) (log : Log) (y : Moving) (any : Bool) → Decides more shelf x log y any → Go x y
unfolding Decides
decides_go zero shelf x log y any it stand =
    same_go x y (ap (λ (m : Moving). numbers_of m.desk.state.seats.items) it.1) (as_great x.top y.top (ap (λ (m : Moving). m.top) it.1)) stand
decides_go (suc more) shelf x log y any (found, due, first, rest) stand =
    by due rest (λ next others later decides. decides_go more shelf next others y later decides)
    (same_go x (with_state found x) (found_stays shelf x.desk.state.awake.items x.desk.state found due first).numbers (le_refl x.top) stand)
  where
    by : (o : Option (ℕ × Due)) → (elim o as (λ c. Type 0) [
      | None ↦ (log ≡ []) × (y ≡ with_state found x) × (any ≡ false)
      | Some d ↦ (next : Moving) × (one : Log) × (others : Log) × (later : Bool) × (log ≡ one ++ others) × TakesOne d.0 d.1 (with_state found x) one next × Decides more shelf next others y later × (any ≡ true)
    ]) → ((next : Moving) (others : Log) (later : Bool) → Decides more shelf next others y later → Go next y) → Go (with_state found x) y
    by None none behind here = same_go (with_state found x) y (ap (λ (m : Moving). numbers_of m.desk.state.seats.items) none.1) (as_great x.top y.top (ap (λ (m : Moving). m.top) none.1)) here
    by (Some d) (next, one, others, later, log_is, takes, decides, is) behind here =
        behind next others later decides (same_go (with_state found x) next takes.numbers (as_great x.top next.top takes.top) here)

all_go : (shelf : KeptMap) (x : Moving) (log : Log) (y : Moving) (any : Bool) → DecidesAll shelf x log y any → Go x y
all_go shelf x log y any all stand =
    decides_go 65536 shelf all.between all.rest y all.later all.decides
    (same_go x all.between (ap (λ (d : Desk). numbers_of d.state.seats.items) all.turned.desk) (as_great x.top all.between.top all.turned.top) stand)

-- ---- places: each new connection has a number above all that were given

dialled_rise : (m : Moment) (number : ℕ) (e : Entry) (host : List ℕ) (x : Around) (log : Log) (y : Around) → IsDialled m number e host x log y → x.top ≤ y.top
dialled_rise m number e host x log y it = by it.answer it.number_is it.top
  where
    by : (r : Result ℕ WireFault) → IfOk r (IsNewNumber x.top) → y.top ≡ result_unwrap_or r x.top → x.top ≤ y.top
    by (Ok k) new top = omega (arith, new.above, top)
    by (Err fault) new top = as_great x.top y.top top

to_rise : (m : Moment) (number : ℕ) (e : Entry) (o : Option (List ℕ)) (x : Around) (log : Log) (y : Around) → IsDialledTo m number e o x log y → x.top ≤ y.top
to_rise m number e None x log y it = as_great x.top y.top (ap (λ (z : Around). z.top) it.1)
to_rise m number e (Some host) x log y it = dialled_rise m number e host x log y it

for_rise : (m : Moment) (number : ℕ) (o : Option Entry) (x : Around) (log : Log) (y : Around) → IsDialledFor m number o x log y → x.top ≤ y.top
for_rise m number None x log y it = as_great x.top y.top (ap (λ (z : Around). z.top) it.1)
for_rise m number (Some e) x log y it = to_rise m number e (dials_to (host_of e) x.sides.peers) x log y it

placed_rise : (p : Placed) (m : Moment) (number : ℕ) (x : Around) (log : Log) (y : Around) → IsPlacedAs p m number x log y → x.top ≤ y.top
placed_rise (On k) m number x log y it = as_great x.top y.top (ap (λ (z : Around). z.top) it.1)
placed_rise Dial m number x log y it = for_rise m number (entry_of number x.sides.parts.flow) x log y it
placed_rise (CloseThenDial k) m number x log y it = as_great x.top y.top (ap (λ (z : Around). z.top) it.1)
placed_rise Wait m number x log y it = as_great x.top y.top (ap (λ (z : Around). z.top) it.1)

abbrev Onward : Moment → Option ℕ → Around → Log → Around → (Option ℕ → Around → Log → Type 0) → Option ℕ → Type 0
Onward m after x log y rest_of o = elim o as (λ c. Type 0) [
  | None ↦ (log ≡ []) × (y ≡ x)
  | Some number ↦ (next : Around) × (first : Log) × (rest : Log) × (log ≡ first ++ rest) × IsPlaced m number x first next × rest_of (goes_on_behind (place_for m.limits number x.sides) number) next rest
]

one_rises : (m : Moment) (after : Option ℕ) (x : Around) (log : Log) (y : Around) (rest_of : Option ℕ → Around → Log → Type 0) (o : Option ℕ) → ((behind : Option ℕ) (next : Around) (rest : Log) → rest_of behind next rest → next.top ≤ y.top) → Onward m after x log y rest_of o → x.top ≤ y.top
one_rises m after x log y rest_of None later is = as_great x.top y.top (ap (λ (z : Around). z.top) is.1)
one_rises m after x log y rest_of (Some number) later (next, first, rest, log_is, one, more_of) =
    le_trans (placed_rise (place_for m.limits number x.sides) m number x first next one) (later (goes_on_behind (place_for m.limits number x.sides) number) next rest more_of)

places_rise : (more : ℕ) (m : Moment) (after : Option ℕ) (x : Around) (log : Log) (y : Around) → ArePlaced more m after x log y → x.top ≤ y.top
unfolding ArePlaced
places_rise zero m after x log y it = as_great x.top y.top (ap (λ (z : Around). z.top) it.1)
places_rise (suc more) m after x log y it =
    one_rises m after x log y (λ behind next rest. ArePlaced more m behind next rest y) (next_waiting after x.sides) (λ behind next rest later. places_rise more m behind next rest y later) it

-- ---- rounds

closes_go : (x : Moving) (log : Log) (y : Moving) → ClosesOver x log y → Go x y
closes_go x log y over stand = (
  subst (λ (seats : List Seat). AreInOrder (numbers_of seats)) (sym over.seats) (left_in_order x.desk.state stand.0),
  subst (λ (top : ℕ). AreGivenTo top (numbers_of y.desk.state.seats.items)) (sym over.top) (subst (λ (seats : List Seat). AreGivenTo x.top (numbers_of seats)) (sym over.seats) (by (is_any_over x.desk.state))),
)
  where
    by : (b : Bool) → AreGivenTo x.top (numbers_of (cond b (filter (stays x.desk.state.is_stopped) x.desk.state.seats.items) x.desk.state.seats.items))
    by true = given_kept x.top (stays x.desk.state.is_stopped) x.desk.state.seats.items stand.1
    by false = stand.1

round_go : (shelf : KeptMap) (x : Moving) (log : Log) (y : Moving) (any : Bool) → GoesRound shelf x log y any → Go x y
round_go shelf x log y any r stand =
    all_go shelf r.placed r.deciding y any r.decides
    (same_go r.closed r.placed r.places.numbers (places_rise 65536 (moment_of r.closed.desk.state) None _ r.placing _ r.places.is)
    (closes_go (with_desk r.asked x) r.closing r.closed r.closes
    (same_go x (with_desk r.asked x) (r.fills.numbers ∙ r.gives.numbers ∙ r.drops.numbers) (le_refl x.top) stand)))

gone : (b : Bool) (s : Turn) → (gone_astray_where b s).seats ≡ s.seats
gone true s = refl
gone false s = refl

rounds_go : (more : ℕ) (shelf : KeptMap) (any : Bool) (x : Moving) (log : Log) (y : Moving) → GoRounds more shelf any x log y → Go x y
unfolding GoRounds
rounds_go zero shelf any x log y it stand =
    same_go x y (ap (λ (m : Moving). numbers_of m.desk.state.seats.items) it.1 ∙ ap (λ v. numbers_of v.items) (gone any x.desk.state)) (as_great x.top y.top (ap (λ (m : Moving). m.top) it.1)) stand
rounds_go (suc more) shelf false x log y it stand = same_go x y (ap (λ (m : Moving). numbers_of m.desk.state.seats.items) it.1) (as_great x.top y.top (ap (λ (m : Moving). m.top) it.1)) stand
rounds_go (suc more) shelf true x log y (next, one, others, again, log_is, first, rest) stand = rounds_go more shelf again next others y rest (round_go shelf x one next again first stand)

serves_go : (shelf : KeptMap) (x : Moving) (log : Log) (y : Moving) → Serves shelf x log y → Go x y
serves_go shelf x log y it stand = same_go it.between y it.begins.numbers (as_great it.between.top y.top it.top) (rounds_go 65536 shelf true x log it.between it.rounds stand)

on_by : (stopped : Bool) (shelf : KeptMap) (x : Moving) (log : Log) (y : Moving) → GoesOn stopped shelf x log y → Go x y
on_by true shelf x log y over = closes_go x log y over
on_by false shelf x log y it = serves_go shelf x log y it

-- ---- all of it

stands : (x : Moving) → Stand x → length x.desk.buffer.items ≤ vec_capacity x.desk.«data» → StandsOrdered x
stands x stand room = record { seated = stand.0; given = stand.1; room = room }

roomy : (x y : Desk) → length y.buffer.items ≡ length x.buffer.items → vec_capacity x.«data» ≤ vec_capacity y.«data» → length x.buffer.items ≤ vec_capacity x.«data» → length y.buffer.items ≤ vec_capacity y.«data»
roomy x y long more room = omega (arith, long, more, room)

same_room : (x y : Desk) → y.buffer ≡ x.buffer → y.«data» ≡ x.«data» → length x.buffer.items ≤ vec_capacity x.«data» → length y.buffer.items ≤ vec_capacity y.«data»
same_room x y buffer bytes room = roomy x y (ap (λ b. length b.items) buffer) (as_great (vec_capacity x.«data») (vec_capacity y.«data») (ap (λ b. vec_capacity b) bytes)) room

pub settled : OrderedAsSettled
settled shelf x y log it st =
    let work = settles_work shelf x y log it in
    stands y
    (on_by it.between.desk.state.is_stopped shelf it.between it.rest y it.goes (all_go shelf x it.first it.between it.any it.decides (st.seated, st.given)))
    (same_room x.desk y.desk (ap (λ (d : Desk). d.buffer) work) (ap (λ (d : Desk). d.«data») work) st.room)

pub left : OrderedAsLeft
left x y log it st =
    stands y
    (same_go x y (it.gives.numbers ∙ ap (λ (s : Turn). numbers_of s.seats.items) it.leaves.is.rest ∙ it.regains.numbers) (as_great x.top y.top it.top) (st.seated, st.given))
    (same_room x.desk y.desk
    (ap (λ (d : Desk). d.buffer) it.gives.rest ∙ ap (λ (d : Desk). d.buffer) it.leaves.rest ∙ ap (λ (d : Desk). d.buffer) it.regains.rest)
    (ap (λ (d : Desk). d.«data») it.gives.rest ∙ ap (λ (d : Desk). d.«data») it.leaves.rest ∙ ap (λ (d : Desk). d.«data») it.regains.rest) st.room)

pub kept : OrderedAsKept
kept x y it st =
    stands y.moving
    (same_go x.moving y.moving (ap (λ (d : Desk). numbers_of d.state.seats.items) it.rest) (as_great x.moving.top y.moving.top it.top) (st.seated, st.given))
    (same_room x.moving.desk y.moving.desk (ap (λ (d : Desk). d.buffer) it.rest) (ap (λ (d : Desk). d.«data») it.rest) st.room)

pub waited : OrderedOverWaits
waited before w clients x e f awaits rests st =
    stands (with_desk f x)
    (same_go x (with_desk f x) (ap numbers_of (rests.seats ∙ waiting_is e.state) ∙ all_numbers e.state e.state.awake.items e.state.seats.items ∙ ap (λ (seats : List Seat). numbers_of seats) awaits.seats) (le_refl x.top) (st.seated, st.given))
    (same_room x.desk f (ap (λ (d : Desk). d.buffer) rests.rest ∙ ap (λ (d : Desk). d.buffer) awaits.rest) (ap (λ (d : Desk). d.«data») rests.rest ∙ ap (λ (d : Desk). d.«data») awaits.rest) st.room)

-- ---- events

-- the same clients, and as much room at least
record StaysAt (x y : Turning) : Type 0 where
  numbers : numbers_of y.moving.desk.state.seats.items ≡ numbers_of x.moving.desk.state.seats.items
  top : y.moving.top ≡ x.moving.top
  long : length y.moving.desk.buffer.items ≡ length x.moving.desk.buffer.items
  more : vec_capacity x.moving.desk.«data» ≤ vec_capacity y.moving.desk.«data»

still : (x y : Turning) → StaysAt x y → StandsOrdered x.moving → StandsOrdered y.moving
still x y it st =
    stands y.moving (same_go x.moving y.moving it.numbers (as_great x.moving.top y.moving.top it.top) (st.seated, st.given)) (roomy x.moving.desk y.moving.desk it.long it.more st.room)

same_bytes : (x y : Desk) → y.«data» ≡ x.«data» → vec_capacity x.«data» ≤ vec_capacity y.«data»
same_bytes x y is = as_great (vec_capacity x.«data») (vec_capacity y.«data») (ap (λ b. vec_capacity b) is)

at_then : (x y z : Turning) → StaysAt x y → StaysAt y z → StaysAt x z
at_then x y z one two = record { numbers = two.numbers ∙ one.numbers; top = two.top ∙ one.top; long = two.long ∙ one.long; more = le_trans one.more two.more }

read_by : (o : Option ℕ) (id : ℕ) (x y : Turning) → ReadsBy o id x y → StaysAt x y
read_by (Some i) id x y it = record {
  numbers = it.numbers;
  top = it.one.top;
  long = it.long ∙ ap (λ (d : Desk). length d.buffer.items) it.rouses.rest;
  more = same_bytes x.moving.desk y.moving.desk (ap (λ (d : Desk). d.«data») it.rest ∙ ap (λ (d : Desk). d.«data») it.rouses.rest);
}
read_by None id x y it = record { numbers = it.numbers; top = it.one.top; long = it.long; more = it.room }

written_by : (o : Option ℕ) (id : ℕ) (x y : Turning) → WritesBy o id x y → StaysAt x y
written_by (Some i) id x y it = record {
  numbers = it.numbers;
  top = it.top;
  long = ap (λ (d : Desk). length d.buffer.items) it.says.rest ∙ ap (λ (d : Desk). length d.buffer.items) it.says.stays ∙ ap (λ (d : Desk). length d.buffer.items) it.rouses.rest;
  more = same_bytes x.moving.desk y.moving.desk (ap (λ (d : Desk). d.«data») it.says.rest ∙ ap (λ (d : Desk). d.«data») it.says.stays ∙ ap (λ (d : Desk). d.«data») it.rouses.rest);
}
written_by None id x y it = record { numbers = it.numbers; top = it.one.top; long = ap (λ (d : Desk). length d.buffer.items) it.rest; more = it.room }

woken_at : (id : ℕ) (x : Turning) (woken : Desk) → Wakes id x.moving.desk woken → StaysAt x (at_desk woken x)
woken_at id x woken it = record {
  numbers = it.touches.numbers ∙ it.regains.numbers;
  top = refl;
  long = ap (λ (d : Desk). length d.buffer.items) it.touches.rest ∙ ap (λ (d : Desk). length d.buffer.items) it.regains.rest;
  more = same_bytes x.moving.desk woken (ap (λ (d : Desk). d.«data») it.touches.rest ∙ ap (λ (d : Desk). d.«data») it.regains.rest);
}

behind_at : (event : Event) (log : Option Log) (faults : ℕ) (x y : Turning) → (newcomer_of event ≡ None) → Handles event (behind event log faults x) y → StaysAt (behind event log faults x) y
behind_at Stop log faults x y none (it, silent) = record {
  numbers = ap (λ (d : Desk). numbers_of d.state.seats.items) it.rest;
  top = silent.top;
  long = ap (λ (d : Desk). length d.buffer.items) it.rest;
  more = same_bytes x.moving.desk y.moving.desk (ap (λ (d : Desk). d.«data») it.rest);
}
behind_at (Tick seconds) log faults x y none (it, silent) = record {
  numbers = tick_numbers seconds x.moving.desk y.moving.desk it;
  top = silent.top;
  long = ap (λ (d : Desk). length d.buffer.items) it.rest;
  more = same_bytes x.moving.desk y.moving.desk (ap (λ (d : Desk). d.«data») it.rest);
}
behind_at (Accepted c) log faults x y none it = absurd (cc none)
behind_at (Readable id) log faults x y none it =
    let z : Turning = behind (Readable id) log faults x in
    at_then z (at_desk it.woken z) y (woken_at id z it.woken it.wakes) (read_by (place_of id (numbers_of it.woken.state.seats.items)) id (at_desk it.woken z) y it.reads)
behind_at (Writable id) log faults x y none it =
    let z : Turning = behind (Writable id) log faults x in
    at_then z (at_desk it.woken z) y (woken_at id z it.woken it.wakes) (written_by (place_of id (numbers_of it.woken.state.seats.items)) id (at_desk it.woken z) y it.writes)
behind_at (Reached k) log faults x y none (it, silent) = record {
  numbers = it.reaches.numbers ∙ it.touches.numbers;
  top = silent.top;
  long = ap (λ (d : Desk). length d.buffer.items) it.reaches.rest ∙ ap (λ (d : Desk). length d.buffer.items) it.touches.rest;
  more = same_bytes x.moving.desk y.moving.desk (ap (λ (d : Desk). d.«data») it.reaches.rest ∙ ap (λ (d : Desk). d.«data») it.touches.rest);
}
behind_at (Broken k) log faults x y none (it, silent) = record {
  numbers = it.numbers ∙ it.regains.numbers;
  top = silent.top;
  long = ap (λ (d : Desk). length d.buffer.items) it.rest ∙ ap (λ (d : Desk). length d.buffer.items) it.regains.rest;
  more = le_trans (same_bytes x.moving.desk it.anew (ap (λ (d : Desk). d.«data») it.regains.rest)) it.room;
}

-- a client that comes stands behind the others
come_so : (c : ℕ) (log : Option Log) (faults : ℕ) (x y : Turning) → IsNewNumber x.moving.top c → Handles (Accepted c) (behind (Accepted c) log faults x) y → StandsOrdered x.moving → StandsOrdered y.moving
come_so c log faults x y new (inl it, silent) st =
    let seats : numbers_of y.moving.desk.state.seats.items ≡ numbers_of x.moving.desk.state.seats.items ++ c ∷ [] = ap numbers_of it.seats ∙ seats_more x.moving.desk.state.seats.items (newcomer c x.moving.desk) in
    stands y.moving (
      subst (λ (ns : List ℕ). AreInOrder ns) (sym seats) (order_more (numbers_of x.moving.desk.state.seats.items) c st.seated (given_below x.moving.top c (numbers_of x.moving.desk.state.seats.items) new.above st.given)),
      subst (λ (top : ℕ). AreGivenTo top (numbers_of y.moving.desk.state.seats.items)) (sym silent.top)
          (subst (λ (ns : List ℕ). AreGivenTo c ns) (sym seats) (given_end x.moving.top c (numbers_of x.moving.desk.state.seats.items) new.above st.given)),
    )
    (same_room x.moving.desk y.moving.desk (ap (λ (d : Desk). d.buffer) it.rest) (ap (λ (d : Desk). d.«data») it.rest) st.room)
come_so c log faults x y new (inr it, silent) st =
    stands y.moving
    (same_go x.moving y.moving (ap numbers_of it.seats) (omega (arith, silent.top, new.above)) (st.seated, st.given))
    (same_room x.moving.desk y.moving.desk (ap (λ (d : Desk). d.buffer) it.rest) (ap (λ (d : Desk). d.«data») it.rest) st.room)

pub handled : OrderedInEvents
handled Stop log faults x y new it st = still (behind Stop log faults x) y (behind_at Stop log faults x y refl it) (record { seated = st.seated; given = st.given; room = st.room })
handled (Tick seconds) log faults x y new it st = still (behind (Tick seconds) log faults x) y (behind_at (Tick seconds) log faults x y refl it) (record { seated = st.seated; given = st.given; room = st.room })
handled (Accepted c) log faults x y new it st = come_so c log faults x y new it st
handled (Readable id) log faults x y new it st = still (behind (Readable id) log faults x) y (behind_at (Readable id) log faults x y refl it) (record { seated = st.seated; given = st.given; room = st.room })
handled (Writable id) log faults x y new it st = still (behind (Writable id) log faults x) y (behind_at (Writable id) log faults x y refl it) (record { seated = st.seated; given = st.given; room = st.room })
handled (Reached k) log faults x y new it st = still (behind (Reached k) log faults x) y (behind_at (Reached k) log faults x y refl it) (record { seated = st.seated; given = st.given; room = st.room })
handled (Broken k) log faults x y new it st = still (behind (Broken k) log faults x) y (behind_at (Broken k) log faults x y refl it) (record { seated = st.seated; given = st.given; room = st.room })
