-- The number of chunks that a cache may have stays as it was set, over each piece of a turn, and over all of it.
use Rattle.std.proofs.Common.{◌≡◌, ◌≤◌, inl, inr, refl, sym, subst, ap, ◌∙◌, ℕ, Bool, true, false, length, max, fold, option_map, List, [], ◌∷◌, ◌++◌, Option, Some, None}
use Rattle.std.specs.Prelude.{vec_capacity}
use Rattle.pp_cache.specs.Memory.{Memory}
use Rattle.pp_desk.specs.Closings.{Sides, sides}
use Rattle.pp_desk.specs.Marks.{touched}
use Rattle.pp_desk.specs.declared.desk.Desk.{Desk}
use Rattle.pp_flow.specs.Changes.{Exchanges, entry_of, numbers as flow_numbers}
use Rattle.pp_flow.specs.declared.entry.Entry.{Entry}
use Rattle.pp_flow.specs.declared.errand.Body.{Body}
use Rattle.pp_flow.specs.declared.errand.Body.TheVariants.{Joining}
use Rattle.pp_keeping.specs.Keeping.{GrownNext, KeepsRun, Keeping as Kept, TakesNext, ends_astray, ends_there, keeping, without_name}
use Rattle.pp_keeping.specs.Kept.{key_under, unkept_of, with_none_kept}
use Rattle.pp_objects.specs.Instances.{id_of, row_of}
use Rattle.pp_objects.specs.declared.id.ObjectId.{ObjectId}
use Rattle.pp_origins.specs.Gots.{Receives, both}
use Rattle.pp_proxy.specs.Accepting.{IsAccepted}
use Rattle.pp_proxy.specs.Handling.{AsksOn, Breaks, HearsAt, Reaches, ReadsAt, ReadsBy, ReceivesOn, Rouses, SaysAt, Stops, TicksOn, Wakes, WritesAt, WritesBy, reached_at}
use Rattle.pp_proxy.specs.Leaving.{Regains}
use Rattle.pp_proxy.specs.Moving.{LeadsOn, Turning, at_desk}
use Rattle.pp_proxy.specs.Leaving.{Leaves}
use Rattle.pp_proxy.specs.Rounds.{Becomes}
use Rattle.pp_proxy.specs.Settling.{Settles}
use Rattle.pp_proxy.specs.Ticks.{second_begun, ticked}
use Rattle.pp_seats.specs.declared.seat.Seat.{Seat}
use Rattle.pp_state.specs.Ends.{numbers_of, parts, place_of}
use Rattle.pp_state.specs.Unseen.{body_noted, bound_of, rested, rested_to, wanted_of}
use Rattle.pp_state.specs.declared.state.State.{State as Turn}
use Rattle.pp_world.specs.declared.event.Event.TheVariants.{Stop, Tick, Accepted, Readable, Writable, Reached, Broken}
use Rattle.pp_grown_law.proofs.Handled.{touched_goes}
use Rattle.pp_grown_law.proofs.Numbers.{Rise, numbered_of, rise_errand, rise_of}
use Rattle.pp_grown_law.proofs.Passing.{Goes, goes_none, goes_same, goes_then}
use Rattle.pp_grown_law.proofs.Repeats.{all_so}
use Rattle.pp_grown_law.proofs.Settled.{given_leads, settled_leads}
use Rattle.pp_grown_law.proofs.Shut.{idle_goes}
use Rattle.pp_grown_law.proofs.SizeReads.{Sized, Sizes, loads_size, received_size, sizes_goes, sizes_same, sizes_then}
use Rattle.pp_grown_law.proofs.Staying.{run_stays}
use Rattle.pp_grown_law.proofs.Turned.{Leads}
use Rattle.pp_grown_law.proofs.Wired.{asked_goes, broken_goes, heard_goes, says_go}
use Rattle.pp_grown_law.specs.Numbered.{AreNumbered}
use Rattle.pp_grown_law.specs.Sized.{HasRoomToRead, SizeAsKept, SizeAsLeft, SizeAsSettled, SizeInEvents, SizeOverWaits, StaysSized, TurnsStaySized}

stays_by : (p q : Turn) → Sizes p q → AreNumbered p.flow → StaysSized p q
stays_by p q sizes are = let all : Sized p q = sizes (rise_of p.flow are) in record { size = all.size; numbered = numbered_of q.flow all.rise }

by_leads : (p q : Turn) → (Rise p.flow → Leads p q) → Sizes p q
by_leads p q leads rise = let all : Leads p q = leads rise in record { size = all.size; rise = all.flow rise }

-- the desk alone changes
same_desk : (x y : Desk) → y.state.cache ≡ x.state.cache → y.state.flow ≡ x.state.flow → Sizes x.state y.state
same_desk x y cache flow = sizes_same x.state y.state cache flow

becomes : (x y : Desk) (z : Sides) → sides y ≡ z → Goes (parts x.state) z.parts → Sizes x.state y.state
becomes x y z is goes = sizes_goes x.state y.state (subst (λ (w : Sides). Goes (parts x.state) w.parts) (sym is) goes)

-- ---- the wait

noted_rise : (o : Option Entry) (n : ℕ) (body : Body) (f : Exchanges) → Rise f → Rise (body_noted o n body f)
noted_rise None n body f rise = rise
noted_rise (Some e) n body f rise = rise_errand n (record e.errand { body = body }) f rise

to_rise : (o : Option ℕ) (n : ℕ) (f : Exchanges) → Rise f → Rise (rested_to o n f)
to_rise None n f rise = rise
to_rise (Some at) n f rise = noted_rise (entry_of n f) n (Joining at) f rise

each_rise : (awake : List ℕ) (seats : List Seat) (ns : List ℕ) (f : Exchanges) → Rise f → Rise (fold (rested awake seats) f ns)
each_rise awake seats [] f rise = rise
each_rise awake seats (n ∷ ns) f rise = each_rise awake seats ns (rested awake seats f n) (to_rise (wanted_of awake seats (bound_of (entry_of n f))) n f rise)

pub waits_sized : SizeOverWaits
waits_sized before w clients d e f awaits rests are = stays_by d.state f.state (sizes_then d.state e.state f.state one two) are
  where
    one : Sizes d.state e.state
    one = same_desk d e (ap (λ (x : Desk). x.state.cache) awaits.rest) (ap (λ (x : Desk). x.state.flow) awaits.rest)

    two : Sizes e.state f.state
    two rise = record {
      size = ap (λ (x : Desk). x.state.cache.size) rests.rest;
      rise = subst Rise (sym rests.flow) (each_rise e.state.awake.items _ (flow_numbers (e.state.flow.waiting ++ e.state.flow.placed)) e.state.flow rise);
    }

-- ---- a client or a connection is looked at

regains_size : (x y : Desk) → Regains x y → Sizes x.state y.state
regains_size x y it = same_desk x y (ap (λ (d : Desk). d.state.cache) it.rest) (ap (λ (d : Desk). d.state.flow) it.rest)

touches_size : (now id : ℕ) (x y : Desk) → Becomes (touched now id) x y → Sizes x.state y.state
touches_size now id x y it = becomes x y (touched now id (sides x)) it.is (touched_goes now id (sides x))

wakes_size : (id : ℕ) (x y : Desk) → Wakes id x y → Sizes x.state y.state
wakes_size id x y it = sizes_then x.state it.anew.state y.state (regains_size x it.anew it.regains) (touches_size it.anew.state.now id it.anew y it.touches)

rouses_size : (i : ℕ) (x y : Desk) → Rouses i x y → Sizes x.state y.state
rouses_size i x y it = same_desk x y (ap (λ (d : Desk). d.state.cache) it.rest) (ap (λ (d : Desk). d.state.flow) it.rest)

-- ---- each event

stops_size : (x y : Desk) → Stops x y → Sizes x.state y.state
stops_size x y it = same_desk x y (ap (λ (d : Desk). d.state.cache) it.rest) (ap (λ (d : Desk). d.state.flow) it.rest)

ticks_size : (seconds : ℕ) (x y : Desk) → TicksOn seconds x y → Sizes x.state y.state
ticks_size seconds x y it = becomes x y (ticked now x.state (sides x)) it.is goes
  where
    now : ℕ
    now = max x.state.now seconds

    begun : Sides
    begun = second_begun now x.state (sides x)

    goes : Goes (parts x.state) (ticked now x.state (sides x)).parts
    goes = goes_then (parts x.state) begun.parts (ticked now x.state (sides x)).parts (goes_same (parts x.state) begun.parts refl refl) (idle_goes now begun)

accepts_size : (c : ℕ) (x y : Desk) → IsAccepted c x y → Sizes x.state y.state
accepts_size c x y (inl seated) = same_desk x y (ap (λ (d : Desk). d.state.cache) seated.rest) (ap (λ (d : Desk). d.state.flow) seated.rest)
accepts_size c x y (inr away) = same_desk x y (ap (λ (d : Desk). d.state.cache) away.rest) (ap (λ (d : Desk). d.state.flow) away.rest)

reaches_size : (k : ℕ) (x y : Desk) → Reaches k x y → Sizes x.state y.state
reaches_size k x y it = sizes_then x.state it.woken.state y.state (touches_size x.state.now k x it.woken it.touches) (becomes it.woken y (reached_at k (sides it.woken)) it.reaches.is (goes_none (parts it.woken.state)))

breaks_size : (k : ℕ) (x y : Desk) → Breaks k x y → Sizes x.state y.state
breaks_size k x y it = sizes_then x.state it.anew.state y.state (regains_size x it.anew it.regains) (sizes_goes it.anew.state y.state (broken_goes k it.anew.state.awake.items (sides it.anew) (sides y) it.ends))

hears_size : (i : ℕ) (x y : Turning) → HearsAt i x y → Sizes x.moving.desk.state y.moving.desk.state
hears_size i x y it =
    sizes_then x.moving.desk.state it.roused.state y.moving.desk.state (rouses_size i x.moving.desk it.roused it.rouses)
    (sizes_goes it.roused.state y.moving.desk.state (heard_goes (length it.roused.buffer.items) i it.roused.state.awake.items x.moving.links (sides it.roused) (sides y.moving.desk) x.log y.log it.hears))

says_size : (i : ℕ) (x y : Turning) → SaysAt i x y → Sizes x.moving.desk.state y.moving.desk.state
says_size i x y it =
    sizes_then x.moving.desk.state it.roused.state y.moving.desk.state (rouses_size i x.moving.desk it.roused it.rouses)
    (sizes_then it.roused.state it.says.loaded.state y.moving.desk.state
    (loads_size x.shelf y.shelf it.roused.state it.says.loaded.state i x.log it.says.between x.faults it.says.count it.says.loads)
    (sizes_goes it.says.loaded.state y.moving.desk.state (says_go i it.says.loaded.state.awake.items x.moving.links (sides it.says.loaded) (sides y.moving.desk) it.says.between y.log it.says.says)))

asks_size : (k : ℕ) (x y : Turning) → AsksOn k x y → Sizes x.moving.desk.state y.moving.desk.state
asks_size k x y it =
    sizes_goes x.moving.desk.state y.moving.desk.state (asked_goes _ k x.moving.desk.state.now x.moving.desk.state.awake.items x.moving.links (sides x.moving.desk) (sides y.moving.desk) x.log y.log it.asks)

receives_size : (k : ℕ) (x y : Turning) → HasRoomToRead x.moving.desk → ReceivesOn k x y → Sizes x.moving.desk.state y.moving.desk.state
receives_size k x y room it =
    sizes_then x.moving.desk.state receives.begins.state y.moving.desk.state
    (sizes_goes x.moving.desk.state receives.begins.state (subst (λ (z : Sides). Goes (parts x.moving.desk.state) z.parts) (sym receives.same.is) (goes_none (parts x.moving.desk.state))))
    (received_size k receives.found x.shelf receives.front receives.begins (both y.moving.desk) receives.is)
  where
    receives : Receives (length x.moving.desk.buffer.items) x.shelf k x.moving.links (both x.moving.desk) (both y.moving.desk) x.log y.log
    receives = it.receives room

room_still : (id : ℕ) (x y : Desk) → Wakes id x y → HasRoomToRead x → HasRoomToRead y
room_still id x y it room = subst (λ (n : ℕ). length y.buffer.items ≤ n) (sym holds) (subst (λ (n : ℕ). n ≤ vec_capacity x.«data») (sym buffer) room)
  where
    buffer : length y.buffer.items ≡ length x.buffer.items
    buffer = ap (λ (d : Desk). length d.buffer.items) it.touches.rest ∙ ap (λ (d : Desk). length d.buffer.items) it.regains.rest

    holds : vec_capacity y.«data» ≡ vec_capacity x.«data»
    holds = ap (λ (d : Desk). vec_capacity d.«data») it.touches.rest ∙ ap (λ (d : Desk). vec_capacity d.«data») it.regains.rest

reads_size : (id : ℕ) (x y : Turning) → HasRoomToRead x.moving.desk → ReadsAt id x y → Sizes x.moving.desk.state y.moving.desk.state
reads_size id x y room it = sizes_then x.moving.desk.state it.woken.state y.moving.desk.state (wakes_size id x.moving.desk it.woken it.wakes) (by (place_of id (numbers_of it.woken.state.seats.items)) it.reads)
  where
    by : (o : Option ℕ) → ReadsBy o id (at_desk it.woken x) y → Sizes it.woken.state y.moving.desk.state
    by None receives = receives_size id (at_desk it.woken x) y (room_still id x.moving.desk it.woken it.wakes room) receives
    by (Some i) hears = hears_size i (at_desk it.woken x) y hears

writes_size : (id : ℕ) (x y : Turning) → WritesAt id x y → Sizes x.moving.desk.state y.moving.desk.state
writes_size id x y it = sizes_then x.moving.desk.state it.woken.state y.moving.desk.state (wakes_size id x.moving.desk it.woken it.wakes) (by (place_of id (numbers_of it.woken.state.seats.items)) it.writes)
  where
    by : (o : Option ℕ) → WritesBy o id (at_desk it.woken x) y → Sizes it.woken.state y.moving.desk.state
    by (Some i) says = says_size i (at_desk it.woken x) y says
    by None asks = asks_size id (at_desk it.woken x) y asks

pub events_sized : SizeInEvents
events_sized Stop x y room are it = stays_by x.moving.desk.state y.moving.desk.state (stops_size x.moving.desk y.moving.desk it.0) are
events_sized (Tick seconds) x y room are it = stays_by x.moving.desk.state y.moving.desk.state (ticks_size seconds x.moving.desk y.moving.desk it.0) are
events_sized (Accepted c) x y room are it = stays_by x.moving.desk.state y.moving.desk.state (accepts_size c x.moving.desk y.moving.desk it.0) are
events_sized (Readable id) x y room are it = stays_by x.moving.desk.state y.moving.desk.state (reads_size id x y room it) are
events_sized (Writable id) x y room are it = stays_by x.moving.desk.state y.moving.desk.state (writes_size id x y it) are
events_sized (Reached k) x y room are it = stays_by x.moving.desk.state y.moving.desk.state (reaches_size k x.moving.desk y.moving.desk it.0) are
events_sized (Broken k) x y room are it = stays_by x.moving.desk.state y.moving.desk.state (breaks_size k x.moving.desk y.moving.desk it.0) are

-- ---- what leaves memory

pub left_sized : SizeAsLeft
left_sized x y log are it =
    stays_by x.desk.state y.desk.state
    (sizes_then x.desk.state it.anew.state y.desk.state (regains_size x.desk it.anew it.regains) (sizes_then it.anew.state it.left.state y.desk.state leaves (by_leads it.left.state y.desk.state (given_leads it.left y.desk it.gives)))) are
  where
    leaves : Sizes it.anew.state it.left.state
    leaves rise = record { size = ap (λ (m : Memory). m.size) it.leaves.is.cache.rest; rise = subst Rise (sym (ap (λ (t : Turn). t.flow) it.leaves.is.rest)) rise }

-- ---- what is kept on the disk

module _ (size : ℕ) where
  abbrev IsOfSize : Kept → Type 0
  IsOfSize x = x.state.cache.size ≡ size

  unkept_size : (o : Option (List ℕ)) (m : Memory) → (unkept_of o m).size ≡ m.size
  unkept_size None m = refl
  unkept_size (Some key) m = by (option_map id_of (row_of key m.instances))
    where
      by : (o : Option ObjectId) → (with_none_kept o m).size ≡ m.size
      by None = refl
      by (Some id) = refl

  name_size : (x y : Kept) (goes : Bool) → TakesNext x y goes → IsOfSize x → IsOfSize y
  name_size x y false step is = subst IsOfSize (sym step.1) is
  name_size x y true step is = ap (λ (t : Turn). t.cache.size) step.state ∙ unkept_size (key_under step.name x.outside.shelf) (without_name x.state.cache) ∙ is

  there_size : (goes : Bool) (x : Kept) → IsOfSize x → IsOfSize (ends_there goes x)
  there_size goes x is = is

  astray_size : (goes : Bool) (x : Kept) → IsOfSize x → IsOfSize (ends_astray goes x)
  astray_size true x is = is
  astray_size false x is = is

  module _ (room : ℕ) where
    run_size : (id : ObjectId) (x y : Kept) (goes : Bool) → KeepsRun id room x y goes → IsOfSize x → IsOfSize y
    run_size id x y goes it is = (run_stays id room x y goes it).size ∙ is

    grown_size : (x y : Kept) (goes : Bool) → GrownNext room x y goes → IsOfSize x → IsOfSize y
    grown_size x y false step is = subst IsOfSize (sym step.1) is
    grown_size x y true step is = all_so IsOfSize ends_astray (KeepsRun step.id room) astray_size (run_size step.id) 16386 true _ y step.runs is

pub kept_sized : SizeAsKept
kept_sized x y are it = record { size = all; numbered = subst AreNumbered (sym (ap (λ (d : Desk). d.state.flow) it.rest)) are }
  where
    size : ℕ
    size = x.moving.desk.state.cache.size

    first : IsOfSize size it.is.between
    first = all_so (IsOfSize size) ends_there TakesNext (there_size size) (name_size size) (length x.moving.desk.state.cache.outdated) true (keeping x.moving.desk.state x.shelf x.log x.faults) it.is.between it.is.takes refl

    all : y.moving.desk.state.cache.size ≡ size
    all =
        all_so (IsOfSize size) ends_astray (GrownNext (length x.moving.desk.file.items)) (astray_size size) (grown_size size (length x.moving.desk.file.items)) 17 true it.is.between (keeping y.moving.desk.state y.shelf y.log y.faults)
        it.is.keeps first

-- ---- decisions, rounds, and the end

pub settled_sized : SizeAsSettled
settled_sized shelf x y log are it = stays_by x.desk.state y.desk.state (by_leads x.desk.state y.desk.state (settled_leads shelf x y log it)) are

-- ---- all of it

pub sized_then : (p q r : Turn) → StaysSized p q → StaysSized q r → StaysSized p r
sized_then p q r one two = record { size = two.size ∙ one.size; numbered = two.numbered }

pub turns_sized : TurnsStaySized
turns_sized event x y it at handled kept room are =
    sized_then x.moving.desk.state it.handled.moving.desk.state y.moving.desk.state one
    (sized_then it.handled.moving.desk.state it.left.moving.desk.state y.moving.desk.state two (sized_then it.left.moving.desk.state it.kept.moving.desk.state y.moving.desk.state three four))
  where
    one : StaysSized x.moving.desk.state it.handled.moving.desk.state
    one = events_sized event x it.handled room are (it.handles at)

    leaves : LeadsOn Leaves it.handled.moving it.left.moving it.handled.log it.left.log it.handled.faults it.left.faults
    leaves = it.leaves handled

    two : StaysSized it.handled.moving.desk.state it.left.moving.desk.state
    two = left_sized it.handled.moving it.left.moving leaves.added one.numbered leaves.is

    three : StaysSized it.left.moving.desk.state it.kept.moving.desk.state
    three = kept_sized it.left it.kept two.numbered it.keeps

    settles : LeadsOn (Settles it.kept.shelf) it.kept.moving y.moving it.kept.log y.log it.kept.faults y.faults
    settles = it.settles kept

    four : StaysSized it.kept.moving.desk.state y.moving.desk.state
    four = settled_sized it.kept.shelf it.kept.moving y.moving settles.added three.numbered settles.is
