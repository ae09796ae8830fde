-- An event brings nothing that is to be kept, but for the read of an origin.
use Rattle.std.proofs.Common.{◌≡◌, ◌≤◌, inl, inr, refl, sym, subst, ap, ◌∙◌, ℕ, true, false, not, length, max, List, Option, Some, None}
use Rattle.std.specs.Prelude.{is_some}
use Rattle.pp_desk.specs.Closings.{KeepsDesk, Sides, sides}
use Rattle.pp_desk.specs.Marks.{marked_seat, touched}
use Rattle.pp_desk.specs.declared.desk.Desk.{Desk}
use Rattle.pp_objects.specs.declared.id.ObjectId.{ObjectId}
use Rattle.pp_proxy.specs.Accepting.{IsAccepted}
use Rattle.pp_proxy.specs.Handling.{AsksOn, Breaks, HearsAt, Reaches, ReadsAt, ReadsBy, Rouses, SaysAt, Stops, TicksOn, Wakes, WritesAt, WritesBy, reached_at}
use Rattle.pp_proxy.specs.Leaving.{Regains}
use Rattle.pp_proxy.specs.Moving.{Turning, at_desk}
use Rattle.pp_proxy.specs.Rounds.{Becomes}
use Rattle.pp_proxy.specs.Ticks.{second_begun, ticked}
use Rattle.pp_state.specs.Ends.{numbers_of, parts, place_of}
use Rattle.pp_state.specs.declared.state.State.{State as Turn}
use Rattle.pp_store.specs.Kept.{KeptMap}
use Rattle.pp_world.specs.declared.event.Event.TheVariants.{Stop, Tick, Accepted, Readable, Writable, Reached, Broken}
use Rattle.pp_grown_law.proofs.Passing.{Goes, goes_none, goes_same, goes_then, where_goes}
use Rattle.pp_grown_law.proofs.ReadBack.{grows_then, loads_bring, same_rows}
use Rattle.pp_grown_law.proofs.Settled.{row_brings}
use Rattle.pp_grown_law.proofs.Shut.{idle_goes}
use Rattle.pp_grown_law.proofs.Owners.{rows_of}
use Rattle.pp_grown_law.proofs.Wired.{asked_goes, broken_goes, heard_goes, says_go}
use Rattle.pp_grown_law.specs.Handled.{EventsBringNothing, GrowsFew, KeepsWholeChunks, ShownChunksAreWhole}
use Rattle.pp_shelf_law.proofs.Finding.{kept_ones}
use Rattle.pp_shelf_law.specs.Kept.{IsOf}
use Rattle.pp_valid.specs.declared.version.Version.{Version}
use Rattle.pp_store.specs.Kept.{IsExtent}

-- ---- nothing comes into memory

pub goes_grow : (p q : Turn) (shelf : KeptMap) → q.run ≡ p.run → Goes (parts p) (parts q) → GrowsFew p q shelf shelf
goes_grow p q shelf run goes = record {
  brings = record { run = run; kept = λ key k is. is; rows = λ id j found row. row_brings p q shelf id j (rows_of p.cache q.cache goes.memory id j found row) };
  few = λ few. subst (λ (ids : List ObjectId). length ids ≤ 16) (sym goes.memory.grown) few;
}

pub still_grows : (p q : Turn) (shelf : KeptMap) → q.run ≡ p.run → q.cache ≡ p.cache → GrowsFew p q shelf shelf
still_grows p q shelf run cache = same_rows p q shelf shelf run (ap (λ m. m.instances) cache) (ap (λ m. m.chunks) cache) (ap (λ m. m.grown) cache) (λ key k is. is)

run_kept : (x y : Desk) → KeepsDesk x y → y.state.run ≡ x.state.run
run_kept x y keeps = ap (λ (d : Desk). d.state.run) keeps

becomes : (x y : Desk) (z : Sides) (shelf : KeptMap) → KeepsDesk x y → sides y ≡ z → Goes (parts x.state) z.parts → GrowsFew x.state y.state shelf shelf
becomes x y z shelf keeps is goes = goes_grow x.state y.state shelf (run_kept x y keeps) (subst (λ (w : Sides). Goes (parts x.state) w.parts) (sym is) goes)

-- ---- a client or a connection is looked at

regains_grow : (x y : Desk) (shelf : KeptMap) → Regains x y → GrowsFew x.state y.state shelf shelf
regains_grow x y shelf it = still_grows x.state y.state shelf (ap (λ (d : Desk). d.state.run) it.rest) (ap (λ (d : Desk). d.state.cache) it.rest)

pub touched_goes : (now id : ℕ) (x : Sides) → Goes x.parts (touched now id x).parts
touched_goes now id x = where_goes (place_of id (numbers_of x.parts.seats)) (marked_seat now) x.parts

touches_grow : (now id : ℕ) (x y : Desk) (shelf : KeptMap) → Becomes (touched now id) x y → GrowsFew x.state y.state shelf shelf
touches_grow now id x y shelf it = becomes x y (touched now id (sides x)) shelf it.rest it.is (touched_goes now id (sides x))

wakes_grow : (id : ℕ) (x y : Desk) (shelf : KeptMap) → Wakes id x y → GrowsFew x.state y.state shelf shelf
wakes_grow id x y shelf it = grows_then x.state it.anew.state y.state shelf shelf shelf (regains_grow x it.anew shelf it.regains) (touches_grow it.anew.state.now id it.anew y shelf it.touches)

rouses_grow : (i : ℕ) (x y : Desk) (shelf : KeptMap) → Rouses i x y → GrowsFew x.state y.state shelf shelf
rouses_grow i x y shelf it = still_grows x.state y.state shelf (ap (λ (d : Desk). d.state.run) it.rest) (ap (λ (d : Desk). d.state.cache) it.rest)

-- ---- each

stops_grow : (x y : Desk) (shelf : KeptMap) → Stops x y → GrowsFew x.state y.state shelf shelf
stops_grow x y shelf it = still_grows x.state y.state shelf (ap (λ (d : Desk). d.state.run) it.rest) (ap (λ (d : Desk). d.state.cache) it.rest)

ticks_grow : (seconds : ℕ) (x y : Desk) (shelf : KeptMap) → TicksOn seconds x y → GrowsFew x.state y.state shelf shelf
ticks_grow seconds x y shelf it = goes_grow x.state y.state shelf (ap (λ (d : Desk). d.state.run) it.rest) (subst (λ (w : Sides). Goes (parts x.state) w.parts) (sym it.is) goes)
  where
    now : ℕ
    now = max x.state.now seconds

    begun : Sides
    begun = second_begun now x.state (sides x)

    goes : Goes (parts x.state) (ticked now x.state (sides x)).parts
    goes = goes_then (parts x.state) begun.parts (ticked now x.state (sides x)).parts (goes_same (parts x.state) begun.parts refl refl) (idle_goes now begun)

accepts_grow : (c : ℕ) (x y : Desk) (shelf : KeptMap) → IsAccepted c x y → GrowsFew x.state y.state shelf shelf
accepts_grow c x y shelf (inl seated) = still_grows x.state y.state shelf (ap (λ (d : Desk). d.state.run) seated.rest) (ap (λ (d : Desk). d.state.cache) seated.rest)
accepts_grow c x y shelf (inr away) = still_grows x.state y.state shelf (ap (λ (d : Desk). d.state.run) away.rest) (ap (λ (d : Desk). d.state.cache) away.rest)

reaches_grow : (k : ℕ) (x y : Desk) (shelf : KeptMap) → Reaches k x y → GrowsFew x.state y.state shelf shelf
reaches_grow k x y shelf it =
    grows_then x.state it.woken.state y.state shelf shelf shelf (touches_grow x.state.now k x it.woken shelf it.touches)
    (becomes it.woken y (reached_at k (sides it.woken)) shelf it.reaches.rest it.reaches.is (goes_none (parts it.woken.state)))

breaks_grow : (k : ℕ) (x y : Desk) (shelf : KeptMap) → Breaks k x y → GrowsFew x.state y.state shelf shelf
breaks_grow k x y shelf it =
    grows_then x.state it.anew.state y.state shelf shelf shelf (regains_grow x it.anew shelf it.regains)
    (goes_grow it.anew.state y.state shelf (ap (λ (d : Desk). d.state.run) it.rest) (broken_goes k it.anew.state.awake.items (sides it.anew) (sides y) it.ends))

hears_grow : (i : ℕ) (x y : Turning) → HearsAt i x y → GrowsFew x.moving.desk.state y.moving.desk.state x.shelf x.shelf
hears_grow i x y it =
    grows_then x.moving.desk.state it.roused.state y.moving.desk.state x.shelf x.shelf x.shelf (rouses_grow i x.moving.desk it.roused x.shelf it.rouses)
    (goes_grow it.roused.state y.moving.desk.state x.shelf (ap (λ (d : Desk). d.state.run) it.rest)
    (heard_goes (length it.roused.buffer.items) i it.roused.state.awake.items x.moving.links (sides it.roused) (sides y.moving.desk) x.log y.log it.hears))

says_grow : (i : ℕ) (x y : Turning) → KeepsWholeChunks x.shelf → SaysAt i x y → GrowsFew x.moving.desk.state y.moving.desk.state x.shelf y.shelf
says_grow i x y whole it =
    grows_then x.moving.desk.state it.roused.state y.moving.desk.state x.shelf x.shelf y.shelf (rouses_grow i x.moving.desk it.roused x.shelf it.rouses)
    (grows_then it.roused.state it.says.loaded.state y.moving.desk.state x.shelf y.shelf y.shelf
    (loads_bring x.shelf y.shelf it.roused.state it.says.loaded.state whole i x.log it.says.between x.faults it.says.count it.says.loads)
    (goes_grow it.says.loaded.state y.moving.desk.state y.shelf (ap (λ (d : Desk). d.state.run) it.says.rest)
    (says_go i it.says.loaded.state.awake.items x.moving.links (sides it.says.loaded) (sides y.moving.desk) it.says.between y.log it.says.says)))

asks_grow : (k : ℕ) (x y : Turning) → AsksOn k x y → GrowsFew x.moving.desk.state y.moving.desk.state x.shelf x.shelf
asks_grow k x y it =
    goes_grow x.moving.desk.state y.moving.desk.state x.shelf (ap (λ (d : Desk). d.state.run) it.rest)
    (asked_goes _ k x.moving.desk.state.now x.moving.desk.state.awake.items x.moving.links (sides x.moving.desk) (sides y.moving.desk) x.log y.log it.asks)

-- ---- all of it

on_shelf : (p q : Turn) (a b : KeptMap) → b ≡ a → GrowsFew p q a a → GrowsFew p q a b
on_shelf p q a b is grows = subst (λ (s : KeptMap). GrowsFew p q a s) (sym is) grows

reads_grow : (id : ℕ) (x y : Turning) → not (is_some (place_of id (numbers_of x.moving.desk.state.seats.items))) ≡ false → ReadsAt id x y → GrowsFew x.moving.desk.state y.moving.desk.state x.shelf y.shelf
reads_grow id x y client it = by (place_of id (numbers_of it.woken.state.seats.items)) refl it.reads
  where
    numbers : numbers_of it.woken.state.seats.items ≡ numbers_of x.moving.desk.state.seats.items
    numbers = it.wakes.touches.numbers ∙ it.wakes.regains.numbers

    by : (o : Option ℕ) → place_of id (numbers_of it.woken.state.seats.items) ≡ o → ReadsBy o id (at_desk it.woken x) y → GrowsFew x.moving.desk.state y.moving.desk.state x.shelf y.shelf
    by None none reads = absurd (let both : true ≡ false = sym (ap (λ (o : Option ℕ). not (is_some o)) (ap (λ (ns : List ℕ). place_of id ns) (sym numbers) ∙ none)) ∙ client in cc both)
    by (Some i) at reads =
        on_shelf x.moving.desk.state y.moving.desk.state x.shelf y.shelf reads.one.shelf
        (grows_then x.moving.desk.state it.woken.state y.moving.desk.state x.shelf x.shelf x.shelf (wakes_grow id x.moving.desk it.woken x.shelf it.wakes) (hears_grow i (at_desk it.woken x) y reads))

writes_grow : (id : ℕ) (x y : Turning) → KeepsWholeChunks x.shelf → WritesAt id x y → GrowsFew x.moving.desk.state y.moving.desk.state x.shelf y.shelf
writes_grow id x y whole it = grows_then x.moving.desk.state it.woken.state y.moving.desk.state x.shelf x.shelf y.shelf (wakes_grow id x.moving.desk it.woken x.shelf it.wakes) (by (place_of id (numbers_of it.woken.state.seats.items)) it.writes)
  where
    by : (o : Option ℕ) → WritesBy o id (at_desk it.woken x) y → GrowsFew it.woken.state y.moving.desk.state x.shelf y.shelf
    by (Some i) says = says_grow i (at_desk it.woken x) y whole says
    by None asks = on_shelf it.woken.state y.moving.desk.state x.shelf y.shelf asks.one.shelf (asks_grow id (at_desk it.woken x) y asks)

pub events_bring : EventsBringNothing
events_bring Stop x y client whole it = on_shelf x.moving.desk.state y.moving.desk.state x.shelf y.shelf it.1.shelf (stops_grow x.moving.desk y.moving.desk x.shelf it.0)
events_bring (Tick seconds) x y client whole it = on_shelf x.moving.desk.state y.moving.desk.state x.shelf y.shelf it.1.shelf (ticks_grow seconds x.moving.desk y.moving.desk x.shelf it.0)
events_bring (Accepted c) x y client whole it = on_shelf x.moving.desk.state y.moving.desk.state x.shelf y.shelf it.1.shelf (accepts_grow c x.moving.desk y.moving.desk x.shelf it.0)
events_bring (Readable id) x y client whole it = reads_grow id x y client it
events_bring (Writable id) x y client whole it = writes_grow id x y whole it
events_bring (Reached k) x y client whole it = on_shelf x.moving.desk.state y.moving.desk.state x.shelf y.shelf it.1.shelf (reaches_grow k x.moving.desk y.moving.desk x.shelf it.0)
events_bring (Broken k) x y client whole it = on_shelf x.moving.desk.state y.moving.desk.state x.shelf y.shelf it.1.shelf (breaks_grow k x.moving.desk y.moving.desk x.shelf it.0)

-- ---- whole chunks are kept

pub chunks_whole : ShownChunksAreWhole
chunks_whole shelf s shows key kept is =
    let its : IsOf key kept s = kept_ones shelf s key kept shows is in
    subst (λ (v : Version). IsExtent v.length kept.extent) (sym its.shows.version) (subst (λ (n : ℕ). IsExtent its.entry.version.length n) (sym its.shows.extent) its.shows.whole)
