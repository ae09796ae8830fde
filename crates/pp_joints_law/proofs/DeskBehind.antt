-- What each event changes of the desk: nothing that is set, no row but as attempts are lost, and exchanges can be asked still.
use Rattle.std.proofs.Common.{◌≡◌, ◌≤◌, refl, sym, subst, ap, ◌∙◌, ℕ, length, max, Option, Some, None, le_refl, le_trans, arith}
use Rattle.std.specs.Prelude.{slice_get, vec_capacity}
use Rattle.std.specs.Option.{option_and_then}
use Rattle.pp_desk.specs.Closings.{KeepsDesk, Sides, sides}
use Rattle.pp_desk.specs.Marks.{marked_seat, touched}
use Rattle.pp_desk.specs.Origins.{without_idle}
use Rattle.pp_desk.specs.declared.desk.Desk.{Desk}
use Rattle.pp_due.specs.OnDisk.{next_on_disk}
use Rattle.pp_joints_law.proofs.Asks.{Can}
use Rattle.pp_joints_law.proofs.CarriedOn.{IsBehind, set_of}
use Rattle.pp_joints_law.proofs.ClearedParts.{ClearsIn, Stays, clears_as, clears_stay, clears_then, itself, on_one, stays_as, stays_beside, stays_then}
use Rattle.pp_joints_law.proofs.ClearedSides.{clears_idle}
use Rattle.pp_joints_law.proofs.ClearedWire.{clears_asked, clears_broken, stays_heard, stays_said}
use Rattle.pp_proxy.specs.Accepting.{IsSeated}
use Rattle.pp_proxy.specs.Handling.{AsksOn, Breaks, HearsAt, Reaches, Rouses, SaysAt, Stops, TicksOn, Wakes}
use Rattle.pp_proxy.specs.Leaving.{Regains}
use Rattle.pp_proxy.specs.Moving.{Turning}
use Rattle.pp_proxy.specs.Ticks.{second_begun}
use Rattle.pp_seats.specs.declared.seat.Next.{Next}
use Rattle.pp_seats.specs.declared.seat.Seat.{Seat}
use Rattle.pp_state.specs.Asking.{asking}
use Rattle.pp_state.specs.Ends.{numbers_of, parts, place_of}
use Rattle.pp_state.specs.declared.state.State.{State as Turn}
use Rattle.pp_talk.specs.Loading.{LoadsWhere}

-- ---- one behind the other

pub behind_then : (x y z : Desk) → IsBehind x y → IsBehind y z → IsBehind x z
behind_then x y z one two = record { set = two.set ∙ one.set; room = le_trans one.room two.room }

le_same : (m n : ℕ) → n ≡ m → m ≤ n
le_same m n is = subst (λ (k : ℕ). m ≤ k) (sym is) (le_refl m)

-- clients, exchanges, what is in memory and connections alone change
kept_desk : (x y : Desk) → KeepsDesk x y → IsBehind x y
kept_desk x y keeps = record { set = ap set_of keeps; room = le_same (vec_capacity x.state.awake) (vec_capacity y.state.awake) (ap (λ (d : Desk). vec_capacity d.state.awake) keeps) }

-- neither what is in memory nor exchanges do
beside : (p q : Turn) → q.cache ≡ p.cache → q.flow ≡ p.flow → Stays (parts p) (parts q)
beside p q cache flow = stays_beside (parts p) (parts q) (ap (λ m. m.instances) cache) (ap (λ m. m.outdated) cache) (λ can. subst Can (sym flow) can)

-- ---- Stop, a client that comes, and a connection that was reached

pub stops_behind : (x y : Desk) → Stops x y → IsBehind x y
stops_behind x y is = record { set = ap set_of is.rest; room = is.room }

pub stops_stay : (x y : Desk) → Stops x y → Stays (parts x.state) (parts y.state)
stops_stay x y is = beside x.state y.state (ap (λ (d : Desk). d.state.cache) is.rest) (ap (λ (d : Desk). d.state.flow) is.rest)

pub seated_behind : (seat : Seat) (x y : Desk) → IsSeated seat x y → IsBehind x y
seated_behind seat x y is = record { set = ap set_of is.rest; room = is.room }

pub seated_stays : (seat : Seat) (x y : Desk) → IsSeated seat x y → Stays (parts x.state) (parts y.state)
seated_stays seat x y is = beside x.state y.state (ap (λ (d : Desk). d.state.cache) is.rest) (ap (λ (d : Desk). d.state.flow) is.rest)

touched_stays : (now id : ℕ) (x y : Desk) → sides y ≡ touched now id (sides x) → Stays (parts x.state) (parts y.state)
touched_stays now id x y is =
    stays_as (parts x.state) (touched now id (sides x)).parts (parts y.state) (ap (λ (w : Sides). w.parts) is) (on_one (place_of id (numbers_of x.state.seats.items)) (marked_seat now) (parts x.state))

pub reaches_behind : (k : ℕ) (x y : Desk) → Reaches k x y → IsBehind x y
reaches_behind k x y is = behind_then x is.woken y (kept_desk x is.woken is.touches.rest) (kept_desk is.woken y is.reaches.rest)

pub reaches_stay : (k : ℕ) (x y : Desk) → Reaches k x y → Stays (parts x.state) (parts y.state)
reaches_stay k x y is =
    stays_then (parts x.state) (parts is.woken.state) (parts y.state) (touched_stays x.state.now k x is.woken is.touches.is)
    (stays_as (parts is.woken.state) (parts is.woken.state) (parts y.state) (ap (λ (w : Sides). w.parts) is.reaches.is) (itself (parts is.woken.state)))

-- ---- the clock

pub ticks_behind : (seconds : ℕ) (x y : Desk) → TicksOn seconds x y → vec_capacity x.state.awake ≤ vec_capacity y.state.awake → IsBehind x y
ticks_behind seconds x y is room = record { set = ap set_of is.rest; room = room }

pub ticks_clear : (seconds : ℕ) (x y : Desk) → TicksOn seconds x y → ClearsIn (parts x.state) (parts y.state)
ticks_clear seconds x y is =
    let now : ℕ = max x.state.now seconds in
    let w : Sides = second_begun now x.state (sides x) in
    clears_as (parts x.state) (without_idle now w).parts (parts y.state) (ap (λ (v : Sides). v.parts) is.is)
    (clears_then (parts x.state) w.parts (without_idle now w).parts (clears_stay (parts x.state) w.parts (stays_beside (parts x.state) w.parts refl refl (λ can. can))) (clears_idle now w))

-- ---- who is woken

regains_behind : (x y : Desk) → Regains x y → IsBehind x y
regains_behind x y is = record { set = ap set_of is.rest; room = le_same (vec_capacity x.state.awake) (vec_capacity y.state.awake) (ap (λ (d : Desk). vec_capacity d.state.awake) is.rest) }

regains_stay : (x y : Desk) → Regains x y → Stays (parts x.state) (parts y.state)
regains_stay x y is = beside x.state y.state (ap (λ (d : Desk). d.state.cache) is.rest) (ap (λ (d : Desk). d.state.flow) is.rest)

pub wakes_behind : (id : ℕ) (x y : Desk) → Wakes id x y → IsBehind x y
wakes_behind id x y is = behind_then x is.anew y (regains_behind x is.anew is.regains) (kept_desk is.anew y is.touches.rest)

pub wakes_stay : (id : ℕ) (x y : Desk) → Wakes id x y → Stays (parts x.state) (parts y.state)
wakes_stay id x y is = stays_then (parts x.state) (parts is.anew.state) (parts y.state) (regains_stay x is.anew is.regains) (touched_stays is.anew.state.now id is.anew y is.touches.is)

pub wakes_lost : (id : ℕ) (x y : Desk) → Wakes id x y → y.state.has_lost_draft ≡ x.state.has_lost_draft
wakes_lost id x y is = ap (λ (d : Desk). d.state.has_lost_draft) is.touches.rest ∙ ap (λ (d : Desk). d.state.has_lost_draft) is.regains.rest

pub roused_behind : (i : ℕ) (x y : Desk) → Rouses i x y → IsBehind x y
roused_behind i x y is = record { set = ap set_of is.rest; room = is.room }

pub roused_stays : (i : ℕ) (x y : Desk) → Rouses i x y → Stays (parts x.state) (parts y.state)
roused_stays i x y is = beside x.state y.state (ap (λ (d : Desk). d.state.cache) is.rest) (ap (λ (d : Desk). d.state.flow) is.rest)

-- ---- a client is read

pub hears_behind : (i : ℕ) (x y : Turning) → HearsAt i x y → IsBehind x.moving.desk y.moving.desk
hears_behind i x y is =
    behind_then x.moving.desk is.roused y.moving.desk (roused_behind i x.moving.desk is.roused is.rouses)
    (record { set = ap set_of is.rest; room = le_same (vec_capacity is.roused.state.awake) (vec_capacity y.moving.desk.state.awake) (ap (λ (d : Desk). vec_capacity d.state.awake) is.rest) })

pub hears_stay : (i : ℕ) (x y : Turning) → HearsAt i x y → Stays (parts x.moving.desk.state) (parts y.moving.desk.state)
hears_stay i x y is =
    stays_then (parts x.moving.desk.state) (parts is.roused.state) (parts y.moving.desk.state) (roused_stays i x.moving.desk is.roused is.rouses)
    (stays_heard (length is.roused.buffer.items) i is.roused.state.awake.items x.moving.links (sides is.roused) (sides y.moving.desk) x.log y.log is.hears)

pub hears_lost : (i : ℕ) (x y : Turning) → HearsAt i x y → y.moving.desk.state.has_lost_draft ≡ x.moving.desk.state.has_lost_draft
hears_lost i x y is = ap (λ (d : Desk). d.state.has_lost_draft) is.rest ∙ ap (λ (d : Desk). d.state.has_lost_draft) is.rouses.rest

-- ---- a client is written to, for whom nothing is read back

-- what is said is said then, with the desk and the log as they were
pub record SaysNow (i : ℕ) (x y : Turning) (seat : Seat) (is : SaysAt i x y) : Type 0 where
  pub state : is.says.loaded.state ≡ is.roused.state
  pub log : is.says.between ≡ x.log
  pub shelf : y.shelf ≡ x.shelf
  pub counted : x.faults ≤ y.faults

pub says_now : (i : ℕ) (x y : Turning) (seat : Seat) (is : SaysAt i x y) → slice_get x.moving.desk.state.seats.items i ≡ Some seat → next_on_disk x.moving.desk.state seat ≡ None → SaysNow i x y seat is
says_now i x y seat is here held = by (option_and_then (next_on_disk is.roused.state) (slice_get is.roused.state.seats.items i)) none is.says.loads
  where
    none : option_and_then (next_on_disk is.roused.state) (slice_get is.roused.state.seats.items i) ≡ None
    none =
        ap (λ (d : Desk). option_and_then (next_on_disk d.state) (slice_get d.state.seats.items i)) is.rouses.rest
        ∙ ap (λ (o : Option Seat). option_and_then (next_on_disk x.moving.desk.state) o) here ∙ held

    by : (o : Option Next) → o ≡ None → LoadsWhere o x.shelf is.roused.state y.shelf is.says.loaded.state x.log is.says.between x.faults is.says.count → SaysNow i x y seat is
    by None at loads = record { state = loads.1; log = loads.2; shelf = loads.0; counted = let count : x.faults ≤ is.says.count = loads.3 in omega (arith, count, is.says.counted) }
    by (Some next) at loads = absurd (cc at)

pub says_behind : (i : ℕ) (x y : Turning) (seat : Seat) (is : SaysAt i x y) → SaysNow i x y seat is → IsBehind x.moving.desk y.moving.desk
says_behind i x y seat is now =
    behind_then x.moving.desk is.roused y.moving.desk (roused_behind i x.moving.desk is.roused is.rouses)
    (behind_then is.roused is.says.loaded y.moving.desk (record { set = set_of_loaded; room = le_same (vec_capacity is.roused.state.awake) (vec_capacity is.says.loaded.state.awake) (ap (λ (p : Turn). vec_capacity p.awake) now.state) })
    (record { set = ap set_of is.says.rest; room = le_same (vec_capacity is.says.loaded.state.awake) (vec_capacity y.moving.desk.state.awake) (ap (λ (d : Desk). vec_capacity d.state.awake) is.says.rest) }))
  where
    set_of_loaded : set_of is.says.loaded ≡ set_of is.roused
    set_of_loaded = ap (λ (p : Turn). set_of (record is.says.loaded { state = p })) now.state ∙ ap set_of is.says.stays

pub says_stay : (i : ℕ) (x y : Turning) (seat : Seat) (is : SaysAt i x y) → SaysNow i x y seat is → Stays (parts x.moving.desk.state) (parts y.moving.desk.state)
says_stay i x y seat is now =
    stays_then (parts x.moving.desk.state) (parts is.roused.state) (parts y.moving.desk.state) (roused_stays i x.moving.desk is.roused is.rouses)
    (stays_then (parts is.roused.state) (parts is.says.loaded.state) (parts y.moving.desk.state)
    (stays_as (parts is.roused.state) (parts is.roused.state) (parts is.says.loaded.state) (ap parts now.state) (itself (parts is.roused.state)))
    (stays_said i is.says.loaded.state.awake.items x.moving.links (sides is.says.loaded) (sides y.moving.desk) is.says.between y.log is.says.says))

pub says_lost : (i : ℕ) (x y : Turning) (seat : Seat) (is : SaysAt i x y) → SaysNow i x y seat is → y.moving.desk.state.has_lost_draft ≡ x.moving.desk.state.has_lost_draft
says_lost i x y seat is now = ap (λ (d : Desk). d.state.has_lost_draft) is.says.rest ∙ ap (λ (p : Turn). p.has_lost_draft) now.state ∙ ap (λ (d : Desk). d.state.has_lost_draft) is.rouses.rest

-- ---- an origin is asked, and its connection breaks

pub asks_behind : (k : ℕ) (x y : Turning) → AsksOn k x y → IsBehind x.moving.desk y.moving.desk
asks_behind k x y is = record { set = ap set_of is.rest; room = le_same (vec_capacity x.moving.desk.state.awake) (vec_capacity y.moving.desk.state.awake) (ap (λ (d : Desk). vec_capacity d.state.awake) is.rest) }

pub asks_clear : (k : ℕ) (x y : Turning) → AsksOn k x y → ClearsIn (parts x.moving.desk.state) (parts y.moving.desk.state)
asks_clear k x y is =
    let d : Desk = x.moving.desk in
    clears_asked (asking k d.state.seats.items d.state.flow) k d.state.now d.state.awake.items x.moving.links (sides d) (sides y.moving.desk) x.log y.log is.asks

pub asks_lost : (k : ℕ) (x y : Turning) → AsksOn k x y → y.moving.desk.state.has_lost_draft ≡ x.moving.desk.state.has_lost_draft
asks_lost k x y is = ap (λ (d : Desk). d.state.has_lost_draft) is.rest

pub breaks_behind : (k : ℕ) (x y : Desk) → Breaks k x y → IsBehind x y
breaks_behind k x y is =
    behind_then x is.anew y (regains_behind x is.anew is.regains) (record { set = ap set_of is.rest; room = le_same (vec_capacity is.anew.state.awake) (vec_capacity y.state.awake) (ap (λ (d : Desk). vec_capacity d.state.awake) is.rest) })

pub breaks_clear : (k : ℕ) (x y : Desk) → Breaks k x y → ClearsIn (parts x.state) (parts y.state)
breaks_clear k x y is =
    clears_then (parts x.state) (parts is.anew.state) (parts y.state) (clears_stay (parts x.state) (parts is.anew.state) (regains_stay x is.anew is.regains)) (clears_broken k is.anew.state.awake.items (sides is.anew) (sides y) is.ends)

pub breaks_lost : (k : ℕ) (x y : Desk) → Breaks k x y → y.state.has_lost_draft ≡ x.state.has_lost_draft
breaks_lost k x y is = ap (λ (d : Desk). d.state.has_lost_draft) is.rest ∙ ap (λ (d : Desk). d.state.has_lost_draft) is.regains.rest
