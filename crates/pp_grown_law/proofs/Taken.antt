-- The same where a decision is taken, where followers ask, where asks that bring nothing are given up, and where exchanges get places.
use Rattle.std.proofs.Common.{◌≡◌, refl, sym, subst, ap, ℕ, zero, suc, ◌+◌, Bool, true, false, is_some, List, [], ◌∷◌, ◌++◌, Option, Some, None}
use Rattle.std.specs.Prelude.{slice_get}
use Rattle.pp_cache.specs.Memory.{Memory}
use Rattle.pp_desk.specs.Closings.{Sides, with_parts}
use Rattle.pp_flow.specs.Changes.{Exchanges, entry_of, placed_on}
use Rattle.pp_flow.specs.Entries.{begun_with}
use Rattle.pp_flow.specs.declared.entry.Aim.{Aim}
use Rattle.pp_flow.specs.declared.entry.Aim.TheVariants.{Hole}
use Rattle.pp_flow.specs.declared.entry.Entry.{Entry}
use Rattle.pp_flow.specs.declared.entry.Exchange.{Exchange}
use Rattle.pp_flow.specs.declared.errand.Errand.{Errand}
use Rattle.pp_objects.specs.Changes.{changed_in, followed}
use Rattle.pp_objects.specs.Instances.{Instance, id_of}
use Rattle.pp_objects.specs.declared.id.ObjectId.{ObjectId}
use Rattle.pp_peers.specs.declared.placing.Placed.{Placed}
use Rattle.pp_peers.specs.declared.placing.Placed.TheVariants.{On, Dial, CloseThenDial, Wait}
use Rattle.pp_places.specs.Around.{Around, Moment}
use Rattle.pp_places.specs.Placing.{ArePlaced, IsDialledFor, IsDialledTo, IsPlaced, IsPlacedAs, dials_to, goes_on_behind, host_of, is_put, met_by, new_one, next_waiting, place_for, put_last, put_on, with_new}
use Rattle.pp_seats.specs.Courses.{is_trying_in}
use Rattle.pp_seats.specs.Decided.{answering, asking, with_interim}
use Rattle.pp_seats.specs.Follows.{next_of}
use Rattle.pp_seats.specs.Heads.{asked_in, owned_in}
use Rattle.pp_seats.specs.declared.key.Key.{Key}
use Rattle.pp_seats.specs.declared.seat.Next.{Next}
use Rattle.pp_seats.specs.declared.seat.Seat.{Seat}
use Rattle.pp_state.specs.Asking.{is_useless}
use Rattle.pp_state.specs.Astray.{astray_where}
use Rattle.pp_state.specs.Bringing.{need_of}
use Rattle.pp_state.specs.Ends.{Parts, ended, exchange_of, left_at_decision, left_source, lost_attempt, may_ask_again, on_seat}
use Rattle.pp_state.specs.Pins.{is_for_memory}
use Rattle.pp_take.specs.Deciding.{Ask, Does, Takes, accounted, aim_for, answered_at, asked_by, asked_with, ask_at, begun_at, begun_by, begun_for, begun_of, exchange_begun, followed_at, followed_by, following, is_pass, is_served_by, left_all, left_if_useless, left_useless, marked_at, marked_for, may_ask, may_follow, origin_asked, relayed, row_at, row_followed, with_marked}
use Rattle.pp_take.specs.Filling.{all_filled, asked_of_row, filled, filled_for, hole_ask_at, hole_asked, instance_of, need_asked, next_asked, seat_asked, span_asked}
use Rattle.pp_take.specs.GivingUp.{all_given_up}
use Rattle.pp_take.specs.Unplaced.{asked_again_where, refused_dial}
use Rattle.pp_valid.specs.declared.version.Version.{Version}
use Rattle.pp_world.specs.Log.{Log}
use Rattle.pp_world.specs.declared.note.Decision.{Decision}
use Rattle.pp_world.specs.declared.note.Decision.TheVariants.{Refuse, Hit, Part, Head, NotModified, Unsatisfiable, Relay, Validate, Fetch, Pass}
use Rattle.pp_grown_law.proofs.Numbers.{Flows, Rise, flows_in_place, flows_same, rise_begun, rise_placed}
use Rattle.pp_grown_law.proofs.Passing.{Goes, decision_goes, ended_goes, goes_as, goes_beside, goes_none, goes_same, goes_then, flows_anew, lost_goes, source_goes}
use Rattle.pp_grown_law.proofs.Shut.{seat_goes}
use Rattle.pp_grown_law.proofs.Slots.{Lessens, lessens_as, lessens_followed, lessens_marked, lessens_none, lessens_then}

-- ---- an exchange begins

begun_by_goes : (key : Key) (client : ℕ) (aim : Aim) (errand : Errand) (text : List ℕ) (f : Exchanges) → Flows f (begun_by key client aim errand text f)
begun_by_goes key client aim errand text f = by (may_ask f)
  where
    by : (b : Bool) → Flows f (elim b as (λ t. Exchanges) [
      | true ↦ record f { waiting = f.waiting ++ begun_with f.begun client key.text.items aim errand text ∷ []; begun = f.begun + 1 }
      | false ↦ f
    ])
    by true = flows_in_place f _ refl (rise_begun client key.text.items aim errand text f)
    by false = flows_same f f refl

begun_goes : (i : ℕ) (aim : Aim) (errand : Errand) (text : List ℕ) (p : Parts) → Goes p (begun_at i aim errand text p)
begun_goes i aim errand text p = by (slice_get p.seats i)
  where
    owned : (o : Option Key) (client : ℕ) → Flows p.flow (begun_of o client aim errand text p.flow)
    owned None client = flows_same p.flow p.flow refl
    owned (Some key) client = begun_by_goes key client aim errand text p.flow

    by : (o : Option Seat) → Goes p (record p { flow = begun_for o aim errand text p.flow })
    by None = goes_none p
    by (Some seat) = goes_beside p (record p { flow = begun_for (Some seat) aim errand text p.flow }) refl (owned (owned_in (asked_in seat.front)) seat.client.id)

exchange_goes : (i : ℕ) (aim : Aim) (errand : Errand) (text : List ℕ) (p : Parts) → Goes p (exchange_begun i aim errand text p)
unfolding exchange_begun
exchange_goes i aim errand text p = let q : Parts = left_at_decision i p in goes_then p q (begun_at i aim errand text q) (decision_goes i p) (begun_goes i aim errand text q)

-- ---- a decision

interim_goes : (i : ℕ) (p : Parts) → Goes p (left_source i (on_seat i with_interim p))
interim_goes i p = let q : Parts = on_seat i with_interim p in goes_then p q (left_source i q) (seat_goes i with_interim p) (source_goes i q)

asked_goes : (i : ℕ) (d : Decision) (o : Option Ask) (p : Parts) → Goes p (asked_by i d o p)
unfolding asked_with
asked_goes i d None p = goes_none p
asked_goes i d (Some ask) p =
    let q : Parts = left_source i (on_seat i with_interim p) in
    let r : Parts = exchange_begun i (aim_for (is_pass d)) ask.0 ask.1 q in
    goes_then p q (on_seat i (asking (is_pass d)) r) (interim_goes i p) (goes_then q r (on_seat i (asking (is_pass d)) r) (exchange_goes i (aim_for (is_pass d)) ask.0 ask.1 q) (seat_goes i (asking (is_pass d)) r))

origin_goes : (name : List ℕ) (i : ℕ) (d : Decision) (p : Parts) → Goes p (origin_asked name i d p)
origin_goes name i d p = asked_goes i d (ask_at name i d p) p

answered_goes : (i : ℕ) (d : Decision) (source : Option ObjectId) (span : ℕ × ℕ) (p : Parts) → Goes p (answered_at i d source span p)
unfolding answered_at
answered_goes i d source span p = let q : Parts = left_source i p in goes_then p q (on_seat i (answering d source span) q) (source_goes i p) (seat_goes i (answering d source span) q)

useless_goes : (i : ℕ) (p : Parts) → Goes p (left_useless i p)
unfolding left_useless
useless_goes i p = by (exchange_of i p)
  where
    at : (b : Bool) → Goes p (elim b as (λ t. Parts) [ true ↦ p | false ↦ left_at_decision i p ])
    at true = goes_none p
    at false = decision_goes i p

    by : (o : Option Exchange) → Goes p (left_if_useless i o p)
    by None = goes_none p
    by (Some e) = at (is_served_by i e.number p)

following_goes : (id : ObjectId) (p : Parts) → Goes p (following id p)
following_goes id p = by (may_follow id p.cache)
  where
    by : (b : Bool) → Goes p (record p { cache = elim b as (λ t. Memory) [ true ↦ record p.cache { instances = changed_in id.slot followed p.cache.instances } | false ↦ p.cache ] })
    by true = record { memory = lessens_followed id.slot p.cache; flow = flows_same p.flow p.flow refl }
    by false = goes_none p

followed_goes : (i : ℕ) (d : Decision) (span : ℕ × ℕ) (id : ObjectId) (p : Parts) → Goes p (followed_by i d span id p)
unfolding followed_by
followed_goes i d span id p =
    let q : Parts = on_seat i with_interim p in
    let r : Parts = following id q in
    let s : Parts = answered_at i d (Some id) span r in
    goes_then p q (left_useless i s) (seat_goes i with_interim p) (goes_then q r (left_useless i s) (following_goes id q) (goes_then r s (left_useless i s) (answered_goes i d (Some id) span r) (useless_goes i s)))

row_goes : (i : ℕ) (d : Decision) (span : ℕ × ℕ) (p : Parts) → Goes p (followed_at i d span p)
row_goes i d span p = by (row_at i p)
  where
    by : (o : Option Instance) → Goes p (row_followed i d span o p)
    by None = goes_none p
    by (Some x) = followed_goes i d span (id_of x) p

refused_goes : (i : ℕ) (p q : Parts) → (record q { seats = (left_all i p).seats } ≡ left_all i p) → Goes p q
unfolding left_all
refused_goes i p q rest =
    let r : Parts = left_source i (on_seat i with_interim p) in
    let s : Parts = left_at_decision i r in
    goes_then p s q (goes_then p r s (interim_goes i p) (decision_goes i r)) (goes_same s q (ap (λ (t : Parts). t.cache) rest) (ap (λ (t : Parts). t.flow) rest))

relayed_goes : (i : ℕ) (p : Parts) → Goes p (relayed i p)
relayed_goes i p = let q : Parts = on_seat i with_interim p in goes_then p q (answered_at i Relay None (0, 0) q) (seat_goes i with_interim p) (answered_goes i Relay None (0, 0) q)

does_go : (name : List ℕ) (i : ℕ) (d : Decision) (p q : Parts) → Does name i d p q → Goes p q
does_go name i (Refuse status) p q is = refused_goes i p q is.rest
does_go name i Pass p q is = goes_as p (origin_asked name i Pass p) q is (origin_goes name i Pass p)
does_go name i Fetch p q is = goes_as p (origin_asked name i Fetch p) q is (origin_goes name i Fetch p)
does_go name i Validate p q is = goes_as p (origin_asked name i Validate p) q is (origin_goes name i Validate p)
does_go name i Relay p q is = goes_as p (relayed i p) q is (relayed_goes i p)
does_go name i (Hit from to) p q is = goes_as p (followed_at i (Hit from to) (from, to) p) q is (row_goes i (Hit from to) (from, to) p)
does_go name i (Part from to) p q is = goes_as p (followed_at i (Part from to) (from, to) p) q is (row_goes i (Part from to) (from, to) p)
does_go name i Head p q is = goes_as p (followed_at i Head (0, 0) p) q is (row_goes i Head (0, 0) p)
does_go name i NotModified p q is = goes_as p (followed_at i NotModified (0, 0) p) q is (row_goes i NotModified (0, 0) p)
does_go name i Unsatisfiable p q is = goes_as p (followed_at i Unsatisfiable (0, 0) p) q is (row_goes i Unsatisfiable (0, 0) p)

marked_goes : (i : ℕ) (d : Decision) (p : Parts) → Goes p (marked_for i d p)
marked_goes i d p = by (is_for_memory d)
  where
    at : (o : Option Instance) → Goes p (record p { cache = with_marked o p.cache })
    at None = goes_none p
    at (Some x) = record { memory = lessens_marked x.slot p.cache; flow = flows_same p.flow p.flow refl }

    by : (b : Bool) → Goes p (elim b as (λ t. Parts) [ true ↦ p | false ↦ marked_at i p ])
    by true = goes_none p
    by false = at (row_at i p)

pub takes_go : (name : List ℕ) (i : ℕ) (d : Decision) (p q : Parts) → Takes name i d p q → Goes p q
takes_go name i d p q is =
    let r : Parts = marked_for i d p in
    let s : Parts = accounted i d r in
    goes_then p r q (marked_goes i d p) (goes_then r s q (goes_same r s refl refl) (does_go name i d s q is))

-- ---- followers ask

hole_goes : (i : ℕ) (version : Version) (span : ℕ × ℕ) (o : Option Ask) (p : Parts) → Goes p (hole_asked i version span o p)
unfolding hole_asked
hole_goes i version span None p = seat_goes i _ p
hole_goes i version span (Some ask) p = exchange_goes i (Hole version span.0 span.1) ask.0 ask.1 p

span_goes : (name : List ℕ) (i : ℕ) (next : Next) (span : ℕ × ℕ) (p : Parts) → Goes p (span_asked name i next span p)
unfolding span_asked
span_goes name i next span p = by (may_ask p.flow)
  where
    at : (o : Option Instance) → Goes p (asked_of_row name i span o p)
    at None = goes_none p
    at (Some x) = hole_goes i x.version span (hole_ask_at name i x.version span p) p

    by : (b : Bool) → Goes p (elim b as (λ t. Parts) [ true ↦ asked_of_row name i span (instance_of next.source p.cache) p | false ↦ p ])
    by true = at (instance_of next.source p.cache)
    by false = goes_none p

filled_for_goes : (name : List ℕ) (i : ℕ) (p : Parts) → Goes p (filled_for name i p)
unfolding filled_for
filled_for_goes name i p = by (slice_get p.seats i)
  where
    needs : (next : Next) (o : Option (ℕ × ℕ)) → Goes p (need_asked name i next o p)
    needs next None = goes_none p
    needs next (Some span) = span_goes name i next span p

    nexts : (o : Option Next) → Goes p (next_asked name i o p)
    nexts None = goes_none p
    nexts (Some next) = needs next (need_of next p.cache p.flow)

    at : (b : Bool) (seat : Seat) → Goes p (elim b as (λ t. Parts) [ true ↦ next_asked name i (next_of seat) p | false ↦ p ])
    at true seat = nexts (next_of seat)
    at false seat = goes_none p

    by : (o : Option Seat) → Goes p (seat_asked name i o p)
    by None = goes_none p
    by (Some seat) = at (is_trying_in seat.course) seat

all_filled_go : (name : List ℕ) (is : List ℕ) (p : Parts) → Goes p (all_filled name is p)
unfolding all_filled
all_filled_go name [] p = goes_none p
all_filled_go name (i ∷ is) p = let q : Parts = filled_for name i p in goes_then p q (all_filled name is q) (filled_for_goes name i p) (all_filled_go name is q)

pub filled_goes : (stopped : Bool) (name awake : List ℕ) (p : Parts) → Goes p (filled stopped name awake p)
filled_goes true name awake p = goes_none p
filled_goes false name awake p = all_filled_go name awake p

-- ---- asks are given up

pub given_up_go : (ns : List ℕ) (p : Parts) → Goes p (all_given_up ns p)
unfolding all_given_up
given_up_go [] p = goes_none p
given_up_go (n ∷ ns) p = by (is_useless p.cache p.seats (entry_of n p.flow)) (λ q. given_up_go ns q)
  where
    by : (b : Bool) → ((q : Parts) → Goes q (all_given_up ns q)) → Goes p (all_given_up ns (elim b as (λ t. Parts) [ true ↦ ended n p | false ↦ p ]))
    by true later = let q : Parts = ended n p in goes_then p q (all_given_up ns q) (ended_goes n p) (later q)
    by false later = later p

-- ---- exchanges get places

dial_goes : (stopped : Bool) (name awake : List ℕ) (e : Exchange) (p : Parts) → Goes p (refused_dial stopped name awake e p)
dial_goes stopped name awake e p = let q : Parts = lost_attempt e p in goes_then p q (refused_dial stopped name awake e p) (lost_goes e p) (by (may_ask_again e.number q) q)
  where
    by : (b : Bool) (q : Parts) → Goes q (asked_again_where b stopped name awake e.number q)
    by true q = goes_none q
    by false q = let r : Parts = ended e.number q in goes_then q r (filled stopped name awake r) (ended_goes e.number q) (filled_goes stopped name awake r)

-- ---- a line may become longer

pub record Puts (p q : Parts) : Type 0 where
  pub memory : Lessens p.cache q.cache
  pub rise : Rise p.flow → Rise q.flow

pub puts_of : (p q : Parts) → Goes p q → Puts p q
puts_of p q goes = record { memory = goes.memory; rise = goes.flow.rise }

puts_beside : (p q : Parts) → q.cache ≡ p.cache → (Rise p.flow → Rise q.flow) → Puts p q
puts_beside p q cache rise = record { memory = lessens_as p.cache p.cache q.cache cache (lessens_none p.cache); rise = rise }

puts_same : (p q : Parts) → q.cache ≡ p.cache → q.flow ≡ p.flow → Puts p q
puts_same p q cache flow = puts_of p q (goes_same p q cache flow)

puts_none : (p : Parts) → Puts p p
puts_none p = puts_of p p (goes_none p)

puts_then : (p q r : Parts) → Puts p q → Puts q r → Puts p r
puts_then p q r one two = record { memory = lessens_then p.cache q.cache r.cache one.memory two.memory; rise = λ rise. two.rise (one.rise rise) }

puts_as : (p q r : Parts) → r ≡ q → Puts p q → Puts p r
puts_as p q r is all = subst (λ (o : Parts). Puts p o) (sym is) all

puts_sides : (x y z : Sides) → z ≡ y → Puts x.parts y.parts → Puts x.parts z.parts
puts_sides x y z is all = puts_as x.parts y.parts z.parts (ap (λ (w : Sides). w.parts) is) all

put_goes : (n k : ℕ) (x : Sides) → Puts x.parts (put_on n k x).parts
put_goes n k x = puts_beside x.parts (put_on n k x).parts refl (by (is_put n k (entry_of n x.parts.flow) x.parts.flow x.peers))
  where
    by : (b : Bool) → Rise x.parts.flow → Rise (put_last b n k x.parts.flow)
    by true rise = (flows_anew n (placed_on k n x.parts.flow)).rise (rise_placed k n x.parts.flow rise)
    by false rise = rise

met_goes : (m : Moment) (n : ℕ) (e : Exchange) (o : Option ℕ) (x : Sides) → Puts x.parts (met_by m n e o x).parts
met_goes m n e None x = puts_of x.parts (refused_dial m.is_stopped m.name m.awake e x.parts) (dial_goes m.is_stopped m.name m.awake e x.parts)
met_goes m n e (Some k) x = put_goes n k x

dialled_to_goes : (m : Moment) (n : ℕ) (e : Entry) (o : Option (List ℕ)) (x y : Around) (log : Log) → IsDialledTo m n e o x log y → Puts x.sides.parts y.sides.parts
dialled_to_goes m n e None x y log it = puts_as x.sides.parts (ended n x.sides.parts) y.sides.parts (ap (λ (z : Around). z.sides.parts) it.1) (puts_of x.sides.parts (ended n x.sides.parts) (ended_goes n x.sides.parts))
dialled_to_goes m n e (Some host) x y log it =
    puts_sides x.sides _ y.sides it.sides (met_goes m n e.exchange (new_one it.answer x.sides.peers) (record x.sides { peers = with_new (new_one it.answer x.sides.peers) host e.errand.place.port m.now x.sides.peers }))

same_around : (x y : Around) → y ≡ x → Puts x.sides.parts y.sides.parts
same_around x y is = puts_as x.sides.parts x.sides.parts y.sides.parts (ap (λ (z : Around). z.sides.parts) is) (puts_none x.sides.parts)

dialled_goes : (m : Moment) (n : ℕ) (o : Option Entry) (x y : Around) (log : Log) → IsDialledFor m n o x log y → Puts x.sides.parts y.sides.parts
dialled_goes m n None x y log it = same_around x y it.1
dialled_goes m n (Some e) x y log it = dialled_to_goes m n e (dials_to (host_of e) x.sides.peers) x y log it

placed_as_goes : (p : Placed) (m : Moment) (n : ℕ) (x y : Around) (log : Log) → IsPlacedAs p m n x log y → Puts x.sides.parts y.sides.parts
placed_as_goes (On k) m n x y log it = puts_sides x.sides (put_on n k x.sides) y.sides (ap (λ (z : Around). z.sides) it.1) (put_goes n k x.sides)
placed_as_goes Dial m n x y log it = dialled_goes m n (entry_of n x.sides.parts.flow) x y log it
placed_as_goes (CloseThenDial k) m n x y log it = puts_as x.sides.parts x.sides.parts y.sides.parts (ap (λ (z : Around). z.sides.parts) it.1) (puts_none x.sides.parts)
placed_as_goes Wait m n x y log it = same_around x y it.1

pub placed_go : (more : ℕ) (m : Moment) (after : Option ℕ) (x y : Around) (log : Log) → ArePlaced more m after x log y → Puts x.sides.parts y.sides.parts
unfolding ArePlaced
placed_go zero m after x y log it = puts_sides x.sides (with_parts (astray_where (is_some (next_waiting after x.sides))) x.sides) y.sides (ap (λ (z : Around). z.sides) it.1) (astray (is_some (next_waiting after x.sides)))
  where
    astray : (b : Bool) → Puts x.sides.parts (astray_where b x.sides.parts)
    astray true = puts_same x.sides.parts (astray_where true x.sides.parts) refl refl
    astray false = puts_none x.sides.parts
placed_go (suc more) m after x y log it = by (next_waiting after x.sides) it (λ behind next rest placed. placed_go more m behind next y rest placed)
  where
    by : (o : Option ℕ) → (elim o as (λ t. Type 0) [
      | None ↦ (log ≡ []) × (y ≡ x)
      | Some number ↦ (next : Around) × (first : Log) × (rest : Log) × (log ≡ first ++ rest) × IsPlaced m number x first next × ArePlaced more m (goes_on_behind (place_for m.limits number x.sides) number) next rest y
    ]) → ((behind : Option ℕ) (next : Around) (rest : Log) → ArePlaced more m behind next rest y → Puts next.sides.parts y.sides.parts) → Puts x.sides.parts y.sides.parts
    by None same later = same_around x y same.1
    by (Some n) taken later =
        puts_then x.sides.parts taken.0.sides.parts y.sides.parts (placed_as_goes (place_for m.limits n x.sides) m n x taken.0 taken.1 taken.4)
        (later (goes_on_behind (place_for m.limits n x.sides) n) taken.0 taken.2 taken.5)
