-- Of what is in memory nothing comes, and exchanges have numbers of their own, where attempts are lost and connections are closed.
use Rattle.std.proofs.Common.{◌≡◌, refl, sym, subst, ℕ, zero, suc, Bool, true, false, ◌&&◌, cond, List, Option, Some, None}
use Rattle.pp_cache.specs.Memory.{Memory, retired_at}
use Rattle.pp_flow.specs.Changes.{Exchanges, entry_of, unplaced, with_errand}
use Rattle.pp_flow.specs.Errands.{attempts_in}
use Rattle.pp_flow.specs.declared.entry.Entry.{Entry}
use Rattle.pp_flow.specs.declared.entry.Exchange.{Exchange}
use Rattle.pp_law.specs.Lists.{Bytes}
use Rattle.pp_objects.specs.Instances.{in_slot, is_there, row_of}
use Rattle.pp_objects.specs.declared.id.ObjectId.{ObjectId}
use Rattle.pp_seats.specs.Courses.{lost_one, without_row}
use Rattle.pp_seats.specs.Seats.{brought_to}
use Rattle.pp_seats.specs.declared.seat.Course.{Course}
use Rattle.pp_seats.specs.declared.seat.PassedEnd.TheVariants.{Short}
use Rattle.pp_seats.specs.declared.seat.Seat.{Seat}
use Rattle.pp_state.specs.Ends.{Parts, asked_anew, asked_elsewhere, changed_at, charged, charged_at, charged_where, cleared_key, cleared_of, cleared_row, cut_short, dropped_row, ended, exchange_at, exchange_of, failed, followed_less, forsaken, given_up_row, is_unfilled_at, left, left_at_decision, left_by, left_place, left_place_at, left_source, lost_attempt, lost_place, may_go_elsewhere, on_seat, on_seat_where, seat_for, source_at, unfollowed, with_course, without_source}
use Rattle.pp_state.specs.Keys.{key_of}
use Rattle.pp_state.specs.Lines.{first_on, lost_line}
use Rattle.pp_grown_law.proofs.Numbers.{Flows, flows_ended, flows_errand, flows_left, flows_same, flows_then, flows_unplaced}
use Rattle.pp_grown_law.proofs.Slots.{Lessens, lessens_as, lessens_left, lessens_none, lessens_retired, lessens_then}

pub record Goes (p q : Parts) : Type 0 where
  pub memory : Lessens p.cache q.cache
  pub flow : Flows p.flow q.flow

-- ---- one behind the other

pub goes_beside : (p q : Parts) → q.cache ≡ p.cache → Flows p.flow q.flow → Goes p q
goes_beside p q cache flow = record { memory = lessens_as p.cache p.cache q.cache cache (lessens_none p.cache); flow = flow }

pub goes_same : (p q : Parts) → q.cache ≡ p.cache → q.flow ≡ p.flow → Goes p q
goes_same p q cache flow = goes_beside p q cache (flows_same p.flow q.flow flow)

pub goes_none : (p : Parts) → Goes p p
goes_none p = goes_same p p refl refl

pub goes_then : (p q r : Parts) → Goes p q → Goes q r → Goes p r
goes_then p q r one two = record { memory = lessens_then p.cache q.cache r.cache one.memory two.memory; flow = flows_then p.flow q.flow r.flow one.flow two.flow }

pub goes_as : (p q r : Parts) → r ≡ q → Goes p q → Goes p r
goes_as p q r is all = subst (λ (o : Parts). Goes p o) (sym is) all

-- with other clients
pub goes_with : (p q r : Parts) → r.cache ≡ q.cache → r.flow ≡ q.flow → Goes p q → Goes p r
goes_with p q r cache flow all = goes_then p q r all (goes_same q r cache flow)

-- ---- a client follows nothing any more

less_followed : (id : ObjectId) (p : Parts) (seats : List Seat) → Goes p (record p { seats = seats; cache = unfollowed id p.cache })
less_followed id p seats = by (is_there id p.cache.instances && _)
  where
    by : (b : Bool) → Goes p (record p { seats = seats; cache = cond b (followed_less id p.cache) p.cache })
    by true = record { memory = lessens_left id.slot (in_slot id.slot p.cache.instances) p.cache; flow = flows_same p.flow p.flow refl }
    by false = goes_same p (record p { seats = seats }) refl refl

pub source_goes : (i : ℕ) (p : Parts) → Goes p (left_source i p)
source_goes i p = by (source_at i p)
  where
    by : (o : Option ObjectId) → Goes p (elim o as (λ t. Parts) [ None ↦ p | Some id ↦ record p { seats = changed_at i without_source p.seats; cache = unfollowed id p.cache } ])
    by None = goes_none p
    by (Some id) = less_followed id p (changed_at i without_source p.seats)

-- ---- an exchange is over, or nobody's

pub ended_goes : (n : ℕ) (p : Parts) → Goes p (ended n p)
ended_goes n p = goes_beside p (ended n p) refl (flows_ended n p.flow)

pub left_goes : (n : ℕ) (p : Parts) → Goes p (left n p)
left_goes n p = goes_beside p (left n p) refl (flows_left n p.flow)

pub forsaken_goes : (i : ℕ) (p : Parts) → Goes p (forsaken i p)
forsaken_goes i p = by (exchange_of i p)
  where
    by : (o : Option Exchange) → Goes p (elim o as (λ t. Parts) [ None ↦ p | Some e ↦ left e.number p ])
    by None = goes_none p
    by (Some e) = left_goes e.number p

pub decision_goes : (i : ℕ) (p : Parts) → Goes p (left_at_decision i p)
decision_goes i p = by (exchange_of i p)
  where
    at : (n : ℕ) (o : Option ℕ) → Goes p (elim o as (λ t. Parts) [ None ↦ ended n p | Some k ↦ left n p ])
    at n None = ended_goes n p
    at n (Some k) = left_goes n p

    by : (o : Option Exchange) → Goes p (elim o as (λ t. Parts) [ None ↦ p | Some e ↦ left_by e p ])
    by None = goes_none p
    by (Some e) = at e.number e.place

-- ---- a row is not known any more

retired_less : (key : Bytes) (m : Memory) → Lessens m (retired_at key m)
unfolding retired_at
retired_less key m = let one : Lessens m _ = lessens_retired (row_of key m.instances) m in record { slots = one.slots; held = one.held; grown = refl; size = refl }

pub key_goes : (key : Bytes) (p : Parts) → Goes p (cleared_key key p)
key_goes key p = record { memory = retired_less key p.cache; flow = flows_same p.flow p.flow refl }

pub cleared_goes : (o : Option Bytes) (p : Parts) → Goes p (cleared_of o p)
cleared_goes None p = goes_none p
cleared_goes (Some key) p = key_goes key p

pub row_goes : (n : ℕ) (p : Parts) → Goes p (cleared_row n p)
row_goes n p = cleared_goes (key_of n p.flow) p

-- ---- an attempt is lost

dropped_goes : (i : ℕ) (e : Exchange) (p : Parts) → Goes p (dropped_row i e p)
dropped_goes i e p =
    let q : Parts = cleared_row e.number p in
    let r : Parts = on_seat i without_row q in
    goes_then p q (left e.number r) (row_goes e.number p) (goes_then q r (left e.number r) (goes_same q r refl refl) (left_goes e.number r))

given_up_goes : (i : ℕ) (e : Exchange) (p : Parts) → Goes p (given_up_row i e p)
unfolding given_up_row
given_up_goes i e p = by (is_unfilled_at i e p)
  where
    by : (b : Bool) → Goes p (cond b (dropped_row i e p) p)
    by true = dropped_goes i e p
    by false = goes_none p

charged_goes : (o : Option ℕ) (cost : Course → Course) (e : Exchange) (p : Parts) → Goes p (charged_at o cost e p)
unfolding charged_at
charged_goes None cost e p = goes_none p
charged_goes (Some i) cost e p = let q : Parts = on_seat i (with_course cost) p in goes_then p q (given_up_row i e q) (goes_same p q refl refl) (given_up_goes i e q)

pub lost_goes : (e : Exchange) (p : Parts) → Goes p (lost_attempt e p)
lost_goes e p = by (entry_of e.number p.flow)
  where
    by : (o : Option Entry) → Goes p (elim o as (λ t. Parts) [ None ↦ p | Some x ↦ charged (lost_one (attempts_in x.errand.is_asked_once)) e p ])
    by None = goes_none p
    by (Some x) = charged_goes (seat_for e p.seats) (lost_one (attempts_in x.errand.is_asked_once)) e p

pub failed_goes : (e : Exchange) (p : Parts) → Goes p (failed e p)
failed_goes e p = charged_goes (seat_for e p.seats) _ e p

-- ---- the connection of an exchange is gone

pub where_goes : (o : Option ℕ) (f : Seat → Seat) (p : Parts) → Goes p (on_seat_where o f p)
where_goes None f p = goes_none p
where_goes (Some i) f p = goes_same p (on_seat i f p) refl refl

pub flows_anew : (n : ℕ) (f : Exchanges) → Flows f (asked_anew n f)
flows_anew n f = by (entry_of n f)
  where
    by : (o : Option Entry) → Flows f (elim o as (λ t. Exchanges) [ None ↦ f | Some x ↦ with_errand n (record x.errand { asked = 0 }) f ])
    by None = flows_same f f refl
    by (Some x) = flows_errand n (record x.errand { asked = 0 }) f

elsewhere_goes : (n : ℕ) (p : Parts) → Goes p (asked_elsewhere n p)
elsewhere_goes n p = goes_beside p (asked_elsewhere n p) refl (flows_then p.flow (unplaced n p.flow) (asked_anew n (unplaced n p.flow)) (flows_unplaced n p.flow) (flows_anew n (unplaced n p.flow)))

place_goes : (e : Exchange) (p : Parts) → Goes p (left_place e p)
unfolding left_place
place_goes e p = by e.headed (may_go_elsewhere e.number p)
  where
    by : (b c : Bool) → Goes p (cond b (ended e.number (cut_short e p)) (cond c (asked_elsewhere e.number p) (ended e.number p)))
    by true c = goes_then p (cut_short e p) (ended e.number (cut_short e p)) (where_goes (seat_for e p.seats) (λ seat. record seat { brought = brought_to Short seat.brought }) p) (ended_goes e.number (cut_short e p))
    by false true = elsewhere_goes e.number p
    by false false = ended_goes e.number p

lost_place_goes : (n : ℕ) (counts : Bool) (p : Parts) → Goes p (lost_place n counts p)
lost_place_goes n counts p = by (exchange_at n p.flow)
  where
    counted : (e : Exchange) (b : Bool) → Goes p (charged_where b e p)
    counted e true = lost_goes e p
    counted e false = goes_none p

    by : (o : Option Exchange) → Goes p (left_place_at o counts p)
    by None = goes_none p
    by (Some e) = let q : Parts = charged_where counts e p in goes_then p q (left_place e q) (counted e counts) (place_goes e q)

pub line_goes : (most k : ℕ) (counts : Bool) (p : Parts) → Goes p (lost_line most k counts p)
line_goes zero k counts p = goes_none p
line_goes (suc more) k counts p = by (first_on k p) (λ q. line_goes more k counts q)
  where
    by : (o : Option ℕ) → ((q : Parts) → Goes q (lost_line more k counts q)) → Goes p (elim o as (λ t. Parts) [ None ↦ p | Some n ↦ lost_line more k counts (lost_place n counts p) ])
    by None later = goes_none p
    by (Some n) later = let q : Parts = lost_place n counts p in goes_then p q (lost_line more k counts q) (lost_place_goes n counts p) (later q)
