-- Each client stays at its place with its request, its reply and what its exchange joined, as exchanges end, lose attempts and begin; and a
-- life that went astray stays so.
use Rattle.std.proofs.Common.{◌≡◌, refl, sym, subst, ap, ◌∙◌, ℕ, zero, suc, Bool, true, false, ◌==◌, ◌||◌, cond, length, List, [], ◌∷◌, map, Option, Some, None, le_refl, le_trans}
use Rattle.std.specs.Prelude.{slice_get, slice_set}
use Rattle.pp_cache.specs.Memory.{Memory, retired_at}
use Rattle.pp_cache_law.proofs.Numbers.{is_same, some_is}
use Rattle.pp_turns_law.proofs.Changed.{get_set}
use Rattle.pp_turns_law.proofs.Regained.{get_other}
use Rattle.pp_deciding_law.proofs.Keeps.{set_length}
use Rattle.pp_flow.specs.Changes.{Exchanges, entry_of}
use Rattle.pp_flow.specs.Errands.{attempts_in}
use Rattle.pp_flow.specs.declared.entry.Entry.{Entry}
use Rattle.pp_flow.specs.declared.entry.Exchange.{Exchange}
use Rattle.pp_objects.specs.Instances.{row_of}
use Rattle.pp_objects.specs.declared.id.ObjectId.{ObjectId}
use Rattle.pp_seats.specs.Courses.{has_begun, lost_one, without_row}
use Rattle.pp_seats.specs.Seats.{brought_to, has_key}
use Rattle.pp_seats.specs.declared.seat.Brought.{Brought}
use Rattle.pp_seats.specs.declared.seat.Brought.TheVariants.{Awaited, Useless, Joins, Passes, TooWide, Refused}
use Rattle.pp_seats.specs.declared.seat.Course.{Course}
use Rattle.pp_seats.specs.declared.seat.Course.TheVariants.{Trying}
use Rattle.pp_seats.specs.declared.seat.PassedEnd.TheVariants.{Short}
use Rattle.pp_seats.specs.declared.seat.Seat.{Seat}
use Rattle.pp_state.specs.Ends.{Parts, charged_at, cleared_key, cleared_of, cleared_row, cut_short, decided_anew, dropped_row, ended, exchange_of, given_up_row, is_unfilled_at, left, left_at_decision, left_by, lost_attempt, on_seat, on_seat_where, seat_for, useless_if_refused, with_course}
use Rattle.pp_cache.specs.Notes.{has_noted}
use Rattle.pp_state.specs.Keys.{key_of}
use Rattle.pp_states_law.proofs.Told.{Stands, there_before}

-- ---- one client

pub record IsSame (seat new : Seat) : Type 0 where
  pub stage : new.stage ≡ seat.stage
  pub front : new.front ≡ seat.front
  pub hung_up : new.has_hung_up ≡ seat.has_hung_up
  pub closing : new.is_closing ≡ seat.is_closing
  pub joins : (id : ObjectId) (plain : Bool) → new.brought ≡ Joins id plain → seat.brought ≡ Joins id plain

pub same_seat : (seat : Seat) → IsSame seat seat
same_seat seat = record { stage = refl; front = refl; hung_up = refl; closing = refl; joins = λ id plain is. is }

pub same_then : (a b c : Seat) → IsSame a b → IsSame b c → IsSame a c
same_then a b c one two = record {
  stage = two.stage ∙ one.stage;
  front = two.front ∙ one.front;
  hung_up = two.hung_up ∙ one.hung_up;
  closing = two.closing ∙ one.closing;
  joins = λ id plain is. one.joins id plain (two.joins id plain is);
}

-- ---- all of them

pub record WasAt (seats : List Seat) (i : ℕ) (new : Seat) : Type 0 where
  pub old : Seat
  pub here : slice_get seats i ≡ Some old
  pub is : IsSame old new

-- what is in memory is the same, or no instance came in
abbrev pub Holds : Bool → Memory → Memory → Type 0
Holds true m k = k ≡ m
Holds false m k = (next : ℕ) → Stands m k next next

pub record Carries (exact : Bool) (p q : Parts) : Type 0 where
  pub count : length q.seats ≡ length p.seats
  pub each : (i : ℕ) (new : Seat) → slice_get q.seats i ≡ Some new → WasAt p.seats i new
  pub memory : Holds exact p.cache q.cache
  pub astray : p.is_astray ≡ true → q.is_astray ≡ true

holds_itself : (exact : Bool) (m : Memory) → Holds exact m m
holds_itself true m = refl
holds_itself false m = λ next. record { lives = le_refl m.lives; numbers = le_refl next; there = λ id there. there }

holds_then : (exact : Bool) (m k l : Memory) → Holds exact m k → Holds exact k l → Holds exact m l
holds_then true m k l one two = two ∙ one
holds_then false m k l one two = λ next. record {
  lives = le_trans (one next).lives (two next).lives;
  numbers = le_refl next;
  there = λ id there. (one next).there id ((two next).there id there);
}

pub carries_itself : (exact : Bool) (p : Parts) → Carries exact p p
carries_itself exact p = record { count = refl; each = λ i new at. record { old = new; here = at; is = same_seat new }; memory = holds_itself exact p.cache; astray = λ is. is }

pub carries_then : (exact : Bool) (p q r : Parts) → Carries exact p q → Carries exact q r → Carries exact p r
carries_then exact p q r one two = record {
  count = two.count ∙ one.count;
  each = λ i new at. join i new (two.each i new at);
  memory = holds_then exact p.cache q.cache r.cache one.memory two.memory;
  astray = λ is. two.astray (one.astray is);
}
  where
    join : (i : ℕ) (new : Seat) → WasAt q.seats i new → WasAt p.seats i new
    join i new mid = let old : WasAt p.seats i mid.old = one.each i mid.old mid.here in record { old = old.old; here = old.here; is = same_then old.old mid.old new old.is mid.is }

-- where the same is in memory, none came in
pub loosely : (p q : Parts) → Carries true p q → Carries false p q
loosely p q carries = record { count = carries.count; each = carries.each; memory = subst (λ (k : Memory). Holds false p.cache k) (sym carries.memory) (holds_itself false p.cache); astray = carries.astray }

-- ---- exchanges alone change, or one client

pub carries_flow : (exact : Bool) (p : Parts) (f : Exchanges) → Carries exact p (record p { flow = f })
carries_flow exact p f = record { count = refl; each = λ i new at. record { old = new; here = at; is = same_seat new }; memory = holds_itself exact p.cache; astray = λ is. is }

set_at : (i j : ℕ) (seats : List Seat) (seat new other : Seat) → slice_get seats i ≡ Some seat → IsSame seat new → slice_get (slice_set seats i new) j ≡ Some other → WasAt seats j other
set_at i j seats seat new other here is at = by (i == j) refl
  where
    by : (b : Bool) → (i == j) ≡ b → WasAt seats j other
    by true same =
        let its : new ≡ other = some_is new other (sym (get_set i seats seat new here) ∙ ap (λ (k : ℕ). slice_get (slice_set seats i new) k) (is_same i j same) ∙ at) in
        record { old = seat; here = ap (λ (k : ℕ). slice_get seats k) (sym (is_same i j same)) ∙ here; is = subst (λ (x : Seat). IsSame seat x) its is }
    by false apart = record { old = other; here = sym (get_other i j seats new apart) ∙ at; is = same_seat other }

pub carries_seat : (exact : Bool) (i : ℕ) (f : Seat → Seat) (p : Parts) → ((seat : Seat) → IsSame seat (f seat)) → Carries exact p (on_seat i f p)
carries_seat exact i f p same = by (slice_get p.seats i) refl
  where
    by : (o : Option Seat) → slice_get p.seats i ≡ o → Carries exact p (record p { seats = elim o as (λ t. List Seat) [ None ↦ p.seats | Some seat ↦ slice_set p.seats i (f seat) ] })
    by None here = carries_itself exact p
    by (Some seat) here = record {
      count = set_length i p.seats (f seat);
      each = λ j new at. set_at i j p.seats seat (f seat) new here (same seat) at;
      memory = holds_itself exact p.cache;
      astray = λ is. is;
    }

carries_where : (exact : Bool) (o : Option ℕ) (f : Seat → Seat) (p : Parts) → ((seat : Seat) → IsSame seat (f seat)) → Carries exact p (on_seat_where o f p)
carries_where exact None f p same = carries_itself exact p
carries_where exact (Some i) f p same = carries_seat exact i f p same

-- ---- what was passed ends early, and an exchange is over, or nobody's

short_joins : (b : Brought) (id : ObjectId) (plain : Bool) → brought_to Short b ≡ Joins id plain → b ≡ Joins id plain
short_joins Awaited id plain is = is
short_joins Useless id plain is = is
short_joins (Joins other more) id plain is = is
short_joins (Passes x) id plain is = absurd (cc is)
short_joins TooWide id plain is = is
short_joins Refused id plain is = is

pub carries_short : (exact : Bool) (e : Exchange) (p : Parts) → Carries exact p (cut_short e p)
carries_short exact e p =
    carries_where exact (seat_for e p.seats) (λ seat. record seat { brought = brought_to Short seat.brought }) p
    (λ seat. record { stage = refl; front = refl; hung_up = refl; closing = refl; joins = λ id plain is. short_joins seat.brought id plain is })

pub carries_ended : (exact : Bool) (n : ℕ) (p : Parts) → Carries exact p (ended n p)
carries_ended exact n p = carries_flow exact p _

pub carries_left : (exact : Bool) (n : ℕ) (p : Parts) → Carries exact p (left n p)
carries_left exact n p = carries_flow exact p _

pub carries_decision : (exact : Bool) (i : ℕ) (p : Parts) → Carries exact p (left_at_decision i p)
carries_decision exact i p = by (exchange_of i p)
  where
    at : (n : ℕ) (o : Option ℕ) → Carries exact p (elim o as (λ t. Parts) [ None ↦ ended n p | Some k ↦ left n p ])
    at n None = carries_ended exact n p
    at n (Some k) = carries_left exact n p

    by : (o : Option Exchange) → Carries exact p (elim o as (λ t. Parts) [ None ↦ p | Some e ↦ left_by e p ])
    by None = carries_itself exact p
    by (Some e) = at e.number e.place

-- ---- an attempt is lost

anew_joins : (b : Brought) (id : ObjectId) (plain : Bool) → useless_if_refused b ≡ Joins id plain → b ≡ Joins id plain
anew_joins Awaited id plain is = is
anew_joins Useless id plain is = is
anew_joins (Joins other more) id plain is = is
anew_joins (Passes x) id plain is = is
anew_joins TooWide id plain is = is
anew_joins Refused id plain is = absurd (cc is)

anew_same : (key : List ℕ) (seat : Seat) → IsSame seat (decided_anew key seat)
anew_same key seat = by (has_key key seat)
  where
    by : (b : Bool) → IsSame seat (cond b (record seat { brought = useless_if_refused seat.brought }) seat)
    by true = record { stage = refl; front = refl; hung_up = refl; closing = refl; joins = λ id plain is. anew_joins seat.brought id plain is }
    by false = same_seat seat

map_length : (f : Seat → Seat) (seats : List Seat) → length (map f seats) ≡ length seats
map_length f [] = refl
map_length f (seat ∷ seats) = ap (λ (n : ℕ). suc n) (map_length f seats)

map_at : (f : Seat → Seat) → ((seat : Seat) → IsSame seat (f seat)) → (i : ℕ) (seats : List Seat) (new : Seat) → slice_get (map f seats) i ≡ Some new → WasAt seats i new
map_at f same i [] new at = absurd (cc at)
map_at f same zero (seat ∷ seats) new at = record { old = seat; here = refl; is = subst (λ (x : Seat). IsSame seat x) (some_is (f seat) new at) (same seat) }
map_at f same (suc i) (seat ∷ seats) new at = let rest : WasAt seats i new = map_at f same i seats new at in record { old = rest.old; here = rest.here; is = rest.is }

retired_stands : (key : List ℕ) (m : Memory) → Holds false m (retired_at key m)
unfolding retired_at
retired_stands key m = λ next. record { lives = le_refl m.lives; numbers = le_refl next; there = λ id there. there_before id (row_of key m.instances) m.instances there }

carries_key : (key : List ℕ) (p : Parts) → Carries false p (cleared_key key p)
carries_key key p = by (has_noted key p.refused)
  where
    by : (b : Bool) → Carries false p (record (cleared_key key p) { seats = cond b (map (decided_anew key) p.seats) p.seats })
    by true = record { count = map_length (decided_anew key) p.seats; each = λ i new at. map_at (decided_anew key) (anew_same key) i p.seats new at; memory = retired_stands key p.cache; astray = λ is. is }
    by false = record { count = refl; each = λ i new at. record { old = new; here = at; is = same_seat new }; memory = retired_stands key p.cache; astray = λ is. is }

carries_cleared : (o : Option (List ℕ)) (p : Parts) → Carries false p (cleared_of o p)
carries_cleared None p = carries_itself false p
carries_cleared (Some key) p = carries_key key p

row_same : (seat : Seat) → IsSame seat (without_row seat)
row_same seat = by (has_begun seat || seat.has_given_up)
  where
    by : (b : Bool) → IsSame seat (elim b as (λ t. Seat) [ true ↦ seat | false ↦ record seat { course = Trying 0; has_given_up = true } ])
    by true = same_seat seat
    by false = record { stage = refl; front = refl; hung_up = refl; closing = refl; joins = λ id plain is. is }

carries_dropped : (i : ℕ) (e : Exchange) (p : Parts) → Carries false p (dropped_row i e p)
carries_dropped i e p =
    let one : Parts = cleared_row e.number p in
    let two : Parts = on_seat i without_row one in
    carries_then false p two (left e.number two) (carries_then false p one two (carries_cleared (key_of e.number p.flow) p) (carries_seat false i without_row one row_same)) (carries_left false e.number two)

carries_row : (i : ℕ) (e : Exchange) (p : Parts) → Carries false p (given_up_row i e p)
unfolding given_up_row
carries_row i e p = by (is_unfilled_at i e p)
  where
    by : (b : Bool) → Carries false p (cond b (dropped_row i e p) p)
    by true = carries_dropped i e p
    by false = carries_itself false p

carries_charged : (o : Option ℕ) (cost : Course → Course) (e : Exchange) (p : Parts) → Carries false p (charged_at o cost e p)
unfolding charged_at
carries_charged None cost e p = carries_itself false p
carries_charged (Some i) cost e p =
    let one : Parts = on_seat i (with_course cost) p in
    carries_then false p one (given_up_row i e one) (carries_seat false i (with_course cost) p (λ seat. record { stage = refl; front = refl; hung_up = refl; closing = refl; joins = λ id plain is. is })) (carries_row i e one)

pub carries_lost : (e : Exchange) (p : Parts) → Carries false p (lost_attempt e p)
carries_lost e p = by (entry_of e.number p.flow)
  where
    by : (o : Option Entry) → Carries false p (elim o as (λ t. Parts) [ None ↦ p | Some x ↦ charged_at (seat_for e p.seats) (lost_one (attempts_in x.errand.is_asked_once)) e p ])
    by None = carries_itself false p
    by (Some x) = carries_charged (seat_for e p.seats) (lost_one (attempts_in x.errand.is_asked_once)) e p
