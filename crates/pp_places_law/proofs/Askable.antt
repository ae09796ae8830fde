-- What can be asked stays such as an attempt is lost, as an exchange is over, and as followers ask for what is missing.
use Rattle.std.proofs.Common.{◌≡◌, ◌≤◌, ◌+◌, ◌-◌, refl, sym, subst, ap, ◌∙◌, ℕ, Bool, true, false, cond, nat_le, length, List, [], ◌∷◌, ◌++◌, Option, Some, None, arith}
use Rattle.std.proofs.lemmas.Bool.Decides.{nat_tests}
use Rattle.std.specs.Prelude.{slice_get}
use Rattle.pp_client.specs.Requests.{Front, Nothing, Begun, Asked as IsAsked, Refused, current_of}
use Rattle.pp_decide.specs.Decide.{fits, text_by}
use Rattle.pp_flow.specs.Changes.{Exchanges, changed, entry_of}
use Rattle.pp_flow.specs.Entries.{begun_with, is_number, nobodys}
use Rattle.pp_flow.specs.Errands.{attempts_in}
use Rattle.pp_flow.specs.declared.entry.Aim.{Aim}
use Rattle.pp_flow.specs.declared.entry.Aim.TheVariants.{Hole}
use Rattle.pp_flow.specs.declared.entry.Entry.{Entry}
use Rattle.pp_flow.specs.declared.entry.Exchange.{Exchange}
use Rattle.pp_flow.specs.declared.errand.Errand.{Errand}
use Rattle.pp_flow.specs.declared.errand.Kind.TheVariants.{Hole as AsHole}
use Rattle.pp_objects.specs.Instances.{Instance}
use Rattle.pp_seats.specs.Courses.{is_trying_in, lost_one, without_row}
use Rattle.pp_seats.specs.Follows.{next_of}
use Rattle.pp_seats.specs.Heads.{asked_in, owned_in}
use Rattle.pp_seats.specs.declared.front.Asked.{Asked}
use Rattle.pp_seats.specs.declared.key.Key.{Key}
use Rattle.pp_seats.specs.declared.seat.Course.{Course}
use Rattle.pp_seats.specs.declared.seat.Next.{Next}
use Rattle.pp_seats.specs.declared.seat.Seat.{Seat}
use Rattle.pp_state.specs.Bringing.{need_of}
use Rattle.pp_state.specs.Ends.{Parts, charged, charged_at, cleared_of, cleared_row, dropped_row, ended, exchange_of, given_up_row, is_unfilled_at, left, left_at_decision, left_by, lost_attempt, on_seat, seat_for, with_course}
use Rattle.pp_state.specs.Keys.{key_of}
use Rattle.pp_take.specs.Deciding.{Ask, begun_by, begun_for, begun_of, by_asked, by_front, by_key, by_seat, errand_by, exchange_begun, may_ask}
use Rattle.pp_take.specs.Filling.{all_filled, asked_of_row, filled, filled_for, hole_ask, hole_ask_at, hole_asked, instance_of, need_asked, next_asked, seat_asked, span_asked}
use Rattle.pp_target.specs.Key.{IsPlaceIn}
use Rattle.pp_valid.specs.declared.version.Version.{Version}
use Rattle.pp_places_law.proofs.Entries.{askable_last, askable_without}
use Rattle.pp_places_law.specs.Around.{AreAskable, IsAskable}

abbrev pub CanBeAsked : Parts → Type 0
CanBeAsked p = AreAskable p.flow.waiting × AreAskable p.flow.placed

-- ---- it is nobody's, or over

nobodys_can : (x : Entry) → IsAskable x → IsAskable (nobodys x)
nobodys_can x ask = record { place = ask.place; short = ask.short }

all_changed : (n : ℕ) (f : Entry → Entry) (xs : List Entry) → ((x : Entry) → IsAskable x → IsAskable (f x)) → AreAskable xs → AreAskable (changed n f xs)
all_changed n f [] each all = tt
all_changed n f (x ∷ xs) each all = by (is_number n x) (all_changed n f xs each all.1)
  where
    by : (b : Bool) → AreAskable (changed n f xs) → AreAskable (cond b (f x ∷ xs) (x ∷ changed n f xs))
    by true rest = (each x all.0, all.1)
    by false rest = (all.0, rest)

left_can : (n : ℕ) (p : Parts) → CanBeAsked p → CanBeAsked (left n p)
left_can n p can = (all_changed n nobodys p.flow.waiting nobodys_can can.0, all_changed n nobodys p.flow.placed nobodys_can can.1)

pub ended_can : (n : ℕ) (p : Parts) → CanBeAsked p → CanBeAsked (ended n p)
ended_can n p can = (askable_without n p.flow.waiting can.0, askable_without n p.flow.placed can.1)

decision_can : (i : ℕ) (p : Parts) → CanBeAsked p → CanBeAsked (left_at_decision i p)
decision_can i p can = by (exchange_of i p)
  where
    at : (e : Exchange) (o : Option ℕ) → CanBeAsked (elim o as (λ t. Parts) [ None ↦ ended e.number p | Some k ↦ left e.number p ])
    at e None = ended_can e.number p can
    at e (Some k) = left_can e.number p can

    by : (o : Option Exchange) → CanBeAsked (elim o as (λ t. Parts) [ None ↦ p | Some e ↦ left_by e p ])
    by None = can
    by (Some e) = at e e.place

-- ---- an attempt is lost

cleared_can : (o : Option (List ℕ)) (p : Parts) → CanBeAsked p → CanBeAsked (cleared_of o p)
cleared_can None p can = can
cleared_can (Some key) p can = can

given_up_can : (i : ℕ) (e : Exchange) (p : Parts) → CanBeAsked p → CanBeAsked (given_up_row i e p)
unfolding given_up_row
given_up_can i e p can = by (is_unfilled_at i e p)
  where
    by : (b : Bool) → CanBeAsked (cond b (dropped_row i e p) p)
    by true = left_can e.number (on_seat i without_row (cleared_row e.number p)) (cleared_can (key_of e.number p.flow) p can)
    by false = can

charged_can : (o : Option ℕ) (cost : Course → Course) (e : Exchange) (p : Parts) → CanBeAsked p → CanBeAsked (charged_at o cost e p)
unfolding charged_at
charged_can None cost e p can = can
charged_can (Some i) cost e p can = given_up_can i e (on_seat i (with_course cost) p) can

pub lost_can : (e : Exchange) (p : Parts) → CanBeAsked p → CanBeAsked (lost_attempt e p)
lost_can e p can = by (entry_of e.number p.flow)
  where
    by : (o : Option Entry) → CanBeAsked (elim o as (λ t. Parts) [ None ↦ p | Some x ↦ charged (lost_one (attempts_in x.errand.is_asked_once)) e p ])
    by None = can
    by (Some x) = charged_can (seat_for e p.seats) (lost_one (attempts_in x.errand.is_asked_once)) e p can

-- ---- one more begins

begun_can : (key : Key) (client : ℕ) (aim : Aim) (errand : Errand) (text : List ℕ) (p : Parts) → IsPlaceIn key.text.items errand.place → length text ≤ 16384 → CanBeAsked p
    → CanBeAsked (record p { flow = begun_by key client aim errand text p.flow })
begun_can key client aim errand text p place short can = by (may_ask p.flow)
  where
    by : (b : Bool)
        → CanBeAsked (record p {
          flow = elim b as (λ t. Exchanges) [
            | true ↦ record p.flow { waiting = p.flow.waiting ++ begun_with p.flow.begun client key.text.items aim errand text ∷ []; begun = p.flow.begun + 1 }
            | false ↦ p.flow
          ];
        })
    by true = (askable_last p.flow.waiting (begun_with p.flow.begun client key.text.items aim errand text) can.0 (record { place = place; short = short }), can.1)
    by false = can

same_seats : (i : ℕ) (p : Parts) → (left_at_decision i p).seats ≡ p.seats
same_seats i p = by (exchange_of i p)
  where
    at : (e : Exchange) (o : Option ℕ) → (elim o as (λ t. Parts) [ None ↦ ended e.number p | Some k ↦ left e.number p ]).seats ≡ p.seats
    at e None = refl
    at e (Some k) = refl

    by : (o : Option Exchange) → (elim o as (λ t. Parts) [ None ↦ p | Some e ↦ left_by e p ]).seats ≡ p.seats
    by None = refl
    by (Some e) = at e e.place

too_long_can : (i : ℕ) (v : Version) (span : ℕ × ℕ) (p : Parts) → CanBeAsked p → CanBeAsked (hole_asked i v span None p)
unfolding hole_asked
too_long_can i v span p can = can

-- the client at that place asks for its key
asked_can : (i : ℕ) (v : Version) (span : ℕ × ℕ) (ask : Ask) (p : Parts) (seat : Seat) (a : Asked) (key : Key) → slice_get p.seats i ≡ Some seat → asked_in seat.front ≡ Some a → a.key ≡ Some key → IsPlaceIn key.text.items ask.0.place
    → length ask.1 ≤ 16384 → CanBeAsked p → CanBeAsked (hole_asked i v span (Some ask) p)
unfolding hole_asked exchange_begun
asked_can i v span ask p seat a key here asked keyed place short can =
    subst (λ (o : Option Seat). CanBeAsked (record (left_at_decision i p) { flow = begun_for o (Hole v span.0 span.1) ask.0 ask.1 (left_at_decision i p).flow }))
    (sym (ap (λ (seats : List Seat). slice_get seats i) (same_seats i p) ∙ here))
    (subst (λ (o : Option Key). CanBeAsked (record (left_at_decision i p) { flow = begun_of o seat.client.id (Hole v span.0 span.1) ask.0 ask.1 (left_at_decision i p).flow })) (sym (ap (λ (o : Option Asked). owned_in o) asked ∙ keyed))
    (begun_can key seat.client.id (Hole v span.0 span.1) ask.0 ask.1 (left_at_decision i p) place short (decision_can i p can)))

fits_is : (n : ℕ) → nat_le n 16384 ≡ true → n ≤ 16384
fits_is n is = grind (arith, nat_tests)

hole_can : (name : List ℕ) (i : ℕ) (v : Version) (span : ℕ × ℕ) (p : Parts) → CanBeAsked p → CanBeAsked (hole_asked i v span (hole_ask_at name i v span p) p)
hole_can name i v span p can = by (slice_get p.seats i) refl
  where
    none : CanBeAsked (hole_asked i v span None p)
    none = too_long_can i v span p can

    by_text : (seat : Seat) (a : Asked) (key : Key) (text : List ℕ) → slice_get p.seats i ≡ Some seat → asked_in seat.front ≡ Some a → a.key ≡ Some key → (errand : Errand) → IsPlaceIn key.text.items errand.place → (b : Bool)
        → fits text ≡ b → CanBeAsked (hole_asked i v span (elim b as (λ t. Option Ask) [ true ↦ Some (errand, text) | false ↦ None ]) p)
    by_text seat a key text here asked keyed errand place true fit = asked_can i v span (errand, text) p seat a key here asked keyed place (fits_is (length text) fit) can
    by_text seat a key text here asked keyed errand place false fit = none

    named : (seat : Seat) (a : Asked) (key : Key) → slice_get p.seats i ≡ Some seat → asked_in seat.front ≡ Some a → a.key ≡ Some key → (front : Front) → CanBeAsked (hole_asked i v span (by_front (hole_ask name v span seat a key) front) p)
    named seat a key here asked keyed Nothing = none
    named seat a key here asked keyed Begun = none
    named seat a key here asked keyed (Refused status) = none
    named seat a key here asked keyed (IsAsked head fault) =
        by_text seat a key (text_by name head key (AsHole span.0 (span.1 - 1) v.tag)) here asked keyed (errand_by a key head (AsHole span.0 (span.1 - 1) v.tag)) key.within
        (fits (text_by name head key (AsHole span.0 (span.1 - 1) v.tag))) refl

    owned : (seat : Seat) (a : Asked) → slice_get p.seats i ≡ Some seat → asked_in seat.front ≡ Some a → (o : Option Key) → a.key ≡ o → CanBeAsked (hole_asked i v span (by_key (hole_ask name v span seat a) (current_of seat.client.heard) o) p)
    owned seat a here asked None is = none
    owned seat a here asked (Some key) is = named seat a key here asked is (current_of seat.client.heard)

    at : (seat : Seat) → slice_get p.seats i ≡ Some seat → (o : Option Asked) → asked_in seat.front ≡ o → CanBeAsked (hole_asked i v span (by_asked (hole_ask name v span seat) (current_of seat.client.heard) o) p)
    at seat here None is = none
    at seat here (Some a) is = owned seat a here is a.key refl

    by : (o : Option Seat) → slice_get p.seats i ≡ o → CanBeAsked (hole_asked i v span (by_seat (hole_ask name v span) o) p)
    by None is = none
    by (Some seat) is = at seat is (asked_in seat.front) refl

-- ---- followers ask

row_can : (name : List ℕ) (i : ℕ) (span : ℕ × ℕ) (o : Option Instance) (p : Parts) → CanBeAsked p → CanBeAsked (asked_of_row name i span o p)
row_can name i span None p can = can
row_can name i span (Some x) p can = hole_can name i x.version span p can

span_can : (name : List ℕ) (i : ℕ) (next : Next) (span : ℕ × ℕ) (p : Parts) → CanBeAsked p → CanBeAsked (span_asked name i next span p)
unfolding span_asked
span_can name i next span p can = by (may_ask p.flow)
  where
    by : (b : Bool) → CanBeAsked (elim b as (λ t. Parts) [ true ↦ asked_of_row name i span (instance_of next.source p.cache) p | false ↦ p ])
    by true = row_can name i span (instance_of next.source p.cache) p can
    by false = can

need_can : (name : List ℕ) (i : ℕ) (next : Next) (o : Option (ℕ × ℕ)) (p : Parts) → CanBeAsked p → CanBeAsked (need_asked name i next o p)
need_can name i next None p can = can
need_can name i next (Some span) p can = span_can name i next span p can

next_can : (name : List ℕ) (i : ℕ) (o : Option Next) (p : Parts) → CanBeAsked p → CanBeAsked (next_asked name i o p)
next_can name i None p can = can
next_can name i (Some next) p can = need_can name i next (need_of next p.cache p.flow) p can

seat_can : (name : List ℕ) (i : ℕ) (o : Option Seat) (p : Parts) → CanBeAsked p → CanBeAsked (seat_asked name i o p)
seat_can name i None p can = can
seat_can name i (Some seat) p can = by (is_trying_in seat.course)
  where
    by : (b : Bool) → CanBeAsked (elim b as (λ t. Parts) [ true ↦ next_asked name i (next_of seat) p | false ↦ p ])
    by true = next_can name i (next_of seat) p can
    by false = can

one_can : (name : List ℕ) (i : ℕ) (p : Parts) → CanBeAsked p → CanBeAsked (filled_for name i p)
unfolding filled_for
one_can name i p can = seat_can name i (slice_get p.seats i) p can

all_can : (name is : List ℕ) (p : Parts) → CanBeAsked p → CanBeAsked (all_filled name is p)
unfolding all_filled
all_can name [] p can = can
all_can name (i ∷ is) p can = all_can name is (filled_for name i p) (one_can name i p can)

pub filled_can : (stopped : Bool) (name awake : List ℕ) (p : Parts) → CanBeAsked p → CanBeAsked (filled stopped name awake p)
filled_can true name awake p can = can
filled_can false name awake p can = all_can name awake p can
