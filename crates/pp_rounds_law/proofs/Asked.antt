-- What waits can be asked still behind a decision: of an ask that begins, the host stands in the text of its key, and its text is short.
use Rattle.std.proofs.Common.{◌≡◌, ◌≤◌, refl, sym, subst, ap, ◌∙◌, ℕ, Bool, true, false, ◌+◌, length, List, [], ◌∷◌, ◌++◌, Option, Some, None, nat_le, arith}
use Rattle.std.proofs.lemmas.Bool.Decides.{nat_tests}
use Rattle.std.specs.Prelude.{option_map, slice_get, slice_set}
use Rattle.pp_cache.specs.Memory.{Memory}
use Rattle.pp_cache_law.proofs.Numbers.{some_is}
use Rattle.pp_client.specs.Requests.{Front, Nothing, Begun, Asked as IsAsked, Refused, current_of}
use Rattle.pp_decide.specs.Decide.{fits, kind_of, text_by}
use Rattle.pp_turns_law.proofs.Changed.{get_set}
use Rattle.pp_turns_law.proofs.Sitting.{interim_front}
use Rattle.pp_flow.specs.Changes.{Exchanges}
use Rattle.pp_flow.specs.Entries.{begun_with}
use Rattle.pp_flow.specs.declared.entry.Aim.{Aim}
use Rattle.pp_flow.specs.declared.entry.Exchange.{Exchange}
use Rattle.pp_flow.specs.declared.errand.Errand.{Errand}
use Rattle.pp_flow.specs.declared.errand.Kind.{Kind}
use Rattle.pp_head.specs.Request.{Request}
use Rattle.pp_objects.specs.Instances.{Instance, id_of, row_of}
use Rattle.pp_objects.specs.declared.id.ObjectId.{ObjectId}
use Rattle.pp_places_law.proofs.Askable.{CanBeAsked}
use Rattle.pp_places_law.proofs.Entries.{askable_last}
use Rattle.pp_places_law.specs.Around.{AreAskable}
use Rattle.pp_seats.specs.Decided.{with_interim}
use Rattle.pp_seats.specs.Heads.{asked_in, owned_in}
use Rattle.pp_seats.specs.declared.front.Asked.{Asked}
use Rattle.pp_seats.specs.declared.front.Front.{Front as SeatFront}
use Rattle.pp_seats.specs.declared.key.Key.{Key}
use Rattle.pp_seats.specs.declared.seat.Seat.{Seat}
use Rattle.pp_state.specs.Ends.{Parts, changed_at, ended, exchange_of, left, left_at_decision, left_by, left_source, on_seat, parts, source_at, unfollowed, without_source}
use Rattle.pp_state.specs.Pins.{is_for_memory}
use Rattle.pp_state.specs.declared.state.State.{State as Turn}
use Rattle.pp_steps.specs.Evicting.{given_way, row_in_way, without_row}
use Rattle.pp_take.specs.Deciding.{Ask, Does, Takes, accounted, aim_for, answered_at, ask_at, ask_for, ask_for_kind, asked_by, asked_with, begun_by, begun_for, begun_of, by_asked, by_front, by_key, by_seat, errand_by, exchange_begun, followed_at, followed_by, following, is_pass, is_served_by, left_all, left_if_useless, left_useless, marked_at, marked_for, may_ask, of_request, origin_asked, relayed, row_at, row_followed}
use Rattle.pp_target.specs.Key.{IsPlaceIn}
use Rattle.pp_world.specs.declared.note.Decision.{Decision}
use Rattle.pp_world.specs.declared.note.Decision.TheVariants.{Refuse, Hit, Part, Head, NotModified, Unsatisfiable, Relay, Validate, Fetch, Pass}
use Rattle.pp_rounds_law.proofs.Asking.{decision_can, source_can}

-- ---- what a decision asks

-- by the key of the request of a seat
record Fits (front : SeatFront) (ask : Ask) : Type 0 where
  place : (key : Key) → owned_in (asked_in front) ≡ Some key → IsPlaceIn key.text.items ask.0.place
  short : length ask.1 ≤ 16384

fits_is : (n : ℕ) → nat_le n 16384 ≡ true → n ≤ 16384
fits_is n is = grind (arith, nat_tests)

module _ (name : List ℕ) (d : Decision) (m : Memory) (seat : Seat) (ask : Ask) where
  by_text : (a : Asked) (key : Key) (head : Request) (kind : Kind) → asked_in seat.front ≡ Some a → a.key ≡ Some key → (b : Bool) → fits (text_by name head key kind) ≡ b
      → option_map (λ (x : Ask). (of_request a seat.body_left head x.0, x.1)) (elim b as (λ t. Option Ask) [ true ↦ Some (errand_by a key head kind, text_by name head key kind) | false ↦ None ]) ≡ Some ask → Fits seat.front ask
  by_text a key head kind asked keyed false fit is = absurd (cc is)
  by_text a key head kind asked keyed true fit is =
      let same : (of_request a seat.body_left head (errand_by a key head kind), text_by name head key kind) ≡ ask = some_is _ ask is in
      record {
        place = λ own is_own.
            let this : key ≡ own = some_is key own (sym (ap (λ (o : Option Asked). owned_in o) asked ∙ keyed) ∙ is_own) in
            subst (λ (x : Ask). IsPlaceIn own.text.items x.0.place) same (subst (λ (k : Key). IsPlaceIn k.text.items key.place) this key.within);
        short = subst (λ (x : Ask). length x.1 ≤ 16384) same (fits_is (length (text_by name head key kind)) fit);
      }

  by_kind : (a : Asked) (key : Key) (head : Request) → asked_in seat.front ≡ Some a → a.key ≡ Some key → (o : Option Kind) → ask_for_kind name seat a key head o ≡ Some ask → Fits seat.front ask
  by_kind a key head asked keyed None is = absurd (cc is)
  by_kind a key head asked keyed (Some kind) is = by_text a key head kind asked keyed (fits (text_by name head key kind)) refl is

  by_head : (a : Asked) (key : Key) → asked_in seat.front ≡ Some a → a.key ≡ Some key → (front : Front) → by_front (ask_for name d m seat a key) front ≡ Some ask → Fits seat.front ask
  by_head a key asked keyed Nothing is = absurd (cc is)
  by_head a key asked keyed Begun is = absurd (cc is)
  by_head a key asked keyed (Refused status) is = absurd (cc is)
  by_head a key asked keyed (IsAsked head fault) is =
      by_kind a key head asked keyed (kind_of head (option_map (λ i. i.version) (row_of key.text.items m.instances)) d) is

  by_owned : (a : Asked) → asked_in seat.front ≡ Some a → (o : Option Key) → a.key ≡ o → by_key (ask_for name d m seat a) (current_of seat.client.heard) o ≡ Some ask → Fits seat.front ask
  by_owned a asked None keyed is = absurd (cc is)
  by_owned a asked (Some key) keyed is = by_head a key asked keyed (current_of seat.client.heard) is

  fits_of : (o : Option Asked) → asked_in seat.front ≡ o → by_asked (ask_for name d m seat) (current_of seat.client.heard) o ≡ Some ask → Fits seat.front ask
  fits_of None asked is = absurd (cc is)
  fits_of (Some a) asked is = by_owned a asked a.key refl is

-- ---- it begins

begun_can : (key : Key) (client : ℕ) (aim : Aim) (errand : Errand) (text : List ℕ) (p : Parts) → IsPlaceIn key.text.items errand.place → length text ≤ 16384 → CanBeAsked p
    → CanBeAsked (record p { flow = begun_by key client aim errand text p.flow })
begun_can key client aim errand text p place short can = by (may_ask p.flow)
  where
    by : (b : Bool)
        → CanBeAsked (record p {
          flow = elim b as (λ t. Exchanges) [
            | true ↦ record p.flow { waiting = p.flow.waiting ++ begun_with p.flow.begun client key.text.items aim errand text ∷ []; begun = p.flow.begun + 1 }
            | false ↦ p.flow
          ];
        })
    by true = (askable_last p.flow.waiting (begun_with p.flow.begun client key.text.items aim errand text) can.0 (record { place = place; short = short }), can.1)
    by false = can

-- the client at a place had that request before
record WasAsking (i : ℕ) (p : Parts) (new : Seat) : Type 0 where
  old : Seat
  here : slice_get p.seats i ≡ Some old
  front : new.front ≡ old.front

changed_front : (i : ℕ) (f : Seat → Seat) (seats : List Seat) (new : Seat) → ((seat : Seat) → (f seat).front ≡ seat.front) → slice_get (changed_at i f seats) i ≡ Some new → (old : Seat) × (slice_get seats i ≡ Some old) × (new.front ≡ old.front)
changed_front i f seats new same at = by (slice_get seats i) refl at
  where
    by : (o : Option Seat) → slice_get seats i ≡ o → slice_get (elim o as (λ t. List Seat) [ None ↦ seats | Some seat ↦ slice_set seats i (f seat) ]) i ≡ Some new → (old : Seat) × (slice_get seats i ≡ Some old) × (new.front ≡ old.front)
    by None here is = absurd (let bad : None ≡ Some new = sym here ∙ is in cc bad)
    by (Some seat) here is = (seat, here, ap (λ (x : Seat). x.front) (sym (some_is (f seat) new (sym (get_set i seats seat (f seat) here) ∙ is))) ∙ same seat)

source_front : (i : ℕ) (p : Parts) (new : Seat) → slice_get (left_source i p).seats i ≡ Some new → WasAsking i p new
source_front i p new at = by (source_at i p) at
  where
    by : (o : Option ObjectId) → slice_get (elim o as (λ t. Parts) [ None ↦ p | Some id ↦ record p { seats = changed_at i without_source p.seats; cache = unfollowed id p.cache } ]).seats i ≡ Some new → WasAsking i p new
    by None is = record { old = new; here = is; front = refl }
    by (Some id) is = let was : (old : Seat) × (slice_get p.seats i ≡ Some old) × (new.front ≡ old.front) = changed_front i without_source p.seats new (λ seat. refl) is in record { old = was.0; here = was.1; front = was.2 }

decision_seats : (i : ℕ) (p : Parts) → (left_at_decision i p).seats ≡ p.seats
decision_seats i p = by (exchange_of i p)
  where
    at : (n : ℕ) (o : Option ℕ) → (elim o as (λ t. Parts) [ None ↦ ended n p | Some k ↦ left n p ]).seats ≡ p.seats
    at n None = refl
    at n (Some k) = refl

    by : (o : Option Exchange) → (elim o as (λ t. Parts) [ None ↦ p | Some e ↦ left_by e p ]).seats ≡ p.seats
    by None = refl
    by (Some e) = at e.number e.place

module _ (name : List ℕ) (i : ℕ) (d : Decision) (p : Parts) (can : CanBeAsked p) where
  abbrev quit : Parts
  quit = left_source i (on_seat i with_interim p)

  quit_can : CanBeAsked quit
  quit_can = source_can i (on_seat i with_interim p) can

  was_asking : (new : Seat) → slice_get (left_at_decision i quit).seats i ≡ Some new → WasAsking i p new
  was_asking new at =
      let one : WasAsking i (on_seat i with_interim p) new = source_front i (on_seat i with_interim p) new (ap (λ (seats : List Seat). slice_get seats i) (sym (decision_seats i quit)) ∙ at) in
      let two : (old : Seat) × (slice_get p.seats i ≡ Some old) × (one.old.front ≡ old.front) = changed_front i with_interim p.seats one.old (λ seat. interim_front seat) one.here in
      record { old = two.0; here = two.1; front = one.front ∙ two.2 }

  begins : (ask : Ask) → ask_at name i d p ≡ Some ask → CanBeAsked (exchange_begun i (aim_for (is_pass d)) ask.0 ask.1 quit)
  unfolding exchange_begun
  begins ask is = by (slice_get left.seats i) refl
    where
      left : Parts
      left = left_at_decision i quit

      left_can : CanBeAsked left
      left_can = decision_can i quit quit_can

      fits_for : (new : Seat) → WasAsking i p new → Fits new.front ask
      fits_for new was =
          subst (λ (f : SeatFront). Fits f ask) (sym was.front)
          (fits_of name d p.cache was.old ask (asked_in was.old.front) refl (sym (ap (λ (o : Option Seat). by_seat (ask_for name d p.cache) o) was.here) ∙ is))

      owned : (new : Seat) → Fits new.front ask → (o : Option Key) → owned_in (asked_in new.front) ≡ o → CanBeAsked (record left { flow = begun_of o new.client.id (aim_for (is_pass d)) ask.0 ask.1 left.flow })
      owned new its None keyed = left_can
      owned new its (Some key) keyed = begun_can key new.client.id (aim_for (is_pass d)) ask.0 ask.1 left (its.place key keyed) its.short left_can

      by : (o : Option Seat) → slice_get left.seats i ≡ o → CanBeAsked (record left { flow = begun_for o (aim_for (is_pass d)) ask.0 ask.1 left.flow })
      by None here = left_can
      by (Some new) here = owned new (fits_for new (was_asking new here)) (owned_in (asked_in new.front)) refl

  asked_can : CanBeAsked (origin_asked name i d p)
  unfolding asked_with
  asked_can = by (ask_at name i d p) refl
    where
      by : (o : Option Ask) → ask_at name i d p ≡ o → CanBeAsked (asked_by i d o p)
      by None is = can
      by (Some ask) is = begins ask is

-- ---- a page, a response that is passed, and a row that is followed

answered_can : (i : ℕ) (d : Decision) (source : Option ObjectId) (span : ℕ × ℕ) (p : Parts) → CanBeAsked p → CanBeAsked (answered_at i d source span p)
unfolding answered_at
answered_can i d source span p can = source_can i p can

all_can : (i : ℕ) (p : Parts) → CanBeAsked p → CanBeAsked (left_all i p)
unfolding left_all
all_can i p can = decision_can i (left_source i (on_seat i with_interim p)) (source_can i (on_seat i with_interim p) can)

useless_can : (i : ℕ) (p : Parts) → CanBeAsked p → CanBeAsked (left_useless i p)
unfolding left_useless
useless_can i p can = by (exchange_of i p)
  where
    served : (b : Bool) → CanBeAsked (elim b as (λ t. Parts) [ true ↦ p | false ↦ left_at_decision i p ])
    served true = can
    served false = decision_can i p can

    by : (o : Option Exchange) → CanBeAsked (left_if_useless i o p)
    by None = can
    by (Some e) = served (is_served_by i e.number p)

follow_can : (i : ℕ) (d : Decision) (span : ℕ × ℕ) (id : ObjectId) (p : Parts) → CanBeAsked p → CanBeAsked (followed_by i d span id p)
unfolding followed_by
follow_can i d span id p can =
    useless_can i (answered_at i d (Some id) span (following id (on_seat i with_interim p))) (answered_can i d (Some id) span (following id (on_seat i with_interim p)) can)

row_can : (i : ℕ) (d : Decision) (span : ℕ × ℕ) (p : Parts) → CanBeAsked p → CanBeAsked (followed_at i d span p)
row_can i d span p can = by (row_at i p)
  where
    by : (o : Option Instance) → CanBeAsked (row_followed i d span o p)
    by None = can
    by (Some x) = follow_can i d span (id_of x) p can

-- ---- any

so_can : (p q : Parts) → q ≡ p → CanBeAsked p → CanBeAsked q
so_can p q same can = subst (λ (r : Parts). CanBeAsked r) (sym same) can

does_can : (name : List ℕ) (i : ℕ) (d : Decision) (p q : Parts) → CanBeAsked p → Does name i d p q → CanBeAsked q
does_can name i (Refuse status) p q can it = subst (λ (f : Exchanges). AreAskable f.waiting × AreAskable f.placed) (sym (ap (λ (r : Parts). r.flow) it.rest)) (all_can i p can)
does_can name i Pass p q can it = so_can (origin_asked name i Pass p) q it (asked_can name i Pass p can)
does_can name i Fetch p q can it = so_can (origin_asked name i Fetch p) q it (asked_can name i Fetch p can)
does_can name i Validate p q can it = so_can (origin_asked name i Validate p) q it (asked_can name i Validate p can)
does_can name i Relay p q can it = so_can (relayed i p) q it (answered_can i Relay None (0, 0) (on_seat i with_interim p) can)
does_can name i (Hit from to) p q can it = so_can (followed_at i (Hit from to) (from, to) p) q it (row_can i (Hit from to) (from, to) p can)
does_can name i (Part from to) p q can it = so_can (followed_at i (Part from to) (from, to) p) q it (row_can i (Part from to) (from, to) p can)
does_can name i Head p q can it = so_can (followed_at i Head (0, 0) p) q it (row_can i Head (0, 0) p can)
does_can name i NotModified p q can it = so_can (followed_at i NotModified (0, 0) p) q it (row_can i NotModified (0, 0) p can)
does_can name i Unsatisfiable p q can it = so_can (followed_at i Unsatisfiable (0, 0) p) q it (row_can i Unsatisfiable (0, 0) p can)

marked_can : (i : ℕ) (d : Decision) (p : Parts) → CanBeAsked p → CanBeAsked (marked_for i d p)
marked_can i d p can = by (is_for_memory d)
  where
    by : (b : Bool) → CanBeAsked (elim b as (λ t. Parts) [ true ↦ p | false ↦ marked_at i p ])
    by true = can
    by false = can

pub takes_can : (name : List ℕ) (i : ℕ) (d : Decision) (p q : Parts) → CanBeAsked p → Takes name i d p q → CanBeAsked q
takes_can name i d p q can it = does_can name i d (accounted i d (marked_for i d p)) q (marked_can i d p can) it

pub way_can : (d : Decision) (i : ℕ) (q : Turn) → CanBeAsked (parts q) → CanBeAsked (parts (given_way d i q))
way_can d i q can = by (row_in_way d i q)
  where
    by : (o : Option Instance) → CanBeAsked (parts (without_row o q))
    by None = can
    by (Some x) = can
