-- What becomes of an exchange whose connection is gone.
use Rattle.std.proofs.Common.{◌≡◌, refl, sym, subst, ap, ap₂, ◌∙◌, ℕ, Bool, true, false, ◌&&◌, cond, find, List, [], Some, None, Option}
use Rattle.std.specs.List.{list_any}
use Rattle.std.specs.Prelude.{is_some, option_and_then, slice_get, option_map}
use Rattle.pp_cache_law.proofs.Finds.{find_passes}
use Rattle.pp_flow.specs.Changes.{Exchanges, entered, entry_of, first_of, unplaced as without_place, with_errand, without as without_number}
use Rattle.pp_flow.specs.Entries.{is_number, with_place}
use Rattle.pp_flow.specs.declared.entry.Entry.{Entry}
use Rattle.pp_flow.specs.declared.entry.Exchange.{Exchange as SeatExchange}
use Rattle.pp_flow_law.proofs.Entries.{find_entered}
use Rattle.pp_flow_law.proofs.Standing.{entry_placed, none_waits}
use Rattle.pp_flow_law.specs.Changes.{but}
use Rattle.pp_flow_law.specs.Tables.{Leaving, ShowsFlow, line_in}
use Rattle.pp_law.specs.Connections.{end_exchange, exchange, is_client, is_for, is_trying, leave_place, lose_attempt, lose_place, may_ask_again, on_client_of, on_exchange, unplaced, attempts_of, is_conn, lost_one}
use Rattle.pp_law.specs.Lists.{Bytes, is_some_with, is_this, has_number}
use Rattle.pp_law.specs.Stages.{is_headed, on_passed}
use Rattle.pp_law.specs.State.{State, Client, Conn, Course, Exchange, Passed}
use Rattle.pp_peers.specs.declared.peers.Peer.{Peer}
use Rattle.pp_seats.specs.Courses.{is_trying_in}
use Rattle.pp_seats.specs.Seats.{brought_to}
use Rattle.pp_seats.specs.declared.seat.Course.{Course as SeatCourse}
use Rattle.pp_seats.specs.declared.seat.Course.TheVariants.{Trying as IsTrying, OutOfTries as IsOut, AskTooLong as IsTooLong}
use Rattle.pp_seats.specs.declared.seat.PassedEnd.TheVariants.{Short}
use Rattle.pp_seats.specs.declared.seat.Seat.{Seat}
use Rattle.pp_seats_law.proofs.AllSeats.{places}
use Rattle.pp_seats_law.proofs.Entries.{exchanges}
use Rattle.pp_seats_law.specs.Clients.{IsAt, IsFound}
use Rattle.pp_seats_law.specs.Exchanges.{ShowsExchange}
use Rattle.pp_seats_law.specs.Replies.{course_of}
use Rattle.pp_states_law.proofs.Ended.{ends, unplaces}
use Rattle.pp_states_law.specs.Exchanges.{StandsNowhere}
use Rattle.pp_states_law.specs.Charges.{GoesOn, IsFor, IsThere}
use Rattle.pp_state.specs.Ends.{Parts, asked_elsewhere, cut_short, ended, left_place, left_place_at, lost_attempt, may_ask_again as may_ask_again_in, may_go_elsewhere, numbers_of, on_seat_where, place_of, seat_for}
use Rattle.pp_states_law.specs.Losses.{HasLost, IsComing, LossesAreTheLaws}
use Rattle.pp_states_law.specs.Steps.{ShowsSteps, whole}
use Rattle.pp_states_law.proofs.Charged.{course_shown, losses, number_is, on_asker, same_entry, lost_given}
use Rattle.pp_states_law.proofs.Places.{HasNone, HasPlace, HasSeat, at_place, has_none, has_place as has_seat_place, has_seat, one_asks}
use Rattle.pp_states_law.proofs.Shorts.{cut_off, shorts, shorts_follow}
use Rattle.pp_states_law.proofs.Told.{exchange_next, over_next, told_asked, told_next, told_over, told_unplaced}
use Rattle.pp_flow_law.proofs.Told.{places as still_placed}
use Rattle.pp_states_law.proofs.Paid.{Before, Stays, charge_stays}

-- ---- what was passed of it ends early

cut_seat : Seat → Seat
cut_seat seat = record seat { brought = brought_to Short seat.brought }

nobody_cut : (e : Exchange) (s : State) → HasNone e.asker s.clients → on_client_of e (on_passed cut_off) s ≡ s
unfolding on_client_of
nobody_cut e s none = ap (λ (cs : List Client). record s { clients = cs }) (none.changes (on_passed cut_off))

pub cuts : (number : ℕ → ℕ) (name : Bytes) (l : Leaving) (peers : List Peer) (p : Parts) (s : State) → ShowsSteps number name l peers p s → (x : SeatExchange) (e : Exchange) → x.asker ≡ e.asker → IsFor s e IsComing
    → ShowsSteps number name l peers (cut_short x p) (on_client_of e (on_passed cut_off) s)
cuts number name l peers p s shows x e same coming = by (seat_for x p.seats) refl
  where
    by : (o : Option ℕ) → seat_for x p.seats ≡ o → ShowsSteps number name l peers (on_seat_where o (λ seat. record seat { brought = brought_to Short seat.brought }) p) (on_client_of e (on_passed cut_off) s)
    by None none =
        subst (λ (t : State). ShowsSteps number name l peers p t)
        (sym (nobody_cut e s (subst (λ (asker : Option ℕ). HasNone asker s.clients) same (has_none number name [] x.asker p.seats s.clients shows.shows.clients none)))) shows
    by (Some i) at =
        let one : HasPlace x.asker (numbers_of p.seats) i = has_seat_place x.asker (numbers_of p.seats) i at in
        on_asker number name l peers p s shows e one.client i (λ seat. record seat { brought = brought_to Short seat.brought }) (on_passed cut_off) (sym same ∙ one.asks) one.place
        (record { follows = shorts_follow; id = λ seat. refl; shows = λ seat c there found shown. shorts number name [] seat c shown (coming one.client c (sym same ∙ one.asks) found) })

-- ---- its request may ask once more

trying_same : (course : SeatCourse) → is_trying_in course ≡ is_trying (course_of course)
trying_same (IsTrying n) = refl
trying_same IsOut = refl
trying_same IsTooLong = refl

abbrev trying_by : Option Seat → Bool
trying_by o = elim o as (λ t. Bool) [ None ↦ false | Some seat ↦ is_trying_in seat.course ]

pub asks_again : (number : ℕ → ℕ) (name : Bytes) (l : Leaving) (peers : List Peer) (p : Parts) (s : State) → ShowsSteps number name l peers p s → (n : ℕ) (x : Entry) (e : Exchange) → IsThere n p s x e → IsFor s e GoesOn
    → may_ask_again_in n p ≡ may_ask_again s n
asks_again number name l peers p s shows n x e there goes =
    ap (λ (o : Option Entry). trying_by (option_and_then (λ y. option_and_then (slice_get p.seats) (seat_for y.exchange p.seats)) o)) there.here
    ∙ by (seat_for x.exchange p.seats) refl
    ∙ sym (ap (λ (o : Option Exchange). is_some_with (λ d. list_any (λ c. is_for d c && is_trying c.course) s.clients) o) there.there)
  where
    shown : ShowsExchange number x e
    shown = same_entry number name l peers p s shows n x e there

    here : (i c : ℕ) → e.asker ≡ Some c → place_of c (numbers_of p.seats) ≡ Some i → trying_by (slice_get p.seats i) ≡ list_any (λ d. is_for e d && is_trying d.course) s.clients
    here i c asks place =
        let at : IsAt c i p.seats = at_place c i p.seats shows.order place in
        let one : HasSeat i p.seats = has_seat c i p.seats at in
        let found : IsFound number name [] one.seat c s.clients = places number name [] p.seats s.clients c i one.seat shows.shows.clients at one.there in
        ap (λ (o : Option Seat). trying_by o) one.there
        ∙ trying_same one.seat.course
        ∙ ap (λ (course : Course). is_trying course) (course_shown number name one.seat found.client found.shows (goes c found.client asks found.there))
        ∙ sym (one_asks number name [] c i (λ d. is_trying d.course) p.seats s.clients found.client shows.shows.clients at found.there)
        ∙ ap (λ (asker : Option ℕ). list_any (λ d. is_this d.number asker && is_trying d.course) s.clients) (sym asks)

    by : (o : Option ℕ) → seat_for x.exchange p.seats ≡ o → trying_by (option_and_then (slice_get p.seats) o) ≡ list_any (λ d. is_for e d && is_trying d.course) s.clients
    by None none = sym ((subst (λ (asker : Option ℕ). HasNone asker s.clients) shown.asker (has_none number name [] x.exchange.asker p.seats s.clients shows.shows.clients none)).asks (λ d. is_trying d.course))
    by (Some i) at =
        let one : HasPlace x.exchange.asker (numbers_of p.seats) i = has_seat_place x.exchange.asker (numbers_of p.seats) i at in
        here i one.client (sym shown.asker ∙ one.asks) one.place

-- ---- it is over, or waits again

ends_there : (number : ℕ → ℕ) (name : Bytes) (l : Leaving) (peers : List Peer) (p : Parts) (s : State) → ShowsSteps number name l peers p s → (n : ℕ) → StandsNowhere n s.conns → ShowsSteps number name (but n l) peers (ended n p) (end_exchange n s)
ends_there number name l peers p s shows n nowhere = record {
  shows = ends number name [] l (whole p peers) s shows.shows n nowhere;
  order = shows.order;
  told = told_next number p.cache s.next_instance (end_exchange n s).next_instance (ended n p).flow (over_next n s) (told_over number p.cache s.next_instance n p.flow shows.told);
  refused = shows.refused;
}

-- behind its place it stands among those without one
entry_without : (number : ℕ → ℕ) (l : Leaving) (f : Exchanges) (s : State) → ShowsFlow number l f s → (n : ℕ) (x : Entry) → find (is_number n) f.placed ≡ Some x → entry_of n (without_place n f) ≡ Some (with_place None x)
entry_without number l f s shows n x here =
    ap (λ (o : Option Entry). entry_of n (elim o as (λ u. Exchanges) [ None ↦ f | Some e ↦ record f { waiting = entered (with_place None e) f.waiting; placed = without_number n f.placed } ])) here
    ∙ ap (λ (o : Option Entry). first_of o (find (is_number n) (without_number n f.placed))) (find_entered n (with_place None x) (find_passes (is_number n) f.placed x here) f.waiting (none_waits number l f s shows n x here))

waits_again : (number : ℕ → ℕ) (name : Bytes) (l : Leaving) (peers : List Peer) (p : Parts) (s : State) → ShowsSteps number name l peers p s → (n : ℕ) (x : Entry) → HasLost n p s x
    → ShowsSteps number name (but n l) peers (asked_elsewhere n p) (on_exchange n unplaced s)
waits_again number name l peers p s shows n x lost =
    subst (λ (o : Option Entry). ShowsSteps number name (but n l) peers (record p { flow = elim o as (λ t. Exchanges) [ None ↦ without_place n p.flow | Some y ↦ with_errand n (record y.errand { asked = 0 }) (without_place n p.flow) ] }) (on_exchange n unplaced s))
    (sym (entry_without number l p.flow s shows.shows.exchanges n x lost.placed))
    (record {
      shows = unplaces number name [] l (whole p peers) s shows.shows n x lost.placed lost.left lost.nowhere;
      order = shows.order;
      told =
          told_next number p.cache s.next_instance (on_exchange n unplaced s).next_instance (with_errand n (record x.errand { asked = 0 }) (without_place n p.flow)) (exchange_next n unplaced s)
          (told_asked number p.cache s.next_instance n (record x.errand { asked = 0 }) (without_place n p.flow) (told_unplaced number p.cache s.next_instance n p.flow shows.told));
      refused = shows.refused;
    })

-- ---- one that lost its place

abbrev elsewhere_if : ℕ → Parts → Bool → Parts
elsewhere_if n p b = cond b (asked_elsewhere n p) (ended n p)

abbrev law_elsewhere_if : ℕ → State → Bool → State
law_elsewhere_if n s b = elim b as (λ t. State) [ true ↦ on_exchange n unplaced s | false ↦ end_exchange n s ]

abbrev left_if : SeatExchange → Parts → Bool → Parts
left_if e p b = cond b (ended e.number (cut_short e p)) (elsewhere_if e.number p (may_go_elsewhere e.number p))

abbrev law_left_if : Exchange → State → Bool → State
law_left_if e s b = elim b as (λ t. State) [ true ↦ end_exchange e.number (on_client_of e (on_passed cut_off) s) | false ↦ law_elsewhere_if e.number s (may_ask_again s e.number) ]

-- as it was when its connection was gone, and as it is now
pub record IsLeft (number : ℕ → ℕ) (n : ℕ) (p : Parts) (s : State) (was : SeatExchange) (e : Exchange) : Type 0 where
  pub number_in : was.number ≡ n
  pub number_of : e.number ≡ n
  pub asker : was.asker ≡ e.asker
  pub headed : was.headed ≡ is_headed e
  pub entry : Entry
  pub known : Exchange
  pub there : IsThere n p s entry known
  pub lost : HasLost n p s entry
  pub goes : IsFor s known GoesOn
  pub coming : IsFor s e IsComing

conns_kept : (e : Exchange) (g : Client → Client) (s : State) → (on_client_of e g s).conns ≡ s.conns
unfolding on_client_of
conns_kept e g s = refl

pub leaves_place : (number : ℕ → ℕ) (name : Bytes) (l : Leaving) (peers : List Peer) (p : Parts) (s : State) → ShowsSteps number name l peers p s → (n : ℕ) (was : SeatExchange) (e : Exchange) → IsLeft number n p s was e
    → ShowsSteps number name (but n l) peers (left_place was p) (leave_place e s)
unfolding left_place leave_place
leaves_place number name l peers p s shows n was e is =
    subst (λ (m : ℕ). ShowsSteps number name (but n l) peers (cond was.headed (ended m (cut_short was p)) (elsewhere_if m p (may_go_elsewhere m p))) (law_left_if e s (is_headed e))) (sym is.number_in)
    (subst (λ (m : ℕ). ShowsSteps number name (but n l) peers (cond was.headed (ended n (cut_short was p)) (elsewhere_if n p (may_go_elsewhere n p))) (elim (is_headed e) as (λ t. State) [ true ↦ end_exchange m (on_client_of e (on_passed cut_off) s) | false ↦ law_elsewhere_if m s (may_ask_again s m) ])) (sym is.number_of)
    (subst (λ (b : Bool). ShowsSteps number name (but n l) peers (cond b (ended n (cut_short was p)) (elsewhere_if n p (may_go_elsewhere n p))) (elim (is_headed e) as (λ t. State) [ true ↦ end_exchange n (on_client_of e (on_passed cut_off) s) | false ↦ law_elsewhere_if n s (may_ask_again s n) ])) (sym is.headed)
    (by (is_headed e))))
  where
    same : may_go_elsewhere n p ≡ may_ask_again s n
    same =
        ap₂ (λ (a b : Bool). a && b) (asks_again number name l peers p s shows n is.entry is.known is.there is.goes) (ap (λ (o : Option Entry). is_some o) is.lost.placed)
        ∙ and_true (may_ask_again s n)
      where
        and_true : (b : Bool) → b && true ≡ b
        and_true true = refl
        and_true false = refl

    at : (b : Bool) → ShowsSteps number name (but n l) peers (elsewhere_if n p b) (law_elsewhere_if n s b)
    at true = waits_again number name l peers p s shows n is.entry is.lost
    at false = ends_there number name l peers p s shows n is.lost.nowhere

    by : (b : Bool) → ShowsSteps number name (but n l) peers (cond b (ended n (cut_short was p)) (elsewhere_if n p (may_go_elsewhere n p))) (elim b as (λ t. State) [ true ↦ end_exchange n (on_client_of e (on_passed cut_off) s) | false ↦ law_elsewhere_if n s (may_ask_again s n) ])
    by true =
        ends_there number name l peers (cut_short was p) (on_client_of e (on_passed cut_off) s) (cuts number name l peers p s shows was e is.asker is.coming) n
        (subst (λ (ks : List Conn). StandsNowhere n ks) (sym (conns_kept e (on_passed cut_off) s)) is.lost.nowhere)
    by false = subst (λ (b : Bool). ShowsSteps number name (but n l) peers (elsewhere_if n p b) (law_elsewhere_if n s (may_ask_again s n))) (sym same) (at (may_ask_again s n))

-- ---- where that counts, an attempt is lost first

has_lost : (number : ℕ → ℕ) (name : Bytes) (l : Leaving) (peers : List Peer) (p q : Parts) (s t : State) (n : ℕ) (x : Entry) (e : Exchange) → ShowsSteps number name l peers p s → IsThere n p s x e → HasLost n p s x → Stays s t n e
    → ShowsSteps number name l peers q t → IsFor s e GoesOn → IsFor s e IsComing → IsLeft number n q t x.exchange e
has_lost number name l peers p q s t n x e before there lost stays shows goes coming = by (find (is_number n) q.flow.placed) refl placed
  where
    shown : ShowsExchange number x e
    shown = same_entry number name l peers p s before n x e there

    is : e.number ≡ n
    is = number_is n s e there.there

    -- it has that place still
    placed : is_some (find (is_number n) q.flow.placed) ≡ true
    placed =
        still_placed number l q.flow t shows.shows.exchanges n
        ∙ ap (λ (o : Option Exchange). is_some_with (λ d. is_some d.place) o) stays.there
        ∙ ap (λ (o : Option ℕ). is_some o) (stays.place ∙ sym shown.place)
        ∙ placed_on
      where
        placed_on : is_some x.exchange.place ≡ true
        placed_on =
            ap (λ (o : Option ℕ). is_some o) shown.place
            ∙ ap (λ (o : Option Exchange). is_some_with (λ d. is_some d.place) o) (sym there.there)
            ∙ sym (still_placed number l p.flow s before.shows.exchanges n)
            ∙ ap (λ (o : Option Entry). is_some o) lost.placed

    client : (P : Client → Type 0) (m : ℕ) (c : Client) → find (is_client m) t.clients ≡ Some c → ((b : Before s m c) → P c) → P c
    client P m c found to = to (stays.follows.client m c found)

    by : (o : Option Entry) → find (is_number n) q.flow.placed ≡ o → is_some (find (is_number n) q.flow.placed) ≡ true → IsLeft number n q t x.exchange e
    by None none some = absurd (let both : false ≡ true = sym (ap (λ (o : Option Entry). is_some o) none) ∙ some in cc both)
    by (Some y) here some = record {
      number_in = shown.number ∙ is;
      number_of = is;
      asker = shown.asker;
      headed = (exchanges number x e shown).headed;
      entry = y;
      known = stays.known;
      there = record { here = entry_placed n q.flow y (none_waits number l q.flow t shows.shows.exchanges n y here) here; there = stays.there };
      lost = record {
        placed = here;
        left = λ k. ap (λ (ks : List Conn). has_number n (line_in (find (is_conn k) ks))) stays.follows.conns ∙ lost.left k;
        nowhere = subst (λ (ks : List Conn). StandsNowhere n ks) (sym stays.follows.conns) lost.nowhere;
      };
      goes = λ m c asks found. client (λ (d : Client). GoesOn d) m c found (λ b. on m c b (goes m b.before (stays.asker m asks) b.there));
      coming = λ m c asks found. client (λ (d : Client). IsComing d) m c found (λ b. ap (λ (o : Option Passed). is_some_with (λ y. y.pipe.is_finished) o) b.passed ∙ coming m b.before asks b.there);
    }
      where
        on : (m : ℕ) (c : Client) (b : Before s m c) → GoesOn b.before → GoesOn c
        on m c b was = record { going = b.closing ∙ was.going; given = b.given was.given }

abbrev counted_if : Exchange → State → Bool → State
counted_if e s b = elim b as (λ t. State) [ true ↦ leave_place e (lose_attempt e s) | false ↦ leave_place e s ]

as_it_is : (s : State) (n : ℕ) (e : Exchange) → exchange s n ≡ Some e → Stays s s n e
as_it_is s n e there = record { follows = record { conns = refl; client = λ m c found. record { before = c; there = found; closing = refl; passed = refl; given = λ ok. ok } }; known = e; there = there; place = refl; asker = λ m is. is }

attempt_stays : (s : State) (n : ℕ) (e : Exchange) → exchange s n ≡ Some e → Stays s (lose_attempt e s) n e
unfolding lose_attempt
attempt_stays s n e there = charge_stays (lost_one (attempts_of e)) s e n (lost_given (attempts_of e)) there (number_is n s e there)

pub places_lost : LossesAreTheLaws
unfolding lose_place
places_lost number name l peers p s shows n x e counts there lost goes coming =
    subst (λ (o : Option SeatExchange). ShowsSteps number name (but n l) peers (left_place_at o counts p) (counted_if e s counts)) (sym (ap (λ (o : Option Entry). option_map (λ y. y.exchange) o) there.here)) (by counts)
  where
    by : (b : Bool) → ShowsSteps number name (but n l) peers (left_place x.exchange (cond b (lost_attempt x.exchange p) p)) (counted_if e s b)
    by true =
        let after : ShowsSteps number name l peers (lost_attempt x.exchange p) (lose_attempt e s) = losses number name l peers p s shows n x e there goes in
        leaves_place number name l peers (lost_attempt x.exchange p) (lose_attempt e s) after n x.exchange e
        (has_lost number name l peers p (lost_attempt x.exchange p) s (lose_attempt e s) n x e shows there lost (attempt_stays s n e there.there) after goes coming)
    by false = leaves_place number name l peers p s shows n x.exchange e (has_lost number name l peers p p s s n x e shows there lost (as_it_is s n e there.there) shows goes coming)
