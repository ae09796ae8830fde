-- An answer that is of no use loses an attempt, and one that may not be shared its row, as the law has it.
use Rattle.std.proofs.Common.{◌≡◌, refl, sym, subst, ap, ◌∙◌, ℕ, Bool, true, false, not, ◌&&◌, ◌||◌, find, List, Some, None, Option}
use Rattle.std.specs.Prelude.{[], is_some, option_map}
use Rattle.pp_cache_law.proofs.Numbers.{true_false}
use Rattle.pp_flow.specs.Entries.{is_number}
use Rattle.pp_flow.specs.declared.entry.Entry.{Entry}
use Rattle.pp_flow_law.proofs.Told.{places}
use Rattle.pp_flow_law.specs.Tables.{Leaving, has_place}
use Rattle.pp_law.specs.Connections.{attempts_of, exchange, lose_attempt, lost_one, on_client_of, without_shared_row, anew}
use Rattle.pp_law.specs.Lists.{Bytes, is_some_with}
use Rattle.pp_law.specs.OwnHeads.{drop_answer, key_of as law_key, not_shared as law_not_shared, useless}
use Rattle.pp_law.specs.Stages.{is_begun}
use Rattle.pp_law.specs.State.{State, Client, Dropping, Exchange, Useless}
use Rattle.pp_law.specs.Table.{clear, follows, swept}
use Rattle.pp_peers.specs.declared.peers.Peer.{Peer}
use Rattle.pp_seats.specs.Courses.{has_begun, lost_one as lost_one_in, without_shared_row as seat_without_shared_row}
use Rattle.pp_seats.specs.declared.seat.Course.TheVariants.{Trying as IsTrying}
use Rattle.pp_seats.specs.declared.seat.Seat.{Seat}
use Rattle.pp_seats_law.proofs.Entries.{exchanges}
use Rattle.pp_seats_law.proofs.Fates.{shared_rows_leave}
use Rattle.pp_seats_law.specs.Exchanges.{ShowsExchange}
use Rattle.pp_states_law.specs.Clients.{FollowsOn}
use Rattle.pp_answers.specs.Answers.{not_shared, on_its}
use Rattle.pp_state.specs.Ends.{Parts, cleared_key, cleared_of, cleared_row, lost_attempt, on_seat_where, seat_for, unusable}
use Rattle.pp_answers.specs.FinalHeads.{noted_body}
use Rattle.pp_state.specs.Keys.{key_of}
use Rattle.pp_states_law.proofs.Charged.{clears_row, losses, lost_given, number_is, same_entry}
use Rattle.pp_states_law.proofs.Paid.{Stays, charge_stays}
use Rattle.pp_states_law.specs.Charges.{GoesOn, IsFor}
use Rattle.pp_states_law.specs.Steps.{ShowsSteps}
use Rattle.pp_target.specs.Key.{text_of}
use Rattle.pp_answers_law.specs.Answers.{IsAnswered, NotSharedAreTheLaws, Stands, UselessAreTheLaws}
use Rattle.pp_answers_law.proofs.Dropped.{IsRead, drop_read, read_now, there_too}
use Rattle.pp_answers_law.proofs.Orders.{lost_told, shared_rows_told}
use Rattle.pp_answers_law.proofs.Standing.{stands_changed, stands_cleared, stands_lost, unshared_stands}
use Rattle.pp_answers_law.proofs.Told.{asker_changed}

pub for_on : (s : State) (e : Exchange) → IsFor s e Stands → IsFor s e GoesOn
for_on s e stands m c asks found = (stands m c asks found).on

-- ---- an attempt is lost

-- the exchange as it stands behind that
record IsStill (n : ℕ) (p : Parts) (s : State) (x : Entry) (e : Exchange) : Type 0 where
  entry : Entry
  now : Exchange
  answered : IsAnswered n p s entry now
  read : IsRead n x.exchange e entry now

lost_stays : (n : ℕ) (s : State) (e : Exchange) → exchange s n ≡ Some e → e.number ≡ n → Stays s (lose_attempt e s) n e
unfolding lose_attempt
lost_stays n s e there number = charge_stays (lost_one (attempts_of e)) s e n (lost_given (attempts_of e)) there number

still_placed : (number : ℕ → ℕ) (name : Bytes) (l : Leaving) (peers : List Peer) (q : Parts) (t : State) → ShowsSteps number name l peers q t → (n : ℕ) (x : Entry) (e now : Exchange) → has_place e ≡ true → now.place ≡ e.place → exchange t n ≡ Some now
    → ((m : ℕ) → now.asker ≡ Some m → e.asker ≡ Some m) → x.exchange.number ≡ n → e.number ≡ n → x.exchange.asker ≡ e.asker → IsStill n q t x e
still_placed number name l peers q t shows n x e now has place there asks own law same = by (find (is_number n) q.flow.placed) refl
  where
    some : is_some (find (is_number n) q.flow.placed) ≡ true
    some =
        places number l q.flow t shows.shows.exchanges n ∙ ap (λ (o : Option Exchange). is_some_with has_place o) there
        ∙ ap (λ (o : Option ℕ). is_some o) place ∙ has

    by : (o : Option Entry) → find (is_number n) q.flow.placed ≡ o → IsStill n q t x e
    by None is = absurd (true_false (sym some ∙ ap (λ (o : Option Entry). is_some o) is))
    by (Some y) is =
        let answered : IsAnswered n q t y now = record { placed = is; there = there } in
        let shown : ShowsExchange number y now = same_entry number name l peers q t shows n y now (there_too number name l peers q t shows n y now answered) in
        record {
          entry = y;
          now = now;
          answered = answered;
          read = record { number = own; law = law; asker = same; still = λ m is_m. same ∙ asks m (sym shown.asker ∙ is_m) };
        }

has_its_place : (number : ℕ → ℕ) (name : Bytes) (l : Leaving) (peers : List Peer) (p : Parts) (s : State) → ShowsSteps number name l peers p s → (n : ℕ) (x : Entry) (e : Exchange) → IsAnswered n p s x e → has_place e ≡ true
has_its_place number name l peers p s shows n x e answered = sym (ap (λ (o : Option Exchange). is_some_with has_place o) answered.there) ∙ sym (places number l p.flow s shows.shows.exchanges n) ∙ ap (λ (o : Option Entry). is_some o) answered.placed

pub order_is : (e : Exchange) (s : State) → useless e s ≡ drop_answer e (lose_attempt e s)
unfolding useless drop_answer
order_is e s = lost_told e Useless Dropping s

pub uselesses : UselessAreTheLaws
uselesses number name l peers p s shows n x e answered stands =
    subst (λ (t : State). ShowsSteps number name l peers (noted_body n (unusable x.exchange (lost_attempt x.exchange p))) t) (sym (order_is e s))
    (drop_read number name l peers (lost_attempt x.exchange p) (lose_attempt e s) lost n x.exchange e still.entry still.now still.answered still.read (stands_lost e s stands))
  where
    read : IsRead n x.exchange e x e
    read = read_now number name l peers p s shows n x e answered

    lost : ShowsSteps number name l peers (lost_attempt x.exchange p) (lose_attempt e s)
    lost = losses number name l peers p s shows n x e (there_too number name l peers p s shows n x e answered) (for_on s e stands)

    stays : Stays s (lose_attempt e s) n e
    stays = lost_stays n s e answered.there read.law

    still : IsStill n (lost_attempt x.exchange p) (lose_attempt e s) x e
    still =
        still_placed number name l peers (lost_attempt x.exchange p) (lose_attempt e s) lost n x e stays.known (has_its_place number name l peers p s shows n x e answered) stays.place stays.there stays.asker read.number read.law read.asker

-- ---- its row is cleared

pub key_is : (number : ℕ → ℕ) (name : Bytes) (l : Leaving) (peers : List Peer) (p : Parts) (s : State) → ShowsSteps number name l peers p s → (n : ℕ) (x : Entry) (e : Exchange) → IsAnswered n p s x e → key_of x.exchange.number p.flow ≡ Some (text_of e.key)
key_is number name l peers p s shows n x e answered =
    ap (λ (m : ℕ). key_of m p.flow) (shown.number ∙ number_is n s e answered.there)
    ∙ ap (λ (o : Option Entry). option_map (λ y. y.key.items) o) (there_too number name l peers p s shows n x e answered).here
    ∙ ap (λ (text : List ℕ). Some text) shown.text_key
  where
    shown : ShowsExchange number x e
    shown = same_entry number name l peers p s shows n x e (there_too number name l peers p s shows n x e answered)

pub key_cleared : (number : ℕ → ℕ) (name : Bytes) (l : Leaving) (peers : List Peer) (p : Parts) (s : State) → ShowsSteps number name l peers p s → (key : Bytes) → ShowsSteps number name l peers (cleared_key key p) (clear key s)
key_cleared number name l peers p s shows key = subst (λ (keys : List (List ℕ)). ShowsSteps number name l peers (cleared_key key (record p { refused = keys })) (clear key s)) (sym shows.refused) (clears_row number name l peers p s shows key)

pub row_cleared : (number : ℕ → ℕ) (name : Bytes) (l : Leaving) (peers : List Peer) (p : Parts) (s : State) → ShowsSteps number name l peers p s → (n : ℕ) (x : Entry) (e : Exchange) → IsAnswered n p s x e
    → ShowsSteps number name l peers (cleared_row x.exchange.number p) (clear (text_of e.key) s)
row_cleared number name l peers p s shows n x e answered =
    subst (λ (o : Option (List ℕ)). ShowsSteps number name l peers (cleared_of o p) (clear (text_of e.key) s)) (sym (key_is number name l peers p s shows n x e answered))
    (key_cleared number name l peers p s shows (text_of e.key))

pub flow_kept : (o : Option (List ℕ)) (p : Parts) → (cleared_of o p).flow ≡ p.flow
flow_kept None p = refl
flow_kept (Some key) p = refl

pub exchanges_kept : (key : Bytes) (s : State) (n : ℕ) → exchange (clear key s) n ≡ exchange s n
unfolding clear swept
exchanges_kept key s n = refl

pub answered_cleared : (n : ℕ) (p : Parts) (s : State) (x : Entry) (e : Exchange) (key : Bytes) → IsAnswered n p s x e → IsAnswered n (cleared_row x.exchange.number p) (clear key s) x e
answered_cleared n p s x e key answered = record {
  placed = ap (λ f. find (is_number n) f.placed) (flow_kept (key_of x.exchange.number p.flow) p) ∙ answered.placed;
  there = exchanges_kept key s n ∙ answered.there;
}

-- ---- its request is decided again without it

abbrev shared_if : ℕ → Client → Bool → Bool → Client
shared_if most c a b = elim a as (λ u. Client) [ true ↦ record c { course = lost_one most c.course } | false ↦ elim b as (λ u. Client) [ true ↦ c | false ↦ record c { course = anew c.course; has_given_up = true } ] ]

abbrev seat_shared_if : ℕ → Seat → Bool → Bool → Seat
seat_shared_if most seat a b =
    elim a as (λ u. Seat) [ true ↦ record seat { course = lost_one_in most seat.course } | false ↦ elim b as (λ u. Seat) [ true ↦ seat | false ↦ record seat { course = IsTrying 0; has_given_up = true } ] ]

unshared_follows : (most : ℕ) → FollowsOn (without_shared_row most)
unshared_follows most id c = by (c.has_given_up && not (is_begun c)) (is_begun c || c.has_given_up)
  where
    by : (a b : Bool) → follows id (shared_if most c a b) ≡ follows id c
    by true b = refl
    by false true = refl
    by false false = refl

unshared_id : (most : ℕ) (seat : Seat) → (seat_without_shared_row most seat).client.id ≡ seat.client.id
unshared_id most seat = by (seat.has_given_up && not (has_begun seat)) (has_begun seat || seat.has_given_up)
  where
    by : (a b : Bool) → (seat_shared_if most seat a b).client.id ≡ seat.client.id
    by true b = refl
    by false true = refl
    by false false = refl

on_flow_kept : (o : Option ℕ) (f : Seat → Seat) (p : Parts) → (on_seat_where o f p).flow ≡ p.flow
on_flow_kept None f p = refl
on_flow_kept (Some i) f p = refl

client_rest : (e : Exchange) (g : Client → Client) (s : State) (n : ℕ) → exchange (on_client_of e g s) n ≡ exchange s n
unfolding on_client_of
client_rest e g s n = refl

pub unshared_is : (e : Exchange) (s : State) → law_not_shared e s ≡ drop_answer e (on_client_of e (without_shared_row (attempts_of e)) (clear (law_key e) s))
unfolding law_not_shared drop_answer
unshared_is e s = shared_rows_told e Useless Dropping (attempts_of e) (clear (law_key e) s)

pub not_shareds : NotSharedAreTheLaws
not_shareds number name l peers p s shows n x e answered stands =
    subst (λ (t : State). ShowsSteps number name l peers (noted_body n (not_shared x.exchange x.errand p)) t) (sym (unshared_is e s))
    (subst (λ (most : ℕ). ShowsSteps number name l peers (noted_body n (unusable x.exchange (on_its x.exchange (seat_without_shared_row most) (cleared_row x.exchange.number p)))) (drop_answer e (on_client_of e (without_shared_row (attempts_of e)) (clear (text_of e.key) s))))
    (sym (exchanges number x e shown).attempts)
    (drop_read number name l peers (on_its x.exchange (seat_without_shared_row most) (cleared_row x.exchange.number p)) (on_client_of e (without_shared_row most) (clear (text_of e.key) s)) decided n x.exchange e x e
    (record {
      placed = ap (λ f. find (is_number n) f.placed) (on_flow_kept (seat_for x.exchange (cleared_row x.exchange.number p).seats) (seat_without_shared_row most) (cleared_row x.exchange.number p)) ∙ cleared.placed;
      there = client_rest e (without_shared_row most) (clear (text_of e.key) s) n ∙ cleared.there;
    }) read (stands_changed e (without_shared_row most) (clear (text_of e.key) s) (unshared_stands most) standing)))
  where
    most : ℕ
    most = attempts_of e

    read : IsRead n x.exchange e x e
    read = read_now number name l peers p s shows n x e answered

    shown : ShowsExchange number x e
    shown = same_entry number name l peers p s shows n x e (there_too number name l peers p s shows n x e answered)

    cleared : IsAnswered n (cleared_row x.exchange.number p) (clear (text_of e.key) s) x e
    cleared = answered_cleared n p s x e (text_of e.key) answered

    standing : IsFor (clear (text_of e.key) s) e Stands
    standing = stands_cleared e (text_of e.key) s stands

    decided : ShowsSteps number name l peers (on_its x.exchange (seat_without_shared_row most) (cleared_row x.exchange.number p)) (on_client_of e (without_shared_row most) (clear (text_of e.key) s))
    decided =
        asker_changed number name l peers (cleared_row x.exchange.number p) (clear (text_of e.key) s) (row_cleared number name l peers p s shows n x e answered) x.exchange e (seat_without_shared_row most) (without_shared_row most) read.asker
        (record { follows = unshared_follows most; id = unshared_id most; shows = λ m i seat c asks there found one. shared_rows_leave most number name [] seat c one })
