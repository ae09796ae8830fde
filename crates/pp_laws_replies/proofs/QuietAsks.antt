-- What becomes of exchanges and connections leaves each reply as it is: attempts, closings, places, and what followers ask for.
use Rattle.std.proofs.Common.{◌≡◌, refl, ℕ, Bool, true, false, not, ◌==◌, ◌&&◌, ◌||◌, List, [], ◌∷◌, Option, Some, None, option_and_then}
use Rattle.pp_peers.specs.declared.placing.Placed.TheVariants.{On, Dial, CloseThenDial, Wait}
use Rattle.pp_peers.specs.declared.placing.Placed.{Placed}
use Rattle.pp_target.specs.Key.{text_of}
use Rattle.pp_law.specs.Closing.{left_alone, forsake, leave, leave_one, exchanges_of, close_client}
use Rattle.pp_law.specs.Connections.{client, conn, exchange, is_client, is_for, each_client, each_conn, each_exchange, on_conn, on_exchange, on_client, on_client_of, attempts_of, lost_one, without_row, without_shared_row, is_unfilled, give_up_row, charge, lose_attempt, fail, end_exchange, unplaced, may_ask_again, leave_place, lose_place, close_conn, place_for, put_on, if_unplaced, place_each, placing, Placement, WaitsDial, WaitsDrop, anew, out_of_tries}
use Rattle.pp_law.specs.Deciding.{add_exchange, begin_exchange}
use Rattle.pp_law.specs.Followers.{need_of, filling_exchange, fill_with, fill_span, fill_next, fill_for, fill, give_up_asks}
use Rattle.pp_law.specs.Connections.{is_trying}
use Rattle.pp_law.specs.Decisions.{fits}
use Rattle.pp_law.specs.Stages.{is_begun, is_headed, on_passed, passed_of}
use Rattle.pp_law.specs.State.{State, AskTooLong, Course, Client, Conn, Exchange, Passed, Passes}
use Rattle.pp_law.specs.Table.{Next, next_of}
use Rattle.pp_laws_replies.proofs.Cases.{by_front, by_result, each_of, when}
use Rattle.pp_laws_replies.proofs.HeardPlaces.{still}
use Rattle.pp_laws_replies.proofs.Quiet.{Quiet, Quietly, clients_changed, facts_of, quietly, still_same}
use Rattle.pp_laws_replies.proofs.QuietRows.{clear-quiet, swept-quiet}

-- a client whose request and reply are the same
pub parts_same : (d c : Client) → d.number ≡ c.number → d.front ≡ c.front → d.stage ≡ c.stage → d.interim_left ≡ c.interim_left → d.closes ≡ c.closes → d.heard ≡ c.heard → d.body_left ≡ c.body_left → d.skip ≡ c.skip → d.index ≡ c.index → Quiet d c
parts_same d c number front stage interim closes heard left skip index = record { number = number; index = index; front = front; stage = stage; interim = interim; closes = closes; reads = still d c heard left skip }

pub on_conn-quiet : {o : State} (n : ℕ) (f : Conn → Conn) (s : State) → Quietly o s → Quietly o (on_conn n f s)
unfolding on_conn
on_conn-quiet n f s h = quietly (facts_of h)

pub on_exchange-quiet : {o : State} (n : ℕ) (f : Exchange → Exchange) (s : State) → Quietly o s → Quietly o (on_exchange n f s)
unfolding on_exchange
on_exchange-quiet n f s h = quietly (facts_of h)

pub on_client-quiet : {o : State} (n : ℕ) (f : Client → Client) (s : State) → ((c : Client) → Quiet (f c) c) → Quietly o s → Quietly o (on_client n f s)
unfolding on_client
on_client-quiet {o} n f s kept h = quietly (clients_changed o s (is_client n) f (λ c is. kept c) (facts_of h))

pub on_client_of-quiet : {o : State} (e : Exchange) (f : Client → Client) (s : State) → ((c : Client) → Quiet (f c) c) → Quietly o s → Quietly o (on_client_of e f s)
unfolding on_client_of
on_client_of-quiet {o} e f s kept h = quietly (clients_changed o s (is_for e) f (λ c is. kept c) (facts_of h))

-- ---- of these numbers one behind the other

pub each_client-quiet : {o : State} (f : Client → State → State) → ((c : Client) (s : State) → Quietly o s → Quietly o (f c s)) → (ns : List ℕ) (s : State) → Quietly o s → Quietly o (each_client f ns s)
unfolding each_client
each_client-quiet f each [] s h = h
each_client-quiet f each (n ∷ ns) s h = each_client-quiet f each ns _ (each_of (client s n) h (λ c. each c s h))

pub each_conn-quiet : {o : State} (f : Conn → State → State) → ((k : Conn) (s : State) → Quietly o s → Quietly o (f k s)) → (ns : List ℕ) (s : State) → Quietly o s → Quietly o (each_conn f ns s)
unfolding each_conn
each_conn-quiet f each [] s h = h
each_conn-quiet f each (n ∷ ns) s h = each_conn-quiet f each ns _ (each_of (conn s n) h (λ k. each k s h))

pub each_exchange-quiet : {o : State} (f : Exchange → State → State) → ((e : Exchange) (s : State) → Quietly o s → Quietly o (f e s)) → (ns : List ℕ) (s : State) → Quietly o s → Quietly o (each_exchange f ns s)
unfolding each_exchange
each_exchange-quiet f each [] s h = h
each_exchange-quiet f each (n ∷ ns) s h = each_exchange-quiet f each ns _ (each_of (exchange s n) h (λ e. each e s h))

-- ---- attempts

without_row-by : (c : Client) (begun : Bool) → Quiet (elim begun as (λ x. Client) [ true ↦ c | false ↦ record c { course = anew c.course; has_given_up = true } ]) c
without_row-by c true = still_same c
without_row-by c false = parts_same _ c refl refl refl refl refl refl refl refl refl

pub without_shared_row-by : (most : ℕ) (c : Client) → Quiet (without_shared_row most c) c
without_shared_row-by most c = by (c.has_given_up && not (is_begun c))
  where
    by : (again : Bool) → Quiet (elim again as (λ x. Client) [ true ↦ record c { course = lost_one most c.course } | false ↦ without_row c ]) c
    by true = parts_same _ c refl refl refl refl refl refl refl refl refl
    by false = without_row-by c (is_begun c || c.has_given_up)

give_up_row-quiet : {o : State} (e : Exchange) (s : State) → Quietly o s → Quietly o (give_up_row e s)
unfolding give_up_row
give_up_row-quiet e s h =
    when (is_unfilled s e) (on_exchange-quiet e.number (λ x. record x { asker = None }) _ (on_client_of-quiet e without_row _ (λ c. without_row-by c (is_begun c || c.has_given_up)) (clear-quiet (text_of e.key) s h))) h

charge-quiet : {o : State} (cost : Course → Course) (e : Exchange) (s : State) → Quietly o s → Quietly o (charge cost e s)
unfolding charge
charge-quiet cost e s h = give_up_row-quiet e _ (on_client_of-quiet e (λ c. record c { course = cost c.course }) s (λ c. parts_same _ c refl refl refl refl refl refl refl refl refl) h)

pub lose_attempt-quiet : {o : State} (e : Exchange) (s : State) → Quietly o s → Quietly o (lose_attempt e s)
unfolding lose_attempt
lose_attempt-quiet e s h = charge-quiet (lost_one (attempts_of e)) e s h

pub fail-quiet : {o : State} (e : Exchange) (s : State) → Quietly o s → Quietly o (fail e s)
unfolding fail
fail-quiet e s h = charge-quiet out_of_tries e s h

pub end_exchange-quiet : {o : State} (n : ℕ) (s : State) → Quietly o s → Quietly o (end_exchange n s)
unfolding end_exchange
end_exchange-quiet n s h = quietly (facts_of h)

-- ---- exchanges that are left, and clients that are closed

pub forsake-quiet : {o : State} (test : Exchange → Bool) (s : State) → Quietly o s → Quietly o (forsake test s)
unfolding forsake
forsake-quiet test s h = quietly (facts_of h)

pub leave-quiet : {o : State} (test : Exchange → Bool) (s : State) → Quietly o s → Quietly o (leave test s)
unfolding leave
leave-quiet test s h = quietly (facts_of (forsake-quiet test s h))

leave_one-quiet : {o : State} (e : Exchange) (s : State) → Quietly o s → Quietly o (leave_one e s)
unfolding leave_one
leave_one-quiet e s h = when (e.asked == 0) (end_exchange-quiet e.number s h) (on_exchange-quiet e.number left_alone s h)

pub close_client-quiet : {o : State} (n : ℕ) (is_cut : Bool) (s : State) → Quietly o s → Quietly o (close_client n is_cut s)
unfolding close_client
close_client-quiet n is_cut s h =
    swept-quiet _ (each_exchange-quiet leave_one leave_one-quiet (exchanges_of n s) _ (on_client-quiet n (λ c. record c { is_closing = true; is_cut = c.is_cut || is_cut }) s (λ c. parts_same _ c refl refl refl refl refl refl refl refl refl) h))

-- ---- connections that are closed

pub on_passed-quiet : (f : Passed → Passed) (c : Client) → Quiet (on_passed f c) c
on_passed-quiet f c = by (passed_of c)
  where
    by : (passed : Option Passed) → Quiet (elim passed as (λ x. Client) [ None ↦ c | Some p ↦ record c { brought = Passes (f p) } ]) c
    by None = still_same c
    by (Some p) = parts_same _ c refl refl refl refl refl refl refl refl refl

leave_place-quiet : {o : State} (e : Exchange) (s : State) → Quietly o s → Quietly o (leave_place e s)
unfolding leave_place
leave_place-quiet e s h =
    when (is_headed e)
    (end_exchange-quiet e.number _ (on_client_of-quiet e (on_passed (λ p. record p { is_short = true })) s (on_passed-quiet (λ p. record p { is_short = true })) h))
    (when (may_ask_again s e.number) (on_exchange-quiet e.number unplaced s h) (end_exchange-quiet e.number s h))

lose_place-quiet : {o : State} (counts : Bool) (e : Exchange) (s : State) → Quietly o s → Quietly o (lose_place counts e s)
unfolding lose_place
lose_place-quiet counts e s h = when counts (leave_place-quiet e _ (lose_attempt-quiet e s h)) (leave_place-quiet e s h)

pub close_conn-quiet : {o : State} (counts : Bool) (k : Conn) (s : State) → Quietly o s → Quietly o (close_conn counts k s)
unfolding close_conn
close_conn-quiet counts k s h = each_exchange-quiet (lose_place (counts && not k.has_brought)) (lose_place-quiet (counts && not k.has_brought)) k.line _ (on_conn-quiet k.number _ s h)

-- ---- places

pub put_on-quiet : {o : State} (n k : ℕ) (s : State) → Quietly o s → Quietly o (put_on n k s)
unfolding put_on
put_on-quiet n k s h = on_conn-quiet k _ _ (on_exchange-quiet n _ s h)

place_by : {o : State} (n : ℕ) (e : Exchange) (ns : List ℕ) (s : State) (wanted : Placed) → ((t : State) → Quietly o t → Quietly o (place_each ns t).state) → Quietly o s
    → Quietly o (elim wanted as (λ c. Placement) [
      | On k ↦ place_each ns (put_on n k s)
      | Wait ↦ place_each ns s
      | Dial ↦ record { state = s; pause = WaitsDial e }
      | CloseThenDial k ↦ record { state = s; pause = WaitsDrop k e }
    ]).state
place_by n e ns s (On k) rest h = rest (put_on n k s) (put_on-quiet n k s h)
place_by n e ns s Wait rest h = rest s h
place_by n e ns s Dial rest h = h
place_by n e ns s (CloseThenDial k) rest h = h

place_at : {o : State} (unplaced : Option Exchange) (p : Placement) (q : Exchange → Placement) → Quietly o p.state → ((e : Exchange) → Quietly o (q e).state)
    → Quietly o (elim unplaced as (λ c. Placement) [ None ↦ p | Some e ↦ q e ]).state
place_at None p q hp hq = hp
place_at (Some e) p q hp hq = hq e

place_each-quiet : {o : State} (ns : List ℕ) (s : State) → Quietly o s → Quietly o (place_each ns s).state
place_each-quiet [] s h = h
place_each-quiet (n ∷ ns) s h = place_at (option_and_then if_unplaced (exchange s n)) _ _ (place_each-quiet ns s h) (λ e. place_by n e ns s (place_for s e) (λ t ht. place_each-quiet ns t ht) h)

pub placing-quiet : {o : State} (s : State) → Quietly o s → Quietly o (placing s).state
placing-quiet s h = place_each-quiet _ s h

-- ---- what followers ask for

add_exchange-quiet : {o : State} (e : Exchange) (s : State) → Quietly o s → Quietly o (add_exchange e s)
unfolding add_exchange
add_exchange-quiet e s h = quietly (facts_of h)

pub begin_exchange-quiet : {o : State} (e : Exchange) (s : State) → Quietly o s → Quietly o (begin_exchange e s)
unfolding begin_exchange
begin_exchange-quiet e s h = add_exchange-quiet e _ (leave-quiet _ s h)

fill_with-quiet : {o : State} (e : Exchange) (c : Client) (s : State) → Quietly o s → Quietly o (fill_with e c s)
unfolding fill_with
fill_with-quiet e c s h = when (fits e.text) (begin_exchange-quiet e s h) (on_client-quiet c.number (λ x. record x { course = AskTooLong }) s (λ x. parts_same _ x refl refl refl refl refl refl refl refl refl) h)

fill_span-quiet : {o : State} (c : Client) (n : Next) (span : ℕ × ℕ) (s : State) → Quietly o s → Quietly o (fill_span c n span s)
unfolding fill_span
fill_span-quiet c n span s h = by_front c.front h (λ status. h) (λ r. by_result r.key (λ key. fill_with-quiet (filling_exchange s c r.head key n span) c s h) (λ fault. h))

fill_next-quiet : {o : State} (c : Client) (n : Next) (s : State) → Quietly o s → Quietly o (fill_next c n s)
unfolding fill_next
fill_next-quiet c n s h = each_of (need_of s n) h (λ span. fill_span-quiet c n span s h)

fill_for-quiet : {o : State} (c : Client) (s : State) → Quietly o s → Quietly o (fill_for c s)
unfolding fill_for
fill_for-quiet c s h = when (is_trying c.course) (each_of (next_of s c) h (λ n. fill_next-quiet c n s h)) h

pub fill-quiet : {o : State} (s : State) → Quietly o s → Quietly o (fill s)
unfolding fill
fill-quiet s h = when s.is_stopped h (each_client-quiet fill_for fill_for-quiet _ s h)

pub give_up_asks-quiet : {o : State} (s : State) → Quietly o s → Quietly o (give_up_asks s)
unfolding give_up_asks
give_up_asks-quiet s h = quietly (facts_of h)
