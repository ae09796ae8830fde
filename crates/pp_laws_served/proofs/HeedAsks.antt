-- What becomes of exchanges and connections leaves clients at their requests: attempts, closings, places, and what followers ask for.
use Rattle.std.proofs.Common.{refl, ℕ, Bool, true, false, not, ◌==◌, ◌&&◌, ◌||◌, List, [], ◌∷◌, Option, Some, None, option_and_then}
use Rattle.pp_peers.specs.declared.placing.Placed.TheVariants.{On, Dial, CloseThenDial, Wait}
use Rattle.pp_peers.specs.declared.placing.Placed.{Placed}
use Rattle.pp_target.specs.Key.{text_of}
use Rattle.pp_law.specs.Closing.{left_alone, forsake, leave, leave_one, exchanges_of, close_client}
use Rattle.pp_law.specs.Connections.{client, conn, exchange, is_client, is_for, each_client, each_conn, each_exchange, on_conn, on_exchange, on_client, on_client_of, attempts_of, lost_one, without_row, without_shared_row, is_unfilled, give_up_row, charge, lose_attempt, fail, end_exchange, unplaced, may_ask_again, leave_place, lose_place, close_conn, place_for, put_on, if_unplaced, place_each, placing, Placement, WaitsDial, WaitsDrop, anew, out_of_tries}
use Rattle.pp_law.specs.Deciding.{add_exchange, begin_exchange}
use Rattle.pp_law.specs.Followers.{need_of, filling_exchange, fill_with, fill_span, fill_next, fill_for, fill, give_up_asks}
use Rattle.pp_law.specs.Connections.{is_trying}
use Rattle.pp_law.specs.Decisions.{fits}
use Rattle.pp_law.specs.Stages.{is_begun, is_headed, on_passed, passed_of}
use Rattle.pp_law.specs.State.{State, AskTooLong, Course, Client, Conn, Exchange, Passed, Passes}
use Rattle.pp_law.specs.Table.{Next, next_of}
use Rattle.pp_laws_served.proofs.Cases.{by_front, by_result, each_of, when}
use Rattle.pp_laws_served.proofs.Heed.{Still, Heeds, as_it_was, clients_changed, facts_of, heeds, still_same}
use Rattle.pp_laws_served.proofs.HeedRows.{clear-heeds, swept-heeds}

pub on_conn-heeds : {o : State} (n : ℕ) (f : Conn → Conn) (s : State) → Heeds o s → Heeds o (on_conn n f s)
unfolding on_conn
on_conn-heeds n f s h = heeds (facts_of h)

pub on_exchange-heeds : {o : State} (n : ℕ) (f : Exchange → Exchange) (s : State) → Heeds o s → Heeds o (on_exchange n f s)
unfolding on_exchange
on_exchange-heeds n f s h = heeds (facts_of h)

pub on_client-heeds : {o : State} (n : ℕ) (f : Client → Client) (s : State) → ((c : Client) → Still (f c) c) → Heeds o s → Heeds o (on_client n f s)
unfolding on_client
on_client-heeds {o} n f s kept h = heeds (clients_changed o s (is_client n) f (λ c is. kept c) (facts_of h))

pub on_client_of-heeds : {o : State} (e : Exchange) (f : Client → Client) (s : State) → ((c : Client) → Still (f c) c) → Heeds o s → Heeds o (on_client_of e f s)
unfolding on_client_of
on_client_of-heeds {o} e f s kept h = heeds (clients_changed o s (is_for e) f (λ c is. kept c) (facts_of h))

-- ---- of these numbers one behind the other

pub each_client-heeds : {o : State} (f : Client → State → State) → ((c : Client) (s : State) → Heeds o s → Heeds o (f c s)) → (ns : List ℕ) (s : State) → Heeds o s → Heeds o (each_client f ns s)
unfolding each_client
each_client-heeds f each [] s h = h
each_client-heeds f each (n ∷ ns) s h = each_client-heeds f each ns _ (each_of (client s n) h (λ c. each c s h))

pub each_conn-heeds : {o : State} (f : Conn → State → State) → ((k : Conn) (s : State) → Heeds o s → Heeds o (f k s)) → (ns : List ℕ) (s : State) → Heeds o s → Heeds o (each_conn f ns s)
unfolding each_conn
each_conn-heeds f each [] s h = h
each_conn-heeds f each (n ∷ ns) s h = each_conn-heeds f each ns _ (each_of (conn s n) h (λ k. each k s h))

pub each_exchange-heeds : {o : State} (f : Exchange → State → State) → ((e : Exchange) (s : State) → Heeds o s → Heeds o (f e s)) → (ns : List ℕ) (s : State) → Heeds o s → Heeds o (each_exchange f ns s)
unfolding each_exchange
each_exchange-heeds f each [] s h = h
each_exchange-heeds f each (n ∷ ns) s h = each_exchange-heeds f each ns _ (each_of (exchange s n) h (λ e. each e s h))

-- ---- attempts

without_row-by : (c : Client) (begun : Bool) → Still (elim begun as (λ x. Client) [ true ↦ c | false ↦ record c { course = anew c.course; has_given_up = true } ]) c
without_row-by c true = still_same c
without_row-by c false = as_it_was _ c refl refl refl (λ is. is) refl refl

pub without_shared_row-by : (most : ℕ) (c : Client) → Still (without_shared_row most c) c
without_shared_row-by most c = by (c.has_given_up && not (is_begun c))
  where
    by : (again : Bool) → Still (elim again as (λ x. Client) [ true ↦ record c { course = lost_one most c.course } | false ↦ without_row c ]) c
    by true = as_it_was _ c refl refl refl (λ is. is) refl refl
    by false = without_row-by c (is_begun c || c.has_given_up)

give_up_row-heeds : {o : State} (e : Exchange) (s : State) → Heeds o s → Heeds o (give_up_row e s)
unfolding give_up_row
give_up_row-heeds e s h =
    when (is_unfilled s e) (on_exchange-heeds e.number (λ x. record x { asker = None }) _ (on_client_of-heeds e without_row _ (λ c. without_row-by c (is_begun c || c.has_given_up)) (clear-heeds (text_of e.key) s h))) h

charge-heeds : {o : State} (cost : Course → Course) (e : Exchange) (s : State) → Heeds o s → Heeds o (charge cost e s)
unfolding charge
charge-heeds cost e s h = give_up_row-heeds e _ (on_client_of-heeds e (λ c. record c { course = cost c.course }) s (λ c. as_it_was _ c refl refl refl (λ is. is) refl refl) h)

pub lose_attempt-heeds : {o : State} (e : Exchange) (s : State) → Heeds o s → Heeds o (lose_attempt e s)
unfolding lose_attempt
lose_attempt-heeds e s h = charge-heeds (lost_one (attempts_of e)) e s h

pub fail-heeds : {o : State} (e : Exchange) (s : State) → Heeds o s → Heeds o (fail e s)
unfolding fail
fail-heeds e s h = charge-heeds out_of_tries e s h

pub end_exchange-heeds : {o : State} (n : ℕ) (s : State) → Heeds o s → Heeds o (end_exchange n s)
unfolding end_exchange
end_exchange-heeds n s h = heeds (facts_of h)

-- ---- exchanges that are left, and clients that are closed

pub forsake-heeds : {o : State} (test : Exchange → Bool) (s : State) → Heeds o s → Heeds o (forsake test s)
unfolding forsake
forsake-heeds test s h = heeds (facts_of h)

pub leave-heeds : {o : State} (test : Exchange → Bool) (s : State) → Heeds o s → Heeds o (leave test s)
unfolding leave
leave-heeds test s h = heeds (facts_of (forsake-heeds test s h))

leave_one-heeds : {o : State} (e : Exchange) (s : State) → Heeds o s → Heeds o (leave_one e s)
unfolding leave_one
leave_one-heeds e s h = when (e.asked == 0) (end_exchange-heeds e.number s h) (on_exchange-heeds e.number left_alone s h)

pub close_client-heeds : {o : State} (n : ℕ) (is_cut : Bool) (s : State) → Heeds o s → Heeds o (close_client n is_cut s)
unfolding close_client
close_client-heeds n is_cut s h =
    swept-heeds _ (each_exchange-heeds leave_one leave_one-heeds (exchanges_of n s) _ (on_client-heeds n (λ c. record c { is_closing = true; is_cut = c.is_cut || is_cut }) s (λ c. as_it_was _ c refl refl refl (λ is. refl) refl refl) h))

-- ---- connections that are closed

pub on_passed-heeds : (f : Passed → Passed) (c : Client) → Still (on_passed f c) c
on_passed-heeds f c = by (passed_of c)
  where
    by : (passed : Option Passed) → Still (elim passed as (λ x. Client) [ None ↦ c | Some p ↦ record c { brought = Passes (f p) } ]) c
    by None = still_same c
    by (Some p) = as_it_was _ c refl refl refl (λ is. is) refl refl

leave_place-heeds : {o : State} (e : Exchange) (s : State) → Heeds o s → Heeds o (leave_place e s)
unfolding leave_place
leave_place-heeds e s h =
    when (is_headed e)
    (end_exchange-heeds e.number _ (on_client_of-heeds e (on_passed (λ p. record p { is_short = true })) s (on_passed-heeds (λ p. record p { is_short = true })) h))
    (when (may_ask_again s e.number) (on_exchange-heeds e.number unplaced s h) (end_exchange-heeds e.number s h))

lose_place-heeds : {o : State} (counts : Bool) (e : Exchange) (s : State) → Heeds o s → Heeds o (lose_place counts e s)
unfolding lose_place
lose_place-heeds counts e s h = when counts (leave_place-heeds e _ (lose_attempt-heeds e s h)) (leave_place-heeds e s h)

pub close_conn-heeds : {o : State} (counts : Bool) (k : Conn) (s : State) → Heeds o s → Heeds o (close_conn counts k s)
unfolding close_conn
close_conn-heeds counts k s h = each_exchange-heeds (lose_place (counts && not k.has_brought)) (lose_place-heeds (counts && not k.has_brought)) k.line _ (on_conn-heeds k.number _ s h)

-- ---- places

pub put_on-heeds : {o : State} (n k : ℕ) (s : State) → Heeds o s → Heeds o (put_on n k s)
unfolding put_on
put_on-heeds n k s h = on_conn-heeds k _ _ (on_exchange-heeds n _ s h)

place_by : {o : State} (n : ℕ) (e : Exchange) (ns : List ℕ) (s : State) (wanted : Placed) → ((t : State) → Heeds o t → Heeds o (place_each ns t).state) → Heeds o s
    → Heeds o (elim wanted as (λ c. Placement) [
      | On k ↦ place_each ns (put_on n k s)
      | Wait ↦ place_each ns s
      | Dial ↦ record { state = s; pause = WaitsDial e }
      | CloseThenDial k ↦ record { state = s; pause = WaitsDrop k e }
    ]).state
place_by n e ns s (On k) rest h = rest (put_on n k s) (put_on-heeds n k s h)
place_by n e ns s Wait rest h = rest s h
place_by n e ns s Dial rest h = h
place_by n e ns s (CloseThenDial k) rest h = h

place_at : {o : State} (unplaced : Option Exchange) (p : Placement) (q : Exchange → Placement) → Heeds o p.state → ((e : Exchange) → Heeds o (q e).state)
    → Heeds o (elim unplaced as (λ c. Placement) [ None ↦ p | Some e ↦ q e ]).state
place_at None p q hp hq = hp
place_at (Some e) p q hp hq = hq e

place_each-heeds : {o : State} (ns : List ℕ) (s : State) → Heeds o s → Heeds o (place_each ns s).state
place_each-heeds [] s h = h
place_each-heeds (n ∷ ns) s h = place_at (option_and_then if_unplaced (exchange s n)) _ _ (place_each-heeds ns s h) (λ e. place_by n e ns s (place_for s e) (λ t ht. place_each-heeds ns t ht) h)

pub placing-heeds : {o : State} (s : State) → Heeds o s → Heeds o (placing s).state
placing-heeds s h = place_each-heeds _ s h

-- ---- what followers ask for

add_exchange-heeds : {o : State} (e : Exchange) (s : State) → Heeds o s → Heeds o (add_exchange e s)
unfolding add_exchange
add_exchange-heeds e s h = heeds (facts_of h)

pub begin_exchange-heeds : {o : State} (e : Exchange) (s : State) → Heeds o s → Heeds o (begin_exchange e s)
unfolding begin_exchange
begin_exchange-heeds e s h = add_exchange-heeds e _ (leave-heeds _ s h)

fill_with-heeds : {o : State} (e : Exchange) (c : Client) (s : State) → Heeds o s → Heeds o (fill_with e c s)
unfolding fill_with
fill_with-heeds e c s h = when (fits e.text) (begin_exchange-heeds e s h) (on_client-heeds c.number (λ x. record x { course = AskTooLong }) s (λ x. as_it_was _ x refl refl refl (λ is. is) refl refl) h)

fill_span-heeds : {o : State} (c : Client) (n : Next) (span : ℕ × ℕ) (s : State) → Heeds o s → Heeds o (fill_span c n span s)
unfolding fill_span
fill_span-heeds c n span s h = by_front c.front h (λ status. h) (λ r. by_result r.key (λ key. fill_with-heeds (filling_exchange s c r.head key n span) c s h) (λ fault. h))

fill_next-heeds : {o : State} (c : Client) (n : Next) (s : State) → Heeds o s → Heeds o (fill_next c n s)
unfolding fill_next
fill_next-heeds c n s h = each_of (need_of s n) h (λ span. fill_span-heeds c n span s h)

fill_for-heeds : {o : State} (c : Client) (s : State) → Heeds o s → Heeds o (fill_for c s)
unfolding fill_for
fill_for-heeds c s h = when (is_trying c.course) (each_of (next_of s c) h (λ n. fill_next-heeds c n s h)) h

pub fill-heeds : {o : State} (s : State) → Heeds o s → Heeds o (fill s)
unfolding fill
fill-heeds s h = when s.is_stopped h (each_client-heeds fill_for fill_for-heeds _ s h)

pub give_up_asks-heeds : {o : State} (s : State) → Heeds o s → Heeds o (give_up_asks s)
unfolding give_up_asks
give_up_asks-heeds s h = heeds (facts_of h)
