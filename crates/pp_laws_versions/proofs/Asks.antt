-- What becomes of exchanges and connections keeps it: attempts, closings, places, and what followers ask for.
use Rattle.std.proofs.Common.{ℕ, Bool, true, not, ◌==◌, ◌&&◌, ◌||◌, List, [], ◌∷◌, Option, Some, None, option_and_then}
use Rattle.pp_peers.specs.declared.placing.Placed.TheVariants.{On, Dial, CloseThenDial, Wait}
use Rattle.pp_peers.specs.declared.placing.Placed.{Placed}
use Rattle.pp_target.specs.Key.{text_of}
use Rattle.pp_law.specs.Closing.{left_alone, forsake, leave, leave_one, exchanges_of, close_client}
use Rattle.pp_law.specs.Connections.{client, conn, exchange, each_client, each_conn, each_exchange, on_conn, on_exchange, on_client, on_client_of, attempts_of, lost_one, without_row, is_unfilled, give_up_row, charge, lose_attempt, fail, end_exchange, unplaced, may_ask_again, leave_place, lose_place, close_conn, place_for, put_on, if_unplaced, place_each, placing, Placement, WaitsDial, WaitsDrop, out_of_tries}
use Rattle.pp_law.specs.Deciding.{add_exchange, begin_exchange}
use Rattle.pp_law.specs.Followers.{need_of, filling_exchange, fill_with, fill_span, fill_next, fill_for, fill, give_up_asks}
use Rattle.pp_law.specs.Connections.{is_trying}
use Rattle.pp_law.specs.Decisions.{fits}
use Rattle.pp_law.specs.Stages.{is_headed, on_passed}
use Rattle.pp_law.specs.State.{State, AskTooLong, Course, Client, Conn, Exchange}
use Rattle.pp_law.specs.Table.{Next, next_of}
use Rattle.pp_laws_versions.proofs.Cases.{by_front, by_result, each_of, when}
use Rattle.pp_laws_versions.proofs.Rows.{clear-keeps, swept-keeps}
use Rattle.pp_laws_versions.proofs.View.{Holds, Like, facts_of, holds}

pub on_conn-keeps : {R : Like} (n : ℕ) (f : Conn → Conn) (s : State) → Holds R s → Holds R (on_conn n f s)
unfolding on_conn
on_conn-keeps n f s h = holds (facts_of h)

pub on_exchange-keeps : {R : Like} (n : ℕ) (f : Exchange → Exchange) (s : State) → Holds R s → Holds R (on_exchange n f s)
unfolding on_exchange
on_exchange-keeps n f s h = holds (facts_of h)

pub on_client-keeps : {R : Like} (n : ℕ) (f : Client → Client) (s : State) → Holds R s → Holds R (on_client n f s)
unfolding on_client
on_client-keeps n f s h = holds (facts_of h)

pub on_client_of-keeps : {R : Like} (e : Exchange) (f : Client → Client) (s : State) → Holds R s → Holds R (on_client_of e f s)
unfolding on_client_of
on_client_of-keeps e f s h = holds (facts_of h)

-- ---- of these numbers one behind the other

pub each_client-keeps : {R : Like} (f : Client → State → State) → ((c : Client) (s : State) → Holds R s → Holds R (f c s)) → (ns : List ℕ) (s : State) → Holds R s → Holds R (each_client f ns s)
unfolding each_client
each_client-keeps f each [] s h = h
each_client-keeps f each (n ∷ ns) s h = each_client-keeps f each ns _ (each_of (client s n) h (λ c. each c s h))

pub each_conn-keeps : {R : Like} (f : Conn → State → State) → ((k : Conn) (s : State) → Holds R s → Holds R (f k s)) → (ns : List ℕ) (s : State) → Holds R s → Holds R (each_conn f ns s)
unfolding each_conn
each_conn-keeps f each [] s h = h
each_conn-keeps f each (n ∷ ns) s h = each_conn-keeps f each ns _ (each_of (conn s n) h (λ k. each k s h))

pub each_exchange-keeps : {R : Like} (f : Exchange → State → State) → ((e : Exchange) (s : State) → Holds R s → Holds R (f e s)) → (ns : List ℕ) (s : State) → Holds R s → Holds R (each_exchange f ns s)
unfolding each_exchange
each_exchange-keeps f each [] s h = h
each_exchange-keeps f each (n ∷ ns) s h = each_exchange-keeps f each ns _ (each_of (exchange s n) h (λ e. each e s h))

-- ---- attempts

give_up_row-keeps : {R : Like} (e : Exchange) (s : State) → Holds R s → Holds R (give_up_row e s)
unfolding give_up_row
give_up_row-keeps e s h =
    when (is_unfilled s e) (on_exchange-keeps e.number (λ x. record x { asker = None }) _ (on_client_of-keeps e without_row _ (clear-keeps (text_of e.key) s h))) h

charge-keeps : {R : Like} (cost : Course → Course) (e : Exchange) (s : State) → Holds R s → Holds R (charge cost e s)
unfolding charge
charge-keeps cost e s h = give_up_row-keeps e _ (on_client_of-keeps e (λ c. record c { course = cost c.course }) s h)

pub lose_attempt-keeps : {R : Like} (e : Exchange) (s : State) → Holds R s → Holds R (lose_attempt e s)
unfolding lose_attempt
lose_attempt-keeps e s h = charge-keeps (lost_one (attempts_of e)) e s h

pub fail-keeps : {R : Like} (e : Exchange) (s : State) → Holds R s → Holds R (fail e s)
unfolding fail
fail-keeps e s h = charge-keeps out_of_tries e s h

pub end_exchange-keeps : {R : Like} (n : ℕ) (s : State) → Holds R s → Holds R (end_exchange n s)
unfolding end_exchange
end_exchange-keeps n s h = holds (facts_of h)

-- ---- exchanges that are left, and clients that are closed

pub forsake-keeps : {R : Like} (test : Exchange → Bool) (s : State) → Holds R s → Holds R (forsake test s)
unfolding forsake
forsake-keeps test s h = holds (facts_of h)

pub leave-keeps : {R : Like} (test : Exchange → Bool) (s : State) → Holds R s → Holds R (leave test s)
unfolding leave
leave-keeps test s h = holds (facts_of (forsake-keeps test s h))

leave_one-keeps : {R : Like} (e : Exchange) (s : State) → Holds R s → Holds R (leave_one e s)
unfolding leave_one
leave_one-keeps e s h = when (e.asked == 0) (end_exchange-keeps e.number s h) (on_exchange-keeps e.number left_alone s h)

pub close_client-keeps : {R : Like} (n : ℕ) (is_cut : Bool) (s : State) → Holds R s → Holds R (close_client n is_cut s)
unfolding close_client
close_client-keeps n is_cut s h =
    swept-keeps _ (each_exchange-keeps leave_one leave_one-keeps (exchanges_of n s) _ (on_client-keeps n (λ c. record c { is_closing = true; is_cut = c.is_cut || is_cut }) s h))

-- ---- connections that are closed

leave_place-keeps : {R : Like} (e : Exchange) (s : State) → Holds R s → Holds R (leave_place e s)
unfolding leave_place
leave_place-keeps e s h =
    when (is_headed e)
    (end_exchange-keeps e.number _ (on_client_of-keeps e (on_passed (λ p. record p { is_short = true })) s h))
    (when (may_ask_again s e.number) (on_exchange-keeps e.number unplaced s h) (end_exchange-keeps e.number s h))

lose_place-keeps : {R : Like} (counts : Bool) (e : Exchange) (s : State) → Holds R s → Holds R (lose_place counts e s)
unfolding lose_place
lose_place-keeps counts e s h = when counts (leave_place-keeps e _ (lose_attempt-keeps e s h)) (leave_place-keeps e s h)

pub close_conn-keeps : {R : Like} (counts : Bool) (k : Conn) (s : State) → Holds R s → Holds R (close_conn counts k s)
unfolding close_conn
close_conn-keeps counts k s h = each_exchange-keeps (lose_place (counts && not k.has_brought)) (lose_place-keeps (counts && not k.has_brought)) k.line _ (on_conn-keeps k.number _ s h)

-- ---- places

pub put_on-keeps : {R : Like} (n k : ℕ) (s : State) → Holds R s → Holds R (put_on n k s)
unfolding put_on
put_on-keeps n k s h = on_conn-keeps k _ _ (on_exchange-keeps n _ s h)

place_by : {R : Like} (n : ℕ) (e : Exchange) (ns : List ℕ) (s : State) (wanted : Placed) → ((t : State) → Holds R t → Holds R (place_each ns t).state) → Holds R s
    → Holds R (elim wanted as (λ c. Placement) [
      | On k ↦ place_each ns (put_on n k s)
      | Wait ↦ place_each ns s
      | Dial ↦ record { state = s; pause = WaitsDial e }
      | CloseThenDial k ↦ record { state = s; pause = WaitsDrop k e }
    ]).state
place_by n e ns s (On k) rest h = rest (put_on n k s) (put_on-keeps n k s h)
place_by n e ns s Wait rest h = rest s h
place_by n e ns s Dial rest h = h
place_by n e ns s (CloseThenDial k) rest h = h

place_at : {R : Like} (unplaced : Option Exchange) (p : Placement) (q : Exchange → Placement) → Holds R p.state → ((e : Exchange) → Holds R (q e).state)
    → Holds R (elim unplaced as (λ c. Placement) [ None ↦ p | Some e ↦ q e ]).state
place_at None p q hp hq = hp
place_at (Some e) p q hp hq = hq e

place_each-keeps : {R : Like} (ns : List ℕ) (s : State) → Holds R s → Holds R (place_each ns s).state
place_each-keeps [] s h = h
place_each-keeps (n ∷ ns) s h = place_at (option_and_then if_unplaced (exchange s n)) _ _ (place_each-keeps ns s h) (λ e. place_by n e ns s (place_for s e) (λ t ht. place_each-keeps ns t ht) h)

pub placing-keeps : {R : Like} (s : State) → Holds R s → Holds R (placing s).state
placing-keeps s h = place_each-keeps _ s h

-- ---- what followers ask for

add_exchange-keeps : {R : Like} (e : Exchange) (s : State) → Holds R s → Holds R (add_exchange e s)
unfolding add_exchange
add_exchange-keeps e s h = holds (facts_of h)

pub begin_exchange-keeps : {R : Like} (e : Exchange) (s : State) → Holds R s → Holds R (begin_exchange e s)
unfolding begin_exchange
begin_exchange-keeps e s h = add_exchange-keeps e _ (leave-keeps _ s h)

fill_with-keeps : {R : Like} (e : Exchange) (c : Client) (s : State) → Holds R s → Holds R (fill_with e c s)
unfolding fill_with
fill_with-keeps e c s h = when (fits e.text) (begin_exchange-keeps e s h) (on_client-keeps c.number (λ x. record x { course = AskTooLong }) s h)

fill_span-keeps : {R : Like} (c : Client) (n : Next) (span : ℕ × ℕ) (s : State) → Holds R s → Holds R (fill_span c n span s)
unfolding fill_span
fill_span-keeps c n span s h = by_front c.front h (λ status. h) (λ r. by_result r.key (λ key. fill_with-keeps (filling_exchange s c r.head key n span) c s h) (λ fault. h))

fill_next-keeps : {R : Like} (c : Client) (n : Next) (s : State) → Holds R s → Holds R (fill_next c n s)
unfolding fill_next
fill_next-keeps c n s h = each_of (need_of s n) h (λ span. fill_span-keeps c n span s h)

fill_for-keeps : {R : Like} (c : Client) (s : State) → Holds R s → Holds R (fill_for c s)
unfolding fill_for
fill_for-keeps c s h = when (is_trying c.course) (each_of (next_of s c) h (λ n. fill_next-keeps c n s h)) h

pub fill-keeps : {R : Like} (s : State) → Holds R s → Holds R (fill s)
unfolding fill
fill-keeps s h = when s.is_stopped h (each_client-keeps fill_for fill_for-keeps _ s h)

pub give_up_asks-keeps : {R : Like} (s : State) → Holds R s → Holds R (give_up_asks s)
unfolding give_up_asks
give_up_asks-keeps s h = holds (facts_of h)
