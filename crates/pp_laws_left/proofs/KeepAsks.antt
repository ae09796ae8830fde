-- What becomes of exchanges and connections leaves replies as they are: attempts, closings, places, and what followers ask for.
use Rattle.std.proofs.Common.{◌≡◌, refl, sym, ap, ◌∙◌, is_some, ℕ, Bool, true, false, not, ◌==◌, ◌&&◌, ◌||◌, List, [], ◌∷◌, Option, Some, None, option_and_then}
use Rattle.pp_peers.specs.declared.placing.Placed.TheVariants.{On, Dial, CloseThenDial, Wait}
use Rattle.pp_peers.specs.declared.placing.Placed.{Placed}
use Rattle.pp_pass.specs.Pipe.{Pipe}
use Rattle.pp_target.specs.Key.{text_of}
use Rattle.pp_law.specs.Closing.{left_alone, forsake, leave, leave_one, exchanges_of, close_client}
use Rattle.pp_law.specs.Connections.{client, conn, exchange, is_client, is_for, each_client, each_conn, each_exchange, on_conn, on_exchange, on_client, on_client_of, attempts_of, lost_one, without_row, without_shared_row, is_unfilled, give_up_row, charge, lose_attempt, fail, end_exchange, unplaced, may_ask_again, leave_place, lose_place, close_conn, place_for, put_on, if_unplaced, place_each, placing, Placement, WaitsDial, WaitsDrop, anew, out_of_tries}
use Rattle.pp_law.specs.Deciding.{add_exchange, begin_exchange}
use Rattle.pp_law.specs.Followers.{need_of, filling_exchange, fill_with, fill_span, fill_next, fill_for, fill, give_up_asks}
use Rattle.pp_law.specs.Connections.{is_trying}
use Rattle.pp_law.specs.Decisions.{fits}
use Rattle.pp_law.specs.Stages.{is_begun, is_headed, on_passed, passed_of}
use Rattle.pp_law.specs.State.{State, AskTooLong, Course, Client, Conn, Exchange, Passed, Passes}
use Rattle.pp_law.specs.Table.{Next, next_of}
use Rattle.pp_laws_left.proofs.KeepCases.{by_front, by_result, each_of, when}
use Rattle.pp_laws_left.proofs.Keep.{Kept, Keeps, as_it_was, clients_changed, facts_of, keeps, keeps_same, kept_same, pipe_of}
use Rattle.pp_laws_left.proofs.KeepRows.{clear-keeps, swept-keeps}

pub on_conn-keeps : {exact : Bool} {o : State} (n : ℕ) (f : Conn → Conn) (s : State) → Keeps exact o s → Keeps exact o (on_conn n f s)
unfolding on_conn
on_conn-keeps n f s h = keeps (facts_of h)

pub on_exchange-keeps : {exact : Bool} {o : State} (n : ℕ) (f : Exchange → Exchange) (s : State) → Keeps exact o s → Keeps exact o (on_exchange n f s)
unfolding on_exchange
on_exchange-keeps n f s h = keeps (facts_of h)

pub on_client-keeps : {exact : Bool} {o : State} (n : ℕ) (f : Client → Client) (s : State) → ((c : Client) → Kept exact (f c) c) → Keeps exact o s → Keeps exact o (on_client n f s)
unfolding on_client
on_client-keeps {exact} {o} n f s kept h = keeps (clients_changed o s (is_client n) f (λ c is. kept c) (facts_of h))

pub on_client_of-keeps : {exact : Bool} {o : State} (e : Exchange) (f : Client → Client) (s : State) → ((c : Client) → Kept exact (f c) c) → Keeps exact o s → Keeps exact o (on_client_of e f s)
unfolding on_client_of
on_client_of-keeps {exact} {o} e f s kept h = keeps (clients_changed o s (is_for e) f (λ c is. kept c) (facts_of h))

-- ---- of these numbers one behind the other

pub each_client-keeps : {exact : Bool} {o : State} (f : Client → State → State) → ((c : Client) (s : State) → Keeps exact o s → Keeps exact o (f c s)) → (ns : List ℕ) (s : State) → Keeps exact o s → Keeps exact o (each_client f ns s)
unfolding each_client
each_client-keeps f each [] s h = h
each_client-keeps f each (n ∷ ns) s h = each_client-keeps f each ns _ (each_of (client s n) h (λ c. each c s h))

pub each_conn-keeps : {exact : Bool} {o : State} (f : Conn → State → State) → ((k : Conn) (s : State) → Keeps exact o s → Keeps exact o (f k s)) → (ns : List ℕ) (s : State) → Keeps exact o s → Keeps exact o (each_conn f ns s)
unfolding each_conn
each_conn-keeps f each [] s h = h
each_conn-keeps f each (n ∷ ns) s h = each_conn-keeps f each ns _ (each_of (conn s n) h (λ k. each k s h))

pub each_exchange-keeps : {exact : Bool} {o : State} (f : Exchange → State → State) → ((e : Exchange) (s : State) → Keeps exact o s → Keeps exact o (f e s)) → (ns : List ℕ) (s : State) → Keeps exact o s → Keeps exact o (each_exchange f ns s)
unfolding each_exchange
each_exchange-keeps f each [] s h = h
each_exchange-keeps f each (n ∷ ns) s h = each_exchange-keeps f each ns _ (each_of (exchange s n) h (λ e. each e s h))

-- ---- attempts

without_row-by : {exact : Bool} (c : Client) (begun : Bool) → Kept exact (elim begun as (λ x. Client) [ true ↦ c | false ↦ record c { course = anew c.course; has_given_up = true } ]) c
without_row-by c true = kept_same c
without_row-by c false = as_it_was _ c refl refl refl (λ is. is) refl

pub without_shared_row-by : {exact : Bool} (most : ℕ) (c : Client) → Kept exact (without_shared_row most c) c
without_shared_row-by {exact} most c = by (c.has_given_up && not (is_begun c))
  where
    by : (again : Bool) → Kept exact (elim again as (λ x. Client) [ true ↦ record c { course = lost_one most c.course } | false ↦ without_row c ]) c
    by true = as_it_was _ c refl refl refl (λ is. is) refl
    by false = without_row-by c (is_begun c || c.has_given_up)

give_up_row-keeps : {exact : Bool} {o : State} (e : Exchange) (s : State) → Keeps exact o s → Keeps exact o (give_up_row e s)
unfolding give_up_row
give_up_row-keeps e s h =
    when (is_unfilled s e) (on_exchange-keeps e.number (λ x. record x { asker = None }) _ (on_client_of-keeps e without_row _ (λ c. without_row-by c (is_begun c || c.has_given_up)) (clear-keeps (text_of e.key) s h))) h

charge-keeps : {exact : Bool} {o : State} (cost : Course → Course) (e : Exchange) (s : State) → Keeps exact o s → Keeps exact o (charge cost e s)
unfolding charge
charge-keeps cost e s h = give_up_row-keeps e _ (on_client_of-keeps e (λ c. record c { course = cost c.course }) s (λ c. as_it_was _ c refl refl refl (λ is. is) refl) h)

pub lose_attempt-keeps : {exact : Bool} {o : State} (e : Exchange) (s : State) → Keeps exact o s → Keeps exact o (lose_attempt e s)
unfolding lose_attempt
lose_attempt-keeps e s h = charge-keeps (lost_one (attempts_of e)) e s h

pub fail-keeps : {exact : Bool} {o : State} (e : Exchange) (s : State) → Keeps exact o s → Keeps exact o (fail e s)
unfolding fail
fail-keeps e s h = charge-keeps out_of_tries e s h

pub end_exchange-keeps : {exact : Bool} {o : State} (n : ℕ) (s : State) → Keeps exact o s → Keeps exact o (end_exchange n s)
unfolding end_exchange
end_exchange-keeps n s h = keeps (facts_of h)

-- ---- exchanges that are left, and clients that are closed

pub forsake-keeps : {exact : Bool} {o : State} (test : Exchange → Bool) (s : State) → Keeps exact o s → Keeps exact o (forsake test s)
unfolding forsake
forsake-keeps test s h = keeps (facts_of h)

pub leave-keeps : {exact : Bool} {o : State} (test : Exchange → Bool) (s : State) → Keeps exact o s → Keeps exact o (leave test s)
unfolding leave
leave-keeps test s h = keeps (facts_of (forsake-keeps test s h))

leave_one-keeps : {exact : Bool} {o : State} (e : Exchange) (s : State) → Keeps exact o s → Keeps exact o (leave_one e s)
unfolding leave_one
leave_one-keeps e s h = when (e.asked == 0) (end_exchange-keeps e.number s h) (on_exchange-keeps e.number left_alone s h)

pub close_client-keeps : {exact : Bool} {o : State} (n : ℕ) (is_cut : Bool) (s : State) → Keeps exact o s → Keeps exact o (close_client n is_cut s)
unfolding close_client
close_client-keeps n is_cut s h =
    swept-keeps _ (each_exchange-keeps leave_one leave_one-keeps (exchanges_of n s) _ (on_client-keeps n (λ c. record c { is_closing = true; is_cut = c.is_cut || is_cut }) s (λ c. as_it_was _ c refl refl refl (λ is. refl) refl) h))

-- behind what is made of it
pub closed-keeps : {exact : Bool} (n : ℕ) (is_cut : Bool) (s : State) → Keeps exact (on_client n (λ c. record c { is_closing = true; is_cut = c.is_cut || is_cut }) s) (close_client n is_cut s)
unfolding close_client
closed-keeps n is_cut s = swept-keeps _ (each_exchange-keeps leave_one leave_one-keeps (exchanges_of n s) _ (keeps_same _))

-- ---- connections that are closed

pub on_passed-keeps : {exact : Bool} (f : Passed → Passed) → (exact ≡ true → (p : Passed) → (f p).pipe ≡ p.pipe) → (c : Client) → Kept exact (on_passed f c) c
on_passed-keeps {exact} f same c = by (passed_of c) refl
  where
    by : (passed : Option Passed) → passed_of c ≡ passed → Kept exact (elim passed as (λ x. Client) [ None ↦ c | Some p ↦ record c { brought = Passes (f p) } ]) c
    by None none = kept_same c
    by (Some p) some = record {
      number = refl;
      stage = refl;
      interim = refl;
      closing = λ is. is;
      pipe = λ is. ap (λ (x : Pipe). Some x) (same is p) ∙ sym (ap pipe_of some);
      passed = λ begun. sym (ap (λ (o : Option Passed). is_some o) some);
    }

leave_place-keeps : {exact : Bool} {o : State} (e : Exchange) (s : State) → Keeps exact o s → Keeps exact o (leave_place e s)
unfolding leave_place
leave_place-keeps e s h =
    when (is_headed e)
    (end_exchange-keeps e.number _ (on_client_of-keeps e (on_passed (λ p. record p { is_short = true })) s (on_passed-keeps (λ p. record p { is_short = true }) (λ is p. refl)) h))
    (when (may_ask_again s e.number) (on_exchange-keeps e.number unplaced s h) (end_exchange-keeps e.number s h))

lose_place-keeps : {exact : Bool} {o : State} (counts : Bool) (e : Exchange) (s : State) → Keeps exact o s → Keeps exact o (lose_place counts e s)
unfolding lose_place
lose_place-keeps counts e s h = when counts (leave_place-keeps e _ (lose_attempt-keeps e s h)) (leave_place-keeps e s h)

pub close_conn-keeps : {exact : Bool} {o : State} (counts : Bool) (k : Conn) (s : State) → Keeps exact o s → Keeps exact o (close_conn counts k s)
unfolding close_conn
close_conn-keeps counts k s h = each_exchange-keeps (lose_place (counts && not k.has_brought)) (lose_place-keeps (counts && not k.has_brought)) k.line _ (on_conn-keeps k.number _ s h)

-- ---- places

pub put_on-keeps : {exact : Bool} {o : State} (n k : ℕ) (s : State) → Keeps exact o s → Keeps exact o (put_on n k s)
unfolding put_on
put_on-keeps n k s h = on_conn-keeps k _ _ (on_exchange-keeps n _ s h)

place_by : {exact : Bool} {o : State} (n : ℕ) (e : Exchange) (ns : List ℕ) (s : State) (wanted : Placed) → ((t : State) → Keeps exact o t → Keeps exact o (place_each ns t).state) → Keeps exact o s
    → Keeps exact o (elim wanted as (λ c. Placement) [
      | On k ↦ place_each ns (put_on n k s)
      | Wait ↦ place_each ns s
      | Dial ↦ record { state = s; pause = WaitsDial e }
      | CloseThenDial k ↦ record { state = s; pause = WaitsDrop k e }
    ]).state
place_by n e ns s (On k) rest h = rest (put_on n k s) (put_on-keeps n k s h)
place_by n e ns s Wait rest h = rest s h
place_by n e ns s Dial rest h = h
place_by n e ns s (CloseThenDial k) rest h = h

place_at : {exact : Bool} {o : State} (unplaced : Option Exchange) (p : Placement) (q : Exchange → Placement) → Keeps exact o p.state → ((e : Exchange) → Keeps exact o (q e).state)
    → Keeps exact o (elim unplaced as (λ c. Placement) [ None ↦ p | Some e ↦ q e ]).state
place_at None p q hp hq = hp
place_at (Some e) p q hp hq = hq e

place_each-keeps : {exact : Bool} {o : State} (ns : List ℕ) (s : State) → Keeps exact o s → Keeps exact o (place_each ns s).state
place_each-keeps [] s h = h
place_each-keeps (n ∷ ns) s h = place_at (option_and_then if_unplaced (exchange s n)) _ _ (place_each-keeps ns s h) (λ e. place_by n e ns s (place_for s e) (λ t ht. place_each-keeps ns t ht) h)

pub placing-keeps : {exact : Bool} {o : State} (s : State) → Keeps exact o s → Keeps exact o (placing s).state
placing-keeps s h = place_each-keeps _ s h

-- ---- what followers ask for

add_exchange-keeps : {exact : Bool} {o : State} (e : Exchange) (s : State) → Keeps exact o s → Keeps exact o (add_exchange e s)
unfolding add_exchange
add_exchange-keeps e s h = keeps (facts_of h)

pub begin_exchange-keeps : {exact : Bool} {o : State} (e : Exchange) (s : State) → Keeps exact o s → Keeps exact o (begin_exchange e s)
unfolding begin_exchange
begin_exchange-keeps e s h = add_exchange-keeps e _ (leave-keeps _ s h)

fill_with-keeps : {exact : Bool} {o : State} (e : Exchange) (c : Client) (s : State) → Keeps exact o s → Keeps exact o (fill_with e c s)
unfolding fill_with
fill_with-keeps e c s h = when (fits e.text) (begin_exchange-keeps e s h) (on_client-keeps c.number (λ x. record x { course = AskTooLong }) s (λ x. as_it_was _ x refl refl refl (λ is. is) refl) h)

fill_span-keeps : {exact : Bool} {o : State} (c : Client) (n : Next) (span : ℕ × ℕ) (s : State) → Keeps exact o s → Keeps exact o (fill_span c n span s)
unfolding fill_span
fill_span-keeps c n span s h = by_front c.front h (λ status. h) (λ r. by_result r.key (λ key. fill_with-keeps (filling_exchange s c r.head key n span) c s h) (λ fault. h))

fill_next-keeps : {exact : Bool} {o : State} (c : Client) (n : Next) (s : State) → Keeps exact o s → Keeps exact o (fill_next c n s)
unfolding fill_next
fill_next-keeps c n s h = each_of (need_of s n) h (λ span. fill_span-keeps c n span s h)

fill_for-keeps : {exact : Bool} {o : State} (c : Client) (s : State) → Keeps exact o s → Keeps exact o (fill_for c s)
unfolding fill_for
fill_for-keeps c s h = when (is_trying c.course) (each_of (next_of s c) h (λ n. fill_next-keeps c n s h)) h

pub fill-keeps : {exact : Bool} {o : State} (s : State) → Keeps exact o s → Keeps exact o (fill s)
unfolding fill
fill-keeps s h = when s.is_stopped h (each_client-keeps fill_for fill_for-keeps _ s h)

pub give_up_asks-keeps : {exact : Bool} {o : State} (s : State) → Keeps exact o s → Keeps exact o (give_up_asks s)
unfolding give_up_asks
give_up_asks-keeps s h = keeps (facts_of h)
