-- No phase makes a row: those that there are behind one were there before it.
use Rattle.std.proofs.Common.{◌≡◌, ℕ, Bool, true, false, not, ◌&&◌, List, [], ◌∷◌, Option, Some, None, Result, Ok, Err, option_and_then, sym, ap, ◌∙◌}
use Rattle.pp_law.specs.Requests.{Front, Parsed, NoHeadYet, NoHead as NoFront, IsRequest}
use Rattle.pp_law.specs.Closing.{forsake, leave}
use Rattle.pp_law.specs.Connections.{client, conn, exchange, on_conn, on_exchange, on_client, on_client_of, each_client, each_conn, each_exchange, is_unfilled, give_up_row, charge, lose_attempt, may_ask_again, end_exchange, leave_place, lose_place, close_conn, attempts_of, lost_one, place_for, put_on, if_unplaced, place_each, placing, WaitsDial, WaitsDrop, Placement, front_of_line, is_trying}
use Rattle.pp_law.specs.Deciding.{add_exchange, begin_exchange}
use Rattle.pp_law.specs.Decisions.{fits}
use Rattle.pp_law.specs.Followers.{need_of, filling_exchange, fill_with, fill_span, fill_next, fill_for, fill, give_up_asks}
use Rattle.pp_law.specs.Lists.{Bytes}
use Rattle.pp_law.specs.Opening.{is_at}
use Rattle.pp_law.specs.Phases.{behind, come, come_to_decide, decides, in_phase, is_done, next, phases}
use Rattle.pp_law.specs.Stages.{is_headed}
use Rattle.pp_law.specs.State.{State, Course, Client, Conn, Exchange, Instance, Phase, Before, IsWoken, IsConfigured, IsRooted, IsListed, IsListening, IsStuck, Awaiting, Handling, Evicting, Keeping, Deciding, Following, Connecting, DecidingAgain}
use Rattle.pp_law.specs.Table.{Next, next_of, is_row_of, is_left_over, swept, clear}
use Rattle.pp_law.specs.Unseen.{is_unseen, drop_on, drop_unseen}
use Rattle.pp_laws.proofs.Lists.{Changed, in_change, in_filter, other, same}
use Rattle.pp_laws.specs.Runs.{IsIn}
use Rattle.pp_peers.specs.declared.placing.Placed.{Placed}
use Rattle.pp_peers.specs.declared.placing.Placed.TheVariants.{On, Dial, CloseThenDial, Wait}
use Rattle.pp_target.specs.Key.{text_of}

-- each that is not retired is one of these
pub data Fewer (xs : List Instance) (s : State) : Type 0 where
  fewer : ((x : Instance) → IsIn x s.instances → x.is_retired ≡ false → IsIn x xs) → Fewer xs s

pub rows_of : {xs : List Instance} {s : State} → Fewer xs s → (x : Instance) → IsIn x s.instances → x.is_retired ≡ false → IsIn x xs
rows_of (fewer rows) = rows

-- ---- by cases

when : {xs : List Instance} (t : Bool) {x y : State} → Fewer xs x → Fewer xs y → Fewer xs (elim t as (λ c. State) [ true ↦ x | false ↦ y ])
when true hx hy = hx
when false hx hy = hy

each_of : {A : Type 0} {xs : List Instance} (o : Option A) {u : State} {v : A → State} → Fewer xs u → ((a : A) → Fewer xs (v a)) → Fewer xs (elim o as (λ c. State) [ None ↦ u | Some a ↦ v a ])
each_of None hx hy = hx
each_of (Some a) hx hy = hy a

by_front : {xs : List Instance} (f : Front) {x : State} {y : ℕ → State} {z : Parsed → State} → Fewer xs x → ((n : ℕ) → Fewer xs (y n)) → ((r : Parsed) → Fewer xs (z r))
    → Fewer xs (elim f as (λ c. State) [ NoHeadYet ↦ x | NoFront n ↦ y n | IsRequest r ↦ z r ])
by_front NoHeadYet hx hy hz = hx
by_front (NoFront n) hx hy hz = hy n
by_front (IsRequest r) hx hy hz = hz r

by_result : {A E : Type 0} {xs : List Instance} (r : Result A E) {x : A → State} {y : E → State} → ((a : A) → Fewer xs (x a)) → ((e : E) → Fewer xs (y e))
    → Fewer xs (elim r as (λ c. State) [ Ok a ↦ x a | Err e ↦ y e ])
by_result (Ok a) hx hy = hx a
by_result (Err e) hx hy = hy e

-- ---- a row that is cleared

swept-fewer : {xs : List Instance} (s : State) → Fewer xs s → Fewer xs (swept s)
unfolding swept
swept-fewer s h = fewer (λ x i now. rows_of h x (in_filter (λ y. not (is_left_over s y)) x s.instances i).0 now)

abbrev retired : Instance → Instance
retired x = record x { is_retired = true }

cleared : {xs : List Instance} (key : Bytes) (s : State) → Fewer xs s → (x : Instance) → Changed (is_row_of key) retired s.instances x → x.is_retired ≡ false → IsIn x xs
cleared key s h x (same i isnt) now = rows_of h x i now
cleared key s h x (other y i is eq) now = let both : true ≡ false = sym (ap (λ (z : Instance). z.is_retired) eq) ∙ now in absurd (cc both)

clear-fewer : {xs : List Instance} (key : Bytes) (s : State) → Fewer xs s → Fewer xs (clear key s)
unfolding clear
clear-fewer key s h = swept-fewer _ (fewer (λ x i now. cleared key s h x (in_change (is_row_of key) retired x s.instances i) now))

-- ---- what phases are made of

on_conn-fewer : {xs : List Instance} (n : ℕ) (f : Conn → Conn) (s : State) → Fewer xs s → Fewer xs (on_conn n f s)
unfolding on_conn
on_conn-fewer n f s h = fewer (rows_of h)

on_exchange-fewer : {xs : List Instance} (n : ℕ) (f : Exchange → Exchange) (s : State) → Fewer xs s → Fewer xs (on_exchange n f s)
unfolding on_exchange
on_exchange-fewer n f s h = fewer (rows_of h)

on_client-fewer : {xs : List Instance} (n : ℕ) (f : Client → Client) (s : State) → Fewer xs s → Fewer xs (on_client n f s)
unfolding on_client
on_client-fewer n f s h = fewer (rows_of h)

on_client_of-fewer : {xs : List Instance} (e : Exchange) (f : Client → Client) (s : State) → Fewer xs s → Fewer xs (on_client_of e f s)
unfolding on_client_of
on_client_of-fewer e f s h = fewer (rows_of h)

each_client-fewer : {xs : List Instance} (f : Client → State → State) → ((c : Client) (s : State) → Fewer xs s → Fewer xs (f c s)) → (ns : List ℕ) (s : State) → Fewer xs s → Fewer xs (each_client f ns s)
unfolding each_client
each_client-fewer f each [] s h = h
each_client-fewer f each (n ∷ ns) s h = each_client-fewer f each ns _ (each_of (client s n) h (λ c. each c s h))

each_conn-fewer : {xs : List Instance} (f : Conn → State → State) → ((k : Conn) (s : State) → Fewer xs s → Fewer xs (f k s)) → (ns : List ℕ) (s : State) → Fewer xs s → Fewer xs (each_conn f ns s)
unfolding each_conn
each_conn-fewer f each [] s h = h
each_conn-fewer f each (n ∷ ns) s h = each_conn-fewer f each ns _ (each_of (conn s n) h (λ k. each k s h))

each_exchange-fewer : {xs : List Instance} (f : Exchange → State → State) → ((e : Exchange) (s : State) → Fewer xs s → Fewer xs (f e s)) → (ns : List ℕ) (s : State) → Fewer xs s → Fewer xs (each_exchange f ns s)
unfolding each_exchange
each_exchange-fewer f each [] s h = h
each_exchange-fewer f each (n ∷ ns) s h = each_exchange-fewer f each ns _ (each_of (exchange s n) h (λ e. each e s h))

give_up_row-fewer : {xs : List Instance} (e : Exchange) (s : State) → Fewer xs s → Fewer xs (give_up_row e s)
unfolding give_up_row
give_up_row-fewer e s h = when (is_unfilled s e) (on_exchange-fewer e.number _ _ (on_client_of-fewer e _ _ (clear-fewer (text_of e.key) s h))) h

charge-fewer : {xs : List Instance} (cost : Course → Course) (e : Exchange) (s : State) → Fewer xs s → Fewer xs (charge cost e s)
unfolding charge
charge-fewer cost e s h = give_up_row-fewer e _ (on_client_of-fewer e _ s h)

lose_attempt-fewer : {xs : List Instance} (e : Exchange) (s : State) → Fewer xs s → Fewer xs (lose_attempt e s)
unfolding lose_attempt
lose_attempt-fewer e s h = charge-fewer (lost_one (attempts_of e)) e s h

end_exchange-fewer : {xs : List Instance} (n : ℕ) (s : State) → Fewer xs s → Fewer xs (end_exchange n s)
unfolding end_exchange
end_exchange-fewer n s h = fewer (rows_of h)

leave_place-fewer : {xs : List Instance} (e : Exchange) (s : State) → Fewer xs s → Fewer xs (leave_place e s)
unfolding leave_place
leave_place-fewer e s h = when (is_headed e) (end_exchange-fewer e.number _ (on_client_of-fewer e _ s h)) (when (may_ask_again s e.number) (on_exchange-fewer e.number _ s h) (end_exchange-fewer e.number s h))

lose_place-fewer : {xs : List Instance} (counts : Bool) (e : Exchange) (s : State) → Fewer xs s → Fewer xs (lose_place counts e s)
unfolding lose_place
lose_place-fewer counts e s h = when counts (leave_place-fewer e _ (lose_attempt-fewer e s h)) (leave_place-fewer e s h)

close_conn-fewer : {xs : List Instance} (counts : Bool) (k : Conn) (s : State) → Fewer xs s → Fewer xs (close_conn counts k s)
unfolding close_conn
close_conn-fewer counts k s h = each_exchange-fewer (lose_place (counts && not k.has_brought)) (λ e t ht. lose_place-fewer (counts && not k.has_brought) e t ht) k.line _ (on_conn-fewer k.number _ s h)

forsake-fewer : {xs : List Instance} (test : Exchange → Bool) (s : State) → Fewer xs s → Fewer xs (forsake test s)
unfolding forsake
forsake-fewer test s h = fewer (rows_of h)

leave-fewer : {xs : List Instance} (test : Exchange → Bool) (s : State) → Fewer xs s → Fewer xs (leave test s)
unfolding leave
leave-fewer test s h = fewer (rows_of (forsake-fewer test s h))

put_on-fewer : {xs : List Instance} (n k : ℕ) (s : State) → Fewer xs s → Fewer xs (put_on n k s)
unfolding put_on
put_on-fewer n k s h = on_conn-fewer k _ _ (on_exchange-fewer n _ s h)

place_by : {xs : List Instance} (n : ℕ) (e : Exchange) (ns : List ℕ) (s : State) (wanted : Placed) → ((t : State) → Fewer xs t → Fewer xs (place_each ns t).state) → Fewer xs s
    → Fewer xs (elim wanted as (λ c. Placement) [
      | On k ↦ place_each ns (put_on n k s)
      | Wait ↦ place_each ns s
      | Dial ↦ record { state = s; pause = WaitsDial e }
      | CloseThenDial k ↦ record { state = s; pause = WaitsDrop k e }
    ]).state
place_by n e ns s (On k) rest h = rest (put_on n k s) (put_on-fewer n k s h)
place_by n e ns s Wait rest h = rest s h
place_by n e ns s Dial rest h = h
place_by n e ns s (CloseThenDial k) rest h = h

place_at : {xs : List Instance} (unplaced : Option Exchange) (p : Placement) (q : Exchange → Placement) → Fewer xs p.state → ((e : Exchange) → Fewer xs (q e).state) → Fewer xs (elim unplaced as (λ c. Placement) [ None ↦ p | Some e ↦ q e ]).state
place_at None p q hp hq = hp
place_at (Some e) p q hp hq = hq e

place_each-fewer : {xs : List Instance} (ns : List ℕ) (s : State) → Fewer xs s → Fewer xs (place_each ns s).state
place_each-fewer [] s h = h
place_each-fewer (n ∷ ns) s h = place_at (option_and_then if_unplaced (exchange s n)) _ _ (place_each-fewer ns s h) (λ e. place_by n e ns s (place_for s e) (λ t ht. place_each-fewer ns t ht) h)

placing-fewer : {xs : List Instance} (s : State) → Fewer xs s → Fewer xs (placing s).state
placing-fewer s h = place_each-fewer _ s h

add_exchange-fewer : {xs : List Instance} (e : Exchange) (s : State) → Fewer xs s → Fewer xs (add_exchange e s)
unfolding add_exchange
add_exchange-fewer e s h = fewer (rows_of h)

begin_exchange-fewer : {xs : List Instance} (e : Exchange) (s : State) → Fewer xs s → Fewer xs (begin_exchange e s)
unfolding begin_exchange
begin_exchange-fewer e s h = add_exchange-fewer e _ (leave-fewer _ s h)

fill_with-fewer : {xs : List Instance} (e : Exchange) (c : Client) (s : State) → Fewer xs s → Fewer xs (fill_with e c s)
unfolding fill_with
fill_with-fewer e c s h = when (fits e.text) (begin_exchange-fewer e s h) (on_client-fewer c.number _ s h)

fill_span-fewer : {xs : List Instance} (c : Client) (n : Next) (span : ℕ × ℕ) (s : State) → Fewer xs s → Fewer xs (fill_span c n span s)
unfolding fill_span
fill_span-fewer c n span s h = by_front c.front h (λ m. h) (λ r. by_result r.key (λ key. fill_with-fewer (filling_exchange s c r.head key n span) c s h) (λ fault. h))

fill_next-fewer : {xs : List Instance} (c : Client) (n : Next) (s : State) → Fewer xs s → Fewer xs (fill_next c n s)
unfolding fill_next
fill_next-fewer c n s h = each_of (need_of s n) h (λ span. fill_span-fewer c n span s h)

fill_for-fewer : {xs : List Instance} (c : Client) (s : State) → Fewer xs s → Fewer xs (fill_for c s)
unfolding fill_for
fill_for-fewer c s h = when (is_trying c.course) (each_of (next_of s c) h (λ n. fill_next-fewer c n s h)) h

fill-fewer : {xs : List Instance} (s : State) → Fewer xs s → Fewer xs (fill s)
unfolding fill
fill-fewer s h = when s.is_stopped h (each_client-fewer fill_for (λ c t ht. fill_for-fewer c t ht) _ s h)

give_up_asks-fewer : {xs : List Instance} (s : State) → Fewer xs s → Fewer xs (give_up_asks s)
unfolding give_up_asks
give_up_asks-fewer s h = fewer (rows_of h)

drop_on-fewer : {xs : List Instance} (k : Conn) (s : State) → Fewer xs s → Fewer xs (drop_on k s)
unfolding drop_on
drop_on-fewer k s h = each_of (front_of_line s k) h (λ e. when (is_unseen s k e) (close_conn-fewer false k _ (end_exchange-fewer e.number s h)) h)

drop_unseen-fewer : {xs : List Instance} (s : State) → Fewer xs s → Fewer xs (drop_unseen s)
unfolding drop_unseen
drop_unseen-fewer s h = each_conn-fewer drop_on (λ k t ht. drop_on-fewer k t ht) _ s h

-- ---- phases

in_phase-fewer : {xs : List Instance} (phase : Phase) (s : State) → Fewer xs s → Fewer xs (in_phase phase s)
in_phase-fewer phase s h = fewer (rows_of h)

behind-fewer : {xs : List Instance} (phase : Phase) (s : State) → Fewer xs s → Fewer xs (behind phase s)
behind-fewer Before s h = h
behind-fewer IsWoken s h = h
behind-fewer IsConfigured s h = h
behind-fewer IsRooted s h = h
behind-fewer IsListed s h = h
behind-fewer IsListening s h = h
behind-fewer IsStuck s h = h
behind-fewer Awaiting s h = h
behind-fewer Handling s h = in_phase-fewer Evicting s h
behind-fewer Evicting s h = give_up_asks-fewer _ (in_phase-fewer Keeping s h)
behind-fewer Keeping s h = in_phase-fewer Deciding s h
behind-fewer Deciding s h = in_phase-fewer Following s h
behind-fewer Following s h = fill-fewer _ (give_up_asks-fewer _ (drop_unseen-fewer _ (in_phase-fewer Connecting s h)))
behind-fewer Connecting s h = placing-fewer _ (in_phase-fewer DecidingAgain s h)
behind-fewer DecidingAgain s h = h

pub next-fewer : {xs : List Instance} (s : State) → Fewer xs s → Fewer xs (next s)
unfolding next
next-fewer s h = behind-fewer s.phase s h

come-fewer : {xs : List Instance} (stops : State → Bool) (ps : List Phase) (s : State) → Fewer xs s → Fewer xs (come stops ps s)
unfolding come
come-fewer stops [] s h = h
come-fewer stops (p ∷ ps) s h = come-fewer stops ps _ (when (is_at p s) (when (stops s) h (when (is_done s) (next-fewer s h) h)) h)

pub come_to_decide-fewer : {xs : List Instance} (s : State) → Fewer xs s → Fewer xs (come_to_decide s)
unfolding come_to_decide
come_to_decide-fewer s h = come-fewer decides phases s h
