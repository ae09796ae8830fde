-- Changes of rows, connections and exchanges leave the numbers of requests; a row that is made or comes in is one more.
use Rattle.std.proofs.Common.{◌≡◌, refl, ◌+◌, ◌≤◌, ◌||◌, le_refl, arith, ℕ, nat_lt, Bool, true, not, ◌==◌, ◌&&◌, List, [], ◌∷◌, Option, Some, None, option_and_then}
use Rattle.pp_fresh.specs.declared.aging.Times.{Times}
use Rattle.pp_peers.specs.declared.placing.Placed.TheVariants.{On, Dial, CloseThenDial, Wait}
use Rattle.pp_peers.specs.declared.placing.Placed.{Placed}
use Rattle.pp_target.specs.Key.{text_of}
use Rattle.pp_text.specs.Fields.{Field}
use Rattle.pp_valid.specs.declared.version.Version.{Version}
use Rattle.pp_law.specs.Chunks.{is_chunk, use_chunk, drop_chunk, note_use}
use Rattle.std.specs.Prelude.{find}
use Rattle.pp_law.specs.Closing.{forsake, leave, leave_one, exchanges_of, close_client}
use Rattle.pp_law.specs.Connections.{client, conn, is_client, is_for, without_row, exchange, on_conn, on_exchange, on_client, on_client_of, each_client, each_conn, each_exchange, is_unfilled, give_up_row, charge, lose_attempt, fail, may_ask_again, end_exchange, leave_place, lose_place, close_conn, attempts_of, lost_one, place_for, put_on, if_unplaced, place_each, placing, WaitsDial, WaitsDrop, Placement}
use Rattle.pp_law.specs.Lists.{Bytes}
use Rattle.pp_law.specs.Stages.{is_headed, on_passed}
use Rattle.pp_law.specs.State.{State, Course, Client, Conn, Exchange, Instance}
use Rattle.pp_law.specs.Table.{row, row_on_disk, rows, idle_row, on_instance, forget, swept, clear, mark_row, forget_row, with_room, add_row, make_row, enter}
use Rattle.pp_laws_sides.proofs.Few.{Few, changed_few, few, facts_of, raise, when, each_of}
use Rattle.pp_laws_sides.proofs.Indexes.{index_at, on_passed-index, without_row-index}
use Rattle.pp_laws.proofs.Lists.{changed_at}

-- ---- rows

-- it may be one more
pub one_more : {m l : ℕ} (s : State) → Few m l s → Few (m + 1) l s
one_more {m} {l} s h = raise (m + 1) l s (omega arith) (le_refl l) h

pub on_instance-few : {m l : ℕ} (id : ℕ) (f : Instance → Instance) (s : State) → Few m l s → Few m l (on_instance id f s)
unfolding on_instance
on_instance-few id f s h = few (facts_of h)

pub forget-few : {m l : ℕ} (id : ℕ) (s : State) → Few m l s → Few m l (forget id s)
unfolding forget
forget-few id s h = few (facts_of h)

pub swept-few : {m l : ℕ} (s : State) → Few m l s → Few m l (swept s)
unfolding swept
swept-few s h = few (facts_of h)

pub clear-few : {m l : ℕ} (key : Bytes) (s : State) → Few m l s → Few m l (clear key s)
unfolding clear
clear-few key s h = swept-few _ (few (facts_of h))

pub mark_row-few : {m l : ℕ} (id : ℕ) (s : State) → Few m l s → Few m l (mark_row id s)
unfolding mark_row
mark_row-few id s h = few (facts_of h)

forget_row-few : {m l : ℕ} (x : Instance) (s : State) → Few m l s → Few m l (forget_row x s)
unfolding forget_row
forget_row-few x s h = few (facts_of (forget-few x.id s h))

with_room-few : {m l : ℕ} (s : State) → Few m l s → Few m l (with_room s)
unfolding with_room
with_room-few s h = when (nat_lt (rows s) 1024) h (each_of (idle_row s) h (λ x. forget_row-few x s h))

add_row-few : {m l : ℕ} (key : Bytes) (version : Version) (fields : List Field) (times : Times) (is_new : Bool) (s : State) → Few m l s → Few (m + 1) l (add_row key version fields times is_new s)
unfolding add_row
add_row-few {m} {l} key version fields times is_new s h = few (record { rows = let le : s.next_instance ≤ m = (facts_of h).rows in omega arith; asked = (facts_of h).asked; many = (facts_of h).many })

pub make_row-few : {m l : ℕ} (key : Bytes) (version : Version) (fields : List Field) (times : Times) (s : State) → Few m l s → Few (m + 1) l (make_row key version fields times s)
unfolding make_row
make_row-few key version fields times s h = add_row-few key version fields times true _ (with_room-few _ (clear-few key s h))

pub enter-few : {m l : ℕ} (key : Bytes) (is_new : Bool) (s : State) → Few m l s → Few (m + 1) l (enter key is_new s)
unfolding enter
enter-few key is_new s h = each_of (row s key) (each_of (row_on_disk s key) (one_more s h) (λ e. add_row-few key e.version e.fields e.times is_new _ (with_room-few s h))) (λ x. one_more s h)

-- ---- chunks

pub use_chunk-few : {m l : ℕ} (id i : ℕ) (s : State) → Few m l s → Few m l (use_chunk id i s)
unfolding use_chunk
use_chunk-few id i s h = each_of (find (is_chunk id i) s.chunks) h (λ c. few (facts_of h))

pub drop_chunk-few : {m l : ℕ} (id i : ℕ) (s : State) → Few m l s → Few m l (drop_chunk id i s)
unfolding drop_chunk
drop_chunk-few id i s h = few (facts_of h)

pub note_use-few : {m l : ℕ} (s : State) → Few m l s → Few m l (note_use s)
unfolding note_use
note_use-few s h = few (facts_of h)

-- ---- by number

pub on_conn-few : {m l : ℕ} (n : ℕ) (f : Conn → Conn) (s : State) → Few m l s → Few m l (on_conn n f s)
unfolding on_conn
on_conn-few n f s h = few (facts_of h)

pub on_exchange-few : {m l : ℕ} (n : ℕ) (f : Exchange → Exchange) (s : State) → Few m l s → Few m l (on_exchange n f s)
unfolding on_exchange
on_exchange-few n f s h = few (facts_of h)

pub on_client-few : {m l : ℕ} (n : ℕ) (f : Client → Client) (s : State) → ((c : Client) → (f c).index ≡ c.index) → Few m l s → Few m l (on_client n f s)
unfolding on_client
on_client-few n f s index h = few (changed_few (changed_at (is_client n) f) s.clients (λ c. index_at f c (is_client n c) (index c)) (facts_of h))

pub on_client_of-few : {m l : ℕ} (e : Exchange) (f : Client → Client) (s : State) → ((c : Client) → (f c).index ≡ c.index) → Few m l s → Few m l (on_client_of e f s)
unfolding on_client_of
on_client_of-few e f s index h = few (changed_few (changed_at (is_for e) f) s.clients (λ c. index_at f c (is_for e c) (index c)) (facts_of h))

pub each_client-few : {m l : ℕ} (f : Client → State → State) → ((c : Client) (s : State) → Few m l s → Few m l (f c s)) → (ns : List ℕ) (s : State) → Few m l s → Few m l (each_client f ns s)
unfolding each_client
each_client-few f each [] s h = h
each_client-few f each (n ∷ ns) s h = each_client-few f each ns _ (each_of (client s n) h (λ c. each c s h))

pub each_conn-few : {m l : ℕ} (f : Conn → State → State) → ((k : Conn) (s : State) → Few m l s → Few m l (f k s)) → (ns : List ℕ) (s : State) → Few m l s → Few m l (each_conn f ns s)
unfolding each_conn
each_conn-few f each [] s h = h
each_conn-few f each (n ∷ ns) s h = each_conn-few f each ns _ (each_of (conn s n) h (λ k. each k s h))

pub each_exchange-few : {m l : ℕ} (f : Exchange → State → State) → ((e : Exchange) (s : State) → Few m l s → Few m l (f e s)) → (ns : List ℕ) (s : State) → Few m l s → Few m l (each_exchange f ns s)
unfolding each_exchange
each_exchange-few f each [] s h = h
each_exchange-few f each (n ∷ ns) s h = each_exchange-few f each ns _ (each_of (exchange s n) h (λ e. each e s h))

-- ---- attempts, and exchanges that are over

give_up_row-few : {m l : ℕ} (e : Exchange) (s : State) → Few m l s → Few m l (give_up_row e s)
unfolding give_up_row
give_up_row-few e s h = when (is_unfilled s e) (on_exchange-few e.number _ _ (on_client_of-few e without_row _ without_row-index (clear-few (text_of e.key) s h))) h

charge-few : {m l : ℕ} (cost : Course → Course) (e : Exchange) (s : State) → Few m l s → Few m l (charge cost e s)
unfolding charge
charge-few cost e s h = give_up_row-few e _ (on_client_of-few e (λ c. record c { course = cost c.course }) s (λ c. refl) h)

pub lose_attempt-few : {m l : ℕ} (e : Exchange) (s : State) → Few m l s → Few m l (lose_attempt e s)
unfolding lose_attempt
lose_attempt-few e s h = charge-few (lost_one (attempts_of e)) e s h

pub fail-few : {m l : ℕ} (e : Exchange) (s : State) → Few m l s → Few m l (fail e s)
unfolding fail
fail-few e s h = charge-few _ e s h

pub end_exchange-few : {m l : ℕ} (n : ℕ) (s : State) → Few m l s → Few m l (end_exchange n s)
unfolding end_exchange
end_exchange-few n s h = few (facts_of h)

leave_place-few : {m l : ℕ} (e : Exchange) (s : State) → Few m l s → Few m l (leave_place e s)
unfolding leave_place
leave_place-few e s h = when (is_headed e) (end_exchange-few e.number _ (on_client_of-few e (on_passed (λ p. record p { is_short = true })) s (on_passed-index (λ p. record p { is_short = true })) h)) (when (may_ask_again s e.number) (on_exchange-few e.number _ s h) (end_exchange-few e.number s h))

lose_place-few : {m l : ℕ} (counts : Bool) (e : Exchange) (s : State) → Few m l s → Few m l (lose_place counts e s)
unfolding lose_place
lose_place-few counts e s h = when counts (leave_place-few e _ (lose_attempt-few e s h)) (leave_place-few e s h)

pub close_conn-few : {m l : ℕ} (counts : Bool) (k : Conn) (s : State) → Few m l s → Few m l (close_conn counts k s)
unfolding close_conn
close_conn-few counts k s h = each_exchange-few (lose_place (counts && not k.has_brought)) (λ e t ht. lose_place-few (counts && not k.has_brought) e t ht) k.line _ (on_conn-few k.number _ s h)

-- ---- exchanges that their request leaves

pub forsake-few : {m l : ℕ} (test : Exchange → Bool) (s : State) → Few m l s → Few m l (forsake test s)
unfolding forsake
forsake-few test s h = few (facts_of h)

pub leave-few : {m l : ℕ} (test : Exchange → Bool) (s : State) → Few m l s → Few m l (leave test s)
unfolding leave
leave-few test s h = few (facts_of (forsake-few test s h))

leave_one-few : {m l : ℕ} (e : Exchange) (s : State) → Few m l s → Few m l (leave_one e s)
unfolding leave_one
leave_one-few e s h = when (e.asked == 0) (end_exchange-few e.number s h) (on_exchange-few e.number _ s h)

pub close_client-few : {m l : ℕ} (n : ℕ) (is_cut : Bool) (s : State) → Few m l s → Few m l (close_client n is_cut s)
unfolding close_client
close_client-few n is_cut s h = swept-few _ (each_exchange-few leave_one (λ e t ht. leave_one-few e t ht) (exchanges_of n s) _ (on_client-few n (λ c. record c { is_closing = true; is_cut = c.is_cut || is_cut }) s (λ c. refl) h))

-- ---- places

pub put_on-few : {m l : ℕ} (n k : ℕ) (s : State) → Few m l s → Few m l (put_on n k s)
unfolding put_on
put_on-few n k s h = on_conn-few k _ _ (on_exchange-few n _ s h)

place_by : {m l : ℕ} (n : ℕ) (e : Exchange) (ns : List ℕ) (s : State) (wanted : Placed) → ((t : State) → Few m l t → Few m l (place_each ns t).state) → Few m l s
    → Few m l (elim wanted as (λ c. Placement) [
      | On k ↦ place_each ns (put_on n k s)
      | Wait ↦ place_each ns s
      | Dial ↦ record { state = s; pause = WaitsDial e }
      | CloseThenDial k ↦ record { state = s; pause = WaitsDrop k e }
    ]).state
place_by n e ns s (On k) rest h = rest (put_on n k s) (put_on-few n k s h)
place_by n e ns s Wait rest h = rest s h
place_by n e ns s Dial rest h = h
place_by n e ns s (CloseThenDial k) rest h = h

place_at : {m l : ℕ} (unplaced : Option Exchange) (p : Placement) (q : Exchange → Placement) → Few m l p.state → ((e : Exchange) → Few m l (q e).state) → Few m l (elim unplaced as (λ c. Placement) [ None ↦ p | Some e ↦ q e ]).state
place_at None p q hp hq = hp
place_at (Some e) p q hp hq = hq e

place_each-few : {m l : ℕ} (ns : List ℕ) (s : State) → Few m l s → Few m l (place_each ns s).state
place_each-few [] s h = h
place_each-few (n ∷ ns) s h = place_at (option_and_then if_unplaced (exchange s n)) _ _ (place_each-few ns s h) (λ e. place_by n e ns s (place_for s e) (λ t ht. place_each-few ns t ht) h)

pub placing-few : {m l : ℕ} (s : State) → Few m l s → Few m l (placing s).state
placing-few s h = place_each-few _ s h
