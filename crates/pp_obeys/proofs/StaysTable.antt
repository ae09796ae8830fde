-- Changes of rows, connections and exchanges leave the rest of a state as it is.
use Rattle.std.proofs.Common.{ℕ, nat_lt, Bool, true, not, ◌==◌, ◌&&◌, List, [], ◌∷◌, Option, Some, None, option_and_then}
use Rattle.pp_fresh.specs.declared.aging.Times.{Times}
use Rattle.pp_peers.specs.declared.placing.Placed.TheVariants.{On, Dial, CloseThenDial, Wait}
use Rattle.pp_peers.specs.declared.placing.Placed.{Placed}
use Rattle.pp_target.specs.Key.{text_of}
use Rattle.pp_text.specs.Fields.{Field}
use Rattle.pp_valid.specs.declared.version.Version.{Version}
use Rattle.pp_law.specs.Chunks.{is_chunk, use_chunk, drop_chunk, note_use}
use Rattle.std.specs.Prelude.{find}
use Rattle.pp_law.specs.Closing.{forsake, leave, leave_one, exchanges_of, close_client}
use Rattle.pp_law.specs.Connections.{client, conn, exchange, on_conn, on_exchange, on_client, on_client_of, each_client, each_conn, each_exchange, is_unfilled, give_up_row, charge, lose_attempt, fail, may_ask_again, end_exchange, leave_place, lose_place, close_conn, attempts_of, lost_one, place_for, put_on, if_unplaced, place_each, placing, WaitsDial, WaitsDrop, Placement}
use Rattle.pp_law.specs.Lists.{Bytes}
use Rattle.pp_law.specs.Stages.{is_headed}
use Rattle.pp_law.specs.State.{State, Course, Client, Conn, Exchange, Instance}
use Rattle.pp_law.specs.Table.{row, row_on_disk, rows, idle_row, on_instance, forget, swept, clear, mark_row, forget_row, with_room, add_row, make_row, enter}
use Rattle.pp_obeys.proofs.Frames.{Frame, Stays, stays, frame_of, when, each_of}

-- ---- rows

pub on_instance-stays : {all : Bool} {o : Frame} (id : ℕ) (f : Instance → Instance) (s : State) → Stays all o s → Stays all o (on_instance id f s)
unfolding on_instance
on_instance-stays id f s h = stays (frame_of h)

pub forget-stays : {all : Bool} {o : Frame} (id : ℕ) (s : State) → Stays all o s → Stays all o (forget id s)
unfolding forget
forget-stays id s h = stays (frame_of h)

pub swept-stays : {all : Bool} {o : Frame} (s : State) → Stays all o s → Stays all o (swept s)
unfolding swept
swept-stays s h = stays (frame_of h)

pub clear-stays : {all : Bool} {o : Frame} (key : Bytes) (s : State) → Stays all o s → Stays all o (clear key s)
unfolding clear
clear-stays key s h = swept-stays _ (stays (frame_of h))

pub mark_row-stays : {all : Bool} {o : Frame} (id : ℕ) (s : State) → Stays all o s → Stays all o (mark_row id s)
unfolding mark_row
mark_row-stays id s h = stays (frame_of h)

forget_row-stays : {all : Bool} {o : Frame} (x : Instance) (s : State) → Stays all o s → Stays all o (forget_row x s)
unfolding forget_row
forget_row-stays x s h = stays (frame_of (forget-stays x.id s h))

with_room-stays : {all : Bool} {o : Frame} (s : State) → Stays all o s → Stays all o (with_room s)
unfolding with_room
with_room-stays s h = when (nat_lt (rows s) 1024) h (each_of (idle_row s) h (λ x. forget_row-stays x s h))

add_row-stays : {all : Bool} {o : Frame} (key : Bytes) (version : Version) (fields : List Field) (times : Times) (is_new : Bool) (s : State) → Stays all o s → Stays all o (add_row key version fields times is_new s)
unfolding add_row
add_row-stays key version fields times is_new s h = stays (frame_of h)

pub make_row-stays : {all : Bool} {o : Frame} (key : Bytes) (version : Version) (fields : List Field) (times : Times) (s : State) → Stays all o s → Stays all o (make_row key version fields times s)
unfolding make_row
make_row-stays key version fields times s h = add_row-stays key version fields times true _ (with_room-stays _ (clear-stays key s h))

pub enter-stays : {all : Bool} {o : Frame} (key : Bytes) (is_new : Bool) (s : State) → Stays all o s → Stays all o (enter key is_new s)
unfolding enter
enter-stays key is_new s h = each_of (row s key) (each_of (row_on_disk s key) h (λ e. add_row-stays key e.version e.fields e.times is_new _ (with_room-stays s h))) (λ x. h)

-- ---- chunks

pub use_chunk-stays : {all : Bool} {o : Frame} (id i : ℕ) (s : State) → Stays all o s → Stays all o (use_chunk id i s)
unfolding use_chunk
use_chunk-stays id i s h = each_of (find (is_chunk id i) s.chunks) h (λ c. stays (frame_of h))

pub drop_chunk-stays : {all : Bool} {o : Frame} (id i : ℕ) (s : State) → Stays all o s → Stays all o (drop_chunk id i s)
unfolding drop_chunk
drop_chunk-stays id i s h = stays (frame_of h)

pub note_use-stays : {all : Bool} {o : Frame} (s : State) → Stays all o s → Stays all o (note_use s)
unfolding note_use
note_use-stays s h = stays (frame_of h)

-- ---- by number

pub on_conn-stays : {all : Bool} {o : Frame} (n : ℕ) (f : Conn → Conn) (s : State) → Stays all o s → Stays all o (on_conn n f s)
unfolding on_conn
on_conn-stays n f s h = stays (frame_of h)

pub on_exchange-stays : {all : Bool} {o : Frame} (n : ℕ) (f : Exchange → Exchange) (s : State) → Stays all o s → Stays all o (on_exchange n f s)
unfolding on_exchange
on_exchange-stays n f s h = stays (frame_of h)

pub on_client-stays : {all : Bool} {o : Frame} (n : ℕ) (f : Client → Client) (s : State) → Stays all o s → Stays all o (on_client n f s)
unfolding on_client
on_client-stays n f s h = stays (frame_of h)

pub on_client_of-stays : {all : Bool} {o : Frame} (e : Exchange) (f : Client → Client) (s : State) → Stays all o s → Stays all o (on_client_of e f s)
unfolding on_client_of
on_client_of-stays e f s h = stays (frame_of h)

pub each_client-stays : {all : Bool} {o : Frame} (f : Client → State → State) → ((c : Client) (s : State) → Stays all o s → Stays all o (f c s)) → (ns : List ℕ) (s : State) → Stays all o s → Stays all o (each_client f ns s)
unfolding each_client
each_client-stays f each [] s h = h
each_client-stays f each (n ∷ ns) s h = each_client-stays f each ns _ (each_of (client s n) h (λ c. each c s h))

pub each_conn-stays : {all : Bool} {o : Frame} (f : Conn → State → State) → ((k : Conn) (s : State) → Stays all o s → Stays all o (f k s)) → (ns : List ℕ) (s : State) → Stays all o s → Stays all o (each_conn f ns s)
unfolding each_conn
each_conn-stays f each [] s h = h
each_conn-stays f each (n ∷ ns) s h = each_conn-stays f each ns _ (each_of (conn s n) h (λ k. each k s h))

pub each_exchange-stays : {all : Bool} {o : Frame} (f : Exchange → State → State) → ((e : Exchange) (s : State) → Stays all o s → Stays all o (f e s)) → (ns : List ℕ) (s : State) → Stays all o s → Stays all o (each_exchange f ns s)
unfolding each_exchange
each_exchange-stays f each [] s h = h
each_exchange-stays f each (n ∷ ns) s h = each_exchange-stays f each ns _ (each_of (exchange s n) h (λ e. each e s h))

-- ---- attempts, and exchanges that are over

give_up_row-stays : {all : Bool} {o : Frame} (e : Exchange) (s : State) → Stays all o s → Stays all o (give_up_row e s)
unfolding give_up_row
give_up_row-stays e s h = when (is_unfilled s e) (on_exchange-stays e.number _ _ (on_client_of-stays e _ _ (clear-stays (text_of e.key) s h))) h

charge-stays : {all : Bool} {o : Frame} (cost : Course → Course) (e : Exchange) (s : State) → Stays all o s → Stays all o (charge cost e s)
unfolding charge
charge-stays cost e s h = give_up_row-stays e _ (on_client_of-stays e _ s h)

pub lose_attempt-stays : {all : Bool} {o : Frame} (e : Exchange) (s : State) → Stays all o s → Stays all o (lose_attempt e s)
unfolding lose_attempt
lose_attempt-stays e s h = charge-stays (lost_one (attempts_of e)) e s h

pub fail-stays : {all : Bool} {o : Frame} (e : Exchange) (s : State) → Stays all o s → Stays all o (fail e s)
unfolding fail
fail-stays e s h = charge-stays _ e s h

pub end_exchange-stays : {all : Bool} {o : Frame} (n : ℕ) (s : State) → Stays all o s → Stays all o (end_exchange n s)
unfolding end_exchange
end_exchange-stays n s h = stays (frame_of h)

leave_place-stays : {all : Bool} {o : Frame} (e : Exchange) (s : State) → Stays all o s → Stays all o (leave_place e s)
unfolding leave_place
leave_place-stays e s h = when (is_headed e) (end_exchange-stays e.number _ (on_client_of-stays e _ s h)) (when (may_ask_again s e.number) (on_exchange-stays e.number _ s h) (end_exchange-stays e.number s h))

lose_place-stays : {all : Bool} {o : Frame} (counts : Bool) (e : Exchange) (s : State) → Stays all o s → Stays all o (lose_place counts e s)
unfolding lose_place
lose_place-stays counts e s h = when counts (leave_place-stays e _ (lose_attempt-stays e s h)) (leave_place-stays e s h)

pub close_conn-stays : {all : Bool} {o : Frame} (counts : Bool) (k : Conn) (s : State) → Stays all o s → Stays all o (close_conn counts k s)
unfolding close_conn
close_conn-stays counts k s h = each_exchange-stays (lose_place (counts && not k.has_brought)) (λ e t ht. lose_place-stays (counts && not k.has_brought) e t ht) k.line _ (on_conn-stays k.number _ s h)

-- ---- exchanges that their request leaves

pub forsake-stays : {all : Bool} {o : Frame} (test : Exchange → Bool) (s : State) → Stays all o s → Stays all o (forsake test s)
unfolding forsake
forsake-stays test s h = stays (frame_of h)

pub leave-stays : {all : Bool} {o : Frame} (test : Exchange → Bool) (s : State) → Stays all o s → Stays all o (leave test s)
unfolding leave
leave-stays test s h = stays (frame_of (forsake-stays test s h))

leave_one-stays : {all : Bool} {o : Frame} (e : Exchange) (s : State) → Stays all o s → Stays all o (leave_one e s)
unfolding leave_one
leave_one-stays e s h = when (e.asked == 0) (end_exchange-stays e.number s h) (on_exchange-stays e.number _ s h)

pub close_client-stays : {all : Bool} {o : Frame} (n : ℕ) (is_cut : Bool) (s : State) → Stays all o s → Stays all o (close_client n is_cut s)
unfolding close_client
close_client-stays n is_cut s h = swept-stays _ (each_exchange-stays leave_one (λ e t ht. leave_one-stays e t ht) (exchanges_of n s) _ (on_client-stays n _ s h))

-- ---- places

pub put_on-stays : {all : Bool} {o : Frame} (n k : ℕ) (s : State) → Stays all o s → Stays all o (put_on n k s)
unfolding put_on
put_on-stays n k s h = on_conn-stays k _ _ (on_exchange-stays n _ s h)

place_by : {all : Bool} {o : Frame} (n : ℕ) (e : Exchange) (ns : List ℕ) (s : State) (wanted : Placed) → ((t : State) → Stays all o t → Stays all o (place_each ns t).state) → Stays all o s
    → Stays all o (elim wanted as (λ c. Placement) [
      | On k ↦ place_each ns (put_on n k s)
      | Wait ↦ place_each ns s
      | Dial ↦ record { state = s; pause = WaitsDial e }
      | CloseThenDial k ↦ record { state = s; pause = WaitsDrop k e }
    ]).state
place_by n e ns s (On k) rest h = rest (put_on n k s) (put_on-stays n k s h)
place_by n e ns s Wait rest h = rest s h
place_by n e ns s Dial rest h = h
place_by n e ns s (CloseThenDial k) rest h = h

place_at : {all : Bool} {o : Frame} (unplaced : Option Exchange) (p : Placement) (q : Exchange → Placement) → Stays all o p.state → ((e : Exchange) → Stays all o (q e).state) → Stays all o (elim unplaced as (λ c. Placement) [ None ↦ p | Some e ↦ q e ]).state
place_at None p q hp hq = hp
place_at (Some e) p q hp hq = hq e

place_each-stays : {all : Bool} {o : Frame} (ns : List ℕ) (s : State) → Stays all o s → Stays all o (place_each ns s).state
place_each-stays [] s h = h
place_each-stays (n ∷ ns) s h = place_at (option_and_then if_unplaced (exchange s n)) _ _ (place_each-stays ns s h) (λ e. place_by n e ns s (place_for s e) (λ t ht. place_each-stays ns t ht) h)

pub placing-stays : {all : Bool} {o : Frame} (s : State) → Stays all o s → Stays all o (placing s).state
placing-stays s h = place_each-stays _ s h
