-- What requests and responses bring leaves the rest of a state as it is.
use Rattle.std.proofs.Common.{ℕ, Bool, false, Some}
use Rattle.pp_ask.specs.declared.kind.AskKind.{AskKind}
use Rattle.pp_head.specs.Request.{Request}
use Rattle.pp_target.specs.Key.{Key, text_of}
use Rattle.pp_world.specs.declared.note.Decision.TheVariants.{Refuse, Hit, Part, Head, NotModified, Unsatisfiable, Relay, Validate, Fetch, Pass}
use Rattle.pp_world.specs.declared.note.Decision.{Decision}
use Rattle.pp_law.specs.Closing.{is_of}
use Rattle.pp_law.specs.Connections.{front_of_line, is_trying}
use Rattle.pp_law.specs.Deciding.{refuse, add_exchange, begin_exchange, ask_for, ask_as, ask_origin, reply_by, follow_with, follow_row, follow, relay, is_for_memory, mark_row_of, enter_row, decided_by, decided}
use Rattle.pp_law.specs.Decisions.{kind_of, fits}
use Rattle.pp_law.specs.Followers.{need_of, filling_exchange, fill_with, fill_span, fill_next, fill_for, fill, give_up_asks}
use Rattle.pp_law.specs.Lists.{Bytes}
use Rattle.pp_law.specs.Requests.{key_in}
use Rattle.pp_law.specs.State.{State, Client, Conn, Exchange, Instance, Reply}
use Rattle.pp_law.specs.Table.{row, row_for, Next, next_of}
use Rattle.pp_law.specs.Unseen.{is_unseen, drop_on, drop_unseen}
use Rattle.pp_obeys.proofs.Frames.{Frame, Stays, stays, frame_of, when, each_of, by_front, by_result}
use Rattle.pp_obeys.proofs.StaysTable.{swept-stays, mark_row-stays, enter-stays, on_client-stays, each_client-stays, each_conn-stays, end_exchange-stays, close_conn-stays, leave-stays}

-- ---- decisions

refuse-stays : {all : Bool} {o : Frame} (c : Client) (status : ℕ) (s : State) → Stays all o s → Stays all o (refuse c status s)
unfolding refuse
refuse-stays c status s h = swept-stays _ (leave-stays (is_of c.number) _ (on_client-stays c.number _ s h))

add_exchange-stays : {all : Bool} {o : Frame} (e : Exchange) (s : State) → Stays all o s → Stays all o (add_exchange e s)
unfolding add_exchange
add_exchange-stays e s h = stays (frame_of h)

begin_exchange-stays : {all : Bool} {o : Frame} (e : Exchange) (s : State) → Stays all o s → Stays all o (begin_exchange e s)
unfolding begin_exchange
begin_exchange-stays e s h = add_exchange-stays e _ (leave-stays _ s h)

ask_for-stays : {all : Bool} {o : Frame} (c : Client) (d : Decision) (head : Request) (key : Key) (kind : AskKind) (s : State) → Stays all o s → Stays all o (ask_for c d head key kind s)
unfolding ask_for
ask_for-stays c d head key kind s h = swept-stays _ (begin_exchange-stays _ _ (leave-stays (is_of c.number) _ (on_client-stays c.number _ s h)))

ask_as-stays : {all : Bool} {o : Frame} (c : Client) (d : Decision) (head : Request) (key : Key) (s : State) → Stays all o s → Stays all o (ask_as c d head key s)
unfolding ask_as
ask_as-stays c d head key s h = each_of (kind_of head (row_for s head (text_of key)) d) h (λ kind. ask_for-stays c d head key kind s h)

ask_origin-stays : {all : Bool} {o : Frame} (c : Client) (d : Decision) (s : State) → Stays all o s → Stays all o (ask_origin c d s)
unfolding ask_origin
ask_origin-stays c d s h = by_front c.front h (λ n. h) (λ r. by_result r.key (λ key. ask_as-stays c d r.head key s h) (λ fault. h))

follow_with-stays : {all : Bool} {o : Frame} (c : Client) (r : Reply) (x : Instance) (s : State) → Stays all o s → Stays all o (follow_with c r x s)
unfolding follow_with
follow_with-stays c r x s h = swept-stays _ (leave-stays _ _ (on_client-stays c.number _ s h))

follow_row-stays : {all : Bool} {o : Frame} (c : Client) (d : Decision) (key : Bytes) (s : State) → Stays all o s → Stays all o (follow_row c d key s)
unfolding follow_row
follow_row-stays c d key s h = each_of (row s key) h (λ x. follow_with-stays c (reply_by d (Some x.id)) x s h)

follow-stays : {all : Bool} {o : Frame} (c : Client) (d : Decision) (s : State) → Stays all o s → Stays all o (follow c d s)
unfolding follow
follow-stays c d s h = each_of (key_in c.front) h (λ key. follow_row-stays c d (text_of key) s h)

relay-stays : {all : Bool} {o : Frame} (c : Client) (s : State) → Stays all o s → Stays all o (relay c s)
unfolding relay
relay-stays c s h = swept-stays _ (on_client-stays c.number _ s h)

mark_row_of-stays : {all : Bool} {o : Frame} (key : Bytes) (s : State) → Stays all o s → Stays all o (mark_row_of key s)
unfolding mark_row_of
mark_row_of-stays key s h = each_of (row s key) h (λ x. mark_row-stays x.id s h)

enter_row-stays : {all : Bool} {o : Frame} (c : Client) (d : Decision) (s : State) → Stays all o s → Stays all o (enter_row c d s)
unfolding enter_row
enter_row-stays c d s h = when (is_for_memory d) h (each_of (key_in c.front) h (λ key. mark_row_of-stays (text_of key) _ (enter-stays (text_of key) false s h)))

decided_by-stays : {all : Bool} {o : Frame} (c : Client) (d : Decision) (s : State) → Stays all o s → Stays all o (decided_by c d s)
unfolding decided_by
decided_by-stays c (Refuse status) s h = refuse-stays c status s h
decided_by-stays c Pass s h = ask_origin-stays c Pass s h
decided_by-stays c Fetch s h = ask_origin-stays c Fetch s h
decided_by-stays c Validate s h = ask_origin-stays c Validate s h
decided_by-stays c Relay s h = relay-stays c s h
decided_by-stays c (Hit from to) s h = follow-stays c (Hit from to) s h
decided_by-stays c (Part from to) s h = follow-stays c (Part from to) s h
decided_by-stays c Head s h = follow-stays c Head s h
decided_by-stays c NotModified s h = follow-stays c NotModified s h
decided_by-stays c Unsatisfiable s h = follow-stays c Unsatisfiable s h

pub decided-stays : {all : Bool} {o : Frame} (c : Client) (d : Decision) (s : State) → Stays all o s → Stays all o (decided c d s)
unfolding decided
decided-stays c d s h = decided_by-stays c d _ (enter_row-stays c d s h)

-- ---- followers

fill_with-stays : {all : Bool} {o : Frame} (e : Exchange) (c : Client) (s : State) → Stays all o s → Stays all o (fill_with e c s)
unfolding fill_with
fill_with-stays e c s h = when (fits e.text) (begin_exchange-stays e s h) (on_client-stays c.number _ s h)

fill_span-stays : {all : Bool} {o : Frame} (c : Client) (n : Next) (span : ℕ × ℕ) (s : State) → Stays all o s → Stays all o (fill_span c n span s)
unfolding fill_span
fill_span-stays c n span s h = by_front c.front h (λ m. h) (λ r. by_result r.key (λ key. fill_with-stays (filling_exchange s c r.head key n span) c s h) (λ fault. h))

fill_next-stays : {all : Bool} {o : Frame} (c : Client) (n : Next) (s : State) → Stays all o s → Stays all o (fill_next c n s)
unfolding fill_next
fill_next-stays c n s h = each_of (need_of s n) h (λ span. fill_span-stays c n span s h)

fill_for-stays : {all : Bool} {o : Frame} (c : Client) (s : State) → Stays all o s → Stays all o (fill_for c s)
unfolding fill_for
fill_for-stays c s h = when (is_trying c.course) (each_of (next_of s c) h (λ n. fill_next-stays c n s h)) h

pub fill-stays : {all : Bool} {o : Frame} (s : State) → Stays all o s → Stays all o (fill s)
unfolding fill
fill-stays s h = when s.is_stopped h (each_client-stays fill_for (λ c t ht. fill_for-stays c t ht) _ s h)

pub give_up_asks-stays : {all : Bool} {o : Frame} (s : State) → Stays all o s → Stays all o (give_up_asks s)
unfolding give_up_asks
give_up_asks-stays s h = stays (frame_of h)

drop_on-stays : {all : Bool} {o : Frame} (k : Conn) (s : State) → Stays all o s → Stays all o (drop_on k s)
unfolding drop_on
drop_on-stays k s h = each_of (front_of_line s k) h (λ e. when (is_unseen s k e) (close_conn-stays false k _ (end_exchange-stays e.number s h)) h)

pub drop_unseen-stays : {all : Bool} {o : Frame} (s : State) → Stays all o s → Stays all o (drop_unseen s)
unfolding drop_unseen
drop_unseen-stays s h = each_conn-stays drop_on (λ k t ht. drop_on-stays k t ht) _ s h
