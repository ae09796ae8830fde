-- What requests and responses bring leaves the rest of a state as it is.
use Rattle.std.proofs.Common.{ℕ, zero, suc, Bool, true, false, ◌==◌, ◌&&◌, ◌||◌, List, [], ◌∷◌, ◌++◌, drop, length, Option, Some, None}
use Rattle.std.specs.List.{list_any}
use Rattle.pp_framing.specs.Body.{Outcome, Done, Going, Bad}
use Rattle.pp_framing.specs.Framing.{rule_of}
use Rattle.pp_framing.specs.Rules.{body_of}
use Rattle.pp_framing.specs.declared.body.BodyRule.{BodyRule}
use Rattle.pp_fresh.specs.declared.aging.Times.{Times}
use Rattle.pp_head.specs.Read.{Read, Whole, TooLong, Bad as NoHead, More}
use Rattle.pp_head.specs.Response.{Response, response_at}
use Rattle.pp_objects.specs.Kept.{kept_of}
use Rattle.pp_pass.specs.Pipe.{Pipe, finished}
use Rattle.pp_pipe.specs.Front.{is_interim}
use Rattle.pp_target.specs.Key.{Key, text_of}
use Rattle.pp_text.specs.Bytes.{is_empty}
use Rattle.pp_valid.specs.declared.version.Version.{Version}
use Rattle.pp_law.specs.Connections.{conn, exchange, is_for, front_of_line, on_conn, end_exchange}
use Rattle.pp_law.specs.Lists.{Bytes, is_some_with}
use Rattle.pp_law.specs.OwnHeads.{key_of, tell, use_body, drop_answer, useless, times_for, renewed, renew, settle_on, renew_row, known_version, may_refresh, settle_known, names_version, may_join, settle, settle_unchanged, unchanged, forbids_sharing, is_of_another, not_shared, not_modified, clears_row, cleared_by, is_private_part, is_widened, relay_head, other_head, other_part, own_head, is_bound, lacks_next, count_elsewhere, part_head, filling_head, is_wrong_head, version_in, note_own, note_sent, join, join_bound}
use Rattle.pp_law.specs.Passing.{pour, poured}
use Rattle.pp_law.specs.Responses.{skip_body, close_this, rested, may_go_on, finish, bad_response, bad_head, by_aim, asks_head, answer_with, answered_by, end_if_empty, begin_answer, answer_for, head_came, Piece, is_early, with_unread, head_piece_of, head_piece, deliver, payload_of, body_piece_of, body_piece, next_piece, got, is_whole_at_end, finish_first, ended, bring_row, is_readable}
use Rattle.pp_law.specs.State.{State, Brought, Body, Conn, Exchange, Instance, Answer, Bound}
use Rattle.pp_law.specs.Table.{row, instance}
use Rattle.pp_law.specs.ThroughHeads.{invalidates, key_named, is_same_host, clear_named, clear_each, places_named, invalidated, disproves, reads, disproved, through_head}
use Rattle.pp_obeys.proofs.Frames.{Frame, Stays, stays, frame_of, when, each_of, by_aim_of, by_outcome, by_result}
use Rattle.pp_obeys.proofs.StaysTable.{on_instance-stays, clear-stays, mark_row-stays, make_row-stays, enter-stays, note_use-stays, on_conn-stays, on_exchange-stays, on_client_of-stays, lose_attempt-stays, fail-stays, end_exchange-stays, close_conn-stays}

-- ---- heads

tell-stays : {o : Frame} (e : Exchange) (brought : Brought) (s : State) → Stays false o s → Stays false o (tell e brought s)
unfolding tell
tell-stays e brought s h = stays (frame_of h)

use_body-stays : {o : Frame} (e : Exchange) (body : Body) (s : State) → Stays false o s → Stays false o (use_body e body s)
unfolding use_body
use_body-stays e body s h = on_exchange-stays e.number _ s h

drop_answer-stays : {o : Frame} (e : Exchange) (s : State) → Stays false o s → Stays false o (drop_answer e s)
unfolding drop_answer
drop_answer-stays e s h = tell-stays e _ _ (use_body-stays e _ s h)

useless-stays : {o : Frame} (e : Exchange) (s : State) → Stays false o s → Stays false o (useless e s)
unfolding useless
useless-stays e s h = lose_attempt-stays e _ (drop_answer-stays e s h)

renew-stays : {o : Frame} (x : Instance) (head : Response) (times : Times) (s : State) → Stays false o s → Stays false o (renew x head times s)
unfolding renew
renew-stays x head times s h = mark_row-stays x.id _ (on_instance-stays x.id (renewed head times) s h)

settle_on-stays : {o : Frame} (e : Exchange) (head : Response) (v : Version) (s : State) → Stays false o s → Stays false o (settle_on e head v s)
unfolding settle_on
settle_on-stays e head v s h = each_of (row s (key_of e)) h (λ x. tell-stays e _ _ (use_body-stays e _ s h))

renew_row-stays : {o : Frame} (e : Exchange) (head : Response) (s : State) → Stays false o s → Stays false o (renew_row e head s)
unfolding renew_row
renew_row-stays e head s h = each_of (row s (key_of e)) h (λ x. renew-stays x head (times_for e head s) s h)

bring_row-stays : {o : Frame} (e : Exchange) (head : Response) (s : State) → Stays false o s → Stays false o (bring_row e head s)
unfolding bring_row
bring_row-stays e head s h = when (is_readable e head) (enter-stays (key_of e) true s h) h

settle_known-stays : {o : Frame} (e : Exchange) (head : Response) (v : Version) (s : State) → Stays false o s → Stays false o (settle_known e head v s)
unfolding settle_known
settle_known-stays e head v s h = when (may_refresh e head s) (settle_on-stays e head v _ (renew_row-stays e head s h)) (useless-stays e s h)

settle-stays : {o : Frame} (e : Exchange) (head : Response) (v : Version) (s : State) → Stays false o s → Stays false o (settle e head v s)
unfolding settle
settle-stays e head v s h = when (is_some_with (may_join e head v) (known_version s (key_of e))) (settle_known-stays e head v s h)
    (settle_on-stays e head v _ (make_row-stays (key_of e) v (kept_of head.fields (times_for e head s)) (times_for e head s) s h))

settle_unchanged-stays : {o : Frame} (e : Exchange) (s : State) → Stays false o s → Stays false o (settle_unchanged e s)
unfolding settle_unchanged
settle_unchanged-stays e s h = each_of (row s (key_of e)) h (λ x. tell-stays e _ _ (use_body-stays e _ s h))

unchanged-stays : {o : Frame} (e : Exchange) (head : Response) (s : State) → Stays false o s → Stays false o (unchanged e head s)
unfolding unchanged
unchanged-stays e head s h = when (is_some_with (names_version e) (known_version s (key_of e)) && may_refresh e head s) (settle_unchanged-stays e _ (renew_row-stays e head s h)) (useless-stays e s h)

not_shared-stays : {o : Frame} (e : Exchange) (s : State) → Stays false o s → Stays false o (not_shared e s)
unfolding not_shared
not_shared-stays e s h = on_client_of-stays e _ _ (drop_answer-stays e _ (clear-stays (key_of e) s h))

not_modified-stays : {o : Frame} (e : Exchange) (head : Response) (s : State) → Stays false o s → Stays false o (not_modified e head s)
unfolding not_modified
not_modified-stays e head s h = when (forbids_sharing head) (not_shared-stays e s h)
    (when (is_of_another head s (key_of e)) (useless-stays e _ (clear-stays (key_of e) s h)) (unchanged-stays e head s h))

cleared_by-stays : {o : Frame} (head : Response) (e : Exchange) (s : State) → Stays false o s → Stays false o (cleared_by head e s)
unfolding cleared_by
cleared_by-stays head e s h = when (clears_row head) (clear-stays (key_of e) s h) h

relay_head-stays : {o : Frame} (e : Exchange) (head : Response) (rule : BodyRule) (s : State) → Stays false o s → Stays false o (relay_head e head rule s)
unfolding relay_head
relay_head-stays e head rule s h = tell-stays e _ _ (use_body-stays e _ s h)

other_head-stays : {o : Frame} (e : Exchange) (head : Response) (rule : BodyRule) (s : State) → Stays false o s → Stays false o (other_head e head rule s)
unfolding other_head
other_head-stays e head rule s h = when (is_widened e head) (tell-stays e _ _ (use_body-stays e _ _ (cleared_by-stays head e s h))) (relay_head-stays e head rule _ (cleared_by-stays head e s h))

other_part-stays : {o : Frame} (e : Exchange) (head : Response) (rule : BodyRule) (s : State) → Stays false o s → Stays false o (other_part e head rule s)
unfolding other_part
other_part-stays e head rule s h = when (is_private_part head) (not_shared-stays e s h)
    (when (clears_row head) (relay_head-stays e head rule _ (cleared_by-stays head e s h)) (useless-stays e s h))

own_head-stays : {o : Frame} (e : Exchange) (head : Response) (rule : BodyRule) (s : State) → Stays false o s → Stays false o (own_head e head rule s)
unfolding own_head
own_head-stays e head rule s h = each_of (version_in e head) (when (head.status == 304) (not_modified-stays e head s h) (other_head-stays e head rule s h)) (λ v. settle-stays e head v s h)

part_head-stays : {o : Frame} (e : Exchange) (head : Response) (rule : BodyRule) (s : State) → Stays false o s → Stays false o (part_head e head rule s)
unfolding part_head
part_head-stays e head rule s h = each_of (version_in e head) (when (head.status == 304) (not_modified-stays e head s h) (other_part-stays e head rule s h)) (λ v. settle-stays e head v s h)

count_elsewhere-stays : {o : Frame} (e : Exchange) (s : State) → Stays false o s → Stays false o (count_elsewhere e s)
unfolding count_elsewhere
count_elsewhere-stays e s h = when (is_some_with is_bound (exchange s e.number) && list_any (λ c. is_for e c && lacks_next s c) s.clients) (lose_attempt-stays e s h) h

filling_head-stays : {o : Frame} (e : Exchange) (head : Response) (rule : BodyRule) (s : State) → Stays false o s → Stays false o (filling_head e head rule s)
unfolding filling_head
filling_head-stays e head rule s h = count_elsewhere-stays e _ (part_head-stays e head rule s h)

clear_named-stays : {o : Frame} (key : Key) (text : Bytes) (s : State) → Stays false o s → Stays false o (clear_named key text s)
unfolding clear_named
clear_named-stays key text s h = each_of (key_named key text) h (λ named. when (is_same_host named key) (clear-stays (text_of named) s h) h)

clear_each-stays : {o : Frame} (key : Key) (texts : List Bytes) (s : State) → Stays false o s → Stays false o (clear_each key texts s)
unfolding clear_each
clear_each-stays key [] s h = h
clear_each-stays key (text ∷ texts) s h = clear_each-stays key texts _ (clear_named-stays key text s h)

invalidated-stays : {o : Frame} (e : Exchange) (head : Response) (s : State) → Stays false o s → Stays false o (invalidated e head s)
unfolding invalidated
invalidated-stays e head s h = when (invalidates e head) (clear_each-stays e.key (places_named head) _ (clear-stays (key_of e) s h)) h

disproved-stays : {o : Frame} (e : Exchange) (head : Response) (s : State) → Stays false o s → Stays false o (disproved e head s)
unfolding disproved
disproved-stays e head s h = when (reads e && is_some_with (disproves head) (known_version s (key_of e))) (clear-stays (key_of e) s h) h

through_head-stays : {o : Frame} (e : Exchange) (head : Response) (rule : BodyRule) (s : State) → Stays false o s → Stays false o (through_head e head rule s)
unfolding through_head
through_head-stays e head rule s h = relay_head-stays e head rule _ (disproved-stays e head _ (invalidated-stays e head s h))

-- ---- responses

pour-stays : {o : Frame} (e : Exchange) (f : Pipe → Pipe) (s : State) → Stays false o s → Stays false o (pour e f s)
unfolding pour
pour-stays e f s h = on_client_of-stays e _ s h

skip_body-stays : {o : Frame} (e : Exchange) (s : State) → Stays false o s → Stays false o (skip_body e s)
unfolding skip_body
skip_body-stays e s h = by_aim_of e.aim (on_client_of-stays e _ s h) h (λ v from to. h)

close_this-stays : {o : Frame} (n : ℕ) (s : State) → Stays false o s → Stays false o (close_this n s)
unfolding close_this
close_this-stays n s h = each_of (conn s n) h (λ k. close_conn-stays true k s h)

finish-stays : {o : Frame} (k : Conn) (e : Exchange) (a : Answer) (s : State) → Stays false o s → Stays false o (finish k e a s)
unfolding finish
finish-stays {o} k e a s h = when (may_go_on e a.head) done (close_this-stays k.number _ done)
  where
    done : Stays false o (on_conn k.number (rested a.head) (end_exchange e.number (skip_body e (pour e finished s))))
    done = on_conn-stays k.number _ _ (end_exchange-stays e.number _ (skip_body-stays e _ (pour-stays e finished s h)))

bad_response-stays : {o : Frame} (k : Conn) (s : State) → Stays false o s → Stays false o (bad_response k s)
unfolding bad_response
bad_response-stays k s h = each_of (front_of_line s k) (close_conn-stays false k s h) (λ e. close_conn-stays false k _ (end_exchange-stays e.number _ (fail-stays e s h)))

bad_head-stays : {o : Frame} (k : Conn) (s : State) → Stays false o s → Stays false o (bad_head k s)
unfolding bad_head
bad_head-stays k s h = when k.has_brought (each_of (front_of_line s k) (close_conn-stays false k s h) (λ e. close_conn-stays false k _ (lose_attempt-stays e s h))) (bad_response-stays k s h)

by_aim-stays : {o : Frame} (e : Exchange) (head : Response) (rule : BodyRule) (s : State) → Stays false o s → Stays false o (by_aim e head rule s)
unfolding by_aim
by_aim-stays e head rule s h = by_aim_of e.aim (through_head-stays e head rule s h) (own_head-stays e head rule s h) (λ v from to. filling_head-stays e head rule s h)

end_if_empty-stays : {o : Frame} (k : Conn) (e : Exchange) (a : Answer) (s : State) → Stays false o s → Stays false o (end_if_empty k e a s)
unfolding end_if_empty
end_if_empty-stays k e a s h = by_outcome (body_of a.rule []).outcome (λ rest. finish-stays k e a s h) h h

begin_answer-stays : {o : Frame} (k : Conn) (e : Exchange) (head : Response) (rule : BodyRule) (s : State) → Stays false o s → Stays false o (begin_answer k e head rule s)
unfolding begin_answer
begin_answer-stays k e head rule s h = end_if_empty-stays k e (answer_with e head rule) _ (by_aim-stays e head rule _ (on_conn-stays k.number (answered_by (answer_with e head rule)) s h))

answer_for-stays : {o : Frame} (k : Conn) (e : Exchange) (head : Response) (s : State) → Stays false o s → Stays false o (answer_for k e head s)
unfolding answer_for
answer_for-stays k e head s h = when (is_wrong_head e head) (bad_head-stays k s h)
    (by_result (rule_of (asks_head e) head.status head.fields) (λ rule. begin_answer-stays k e head rule s h) (λ fault. bad_head-stays k s h))

head_came-stays : {o : Frame} (k : Conn) (head : Response) (s : State) → Stays false o s → Stays false o (head_came k head s)
unfolding head_came
head_came-stays k head s h = each_of (front_of_line s k) (close_conn-stays false k s h) (λ e. answer_for-stays k e head _ (bring_row-stays e head s h))

-- ---- bytes

note_own-stays : {o : Frame} (e : Exchange) (a : Answer) (at : ℕ) (bytes : Bytes) (s : State) → Stays false o s → Stays false o (note_own e a at bytes s)
unfolding note_own
note_own-stays e a at bytes s h = when (is_empty bytes) h (stays (frame_of h))

note_sent-stays : {o : Frame} (e : Exchange) (a : Answer) (at : ℕ) (bytes : Bytes) (s : State) → Stays false o s → Stays false o (note_sent e a at bytes s)
unfolding note_sent
note_sent-stays e a at bytes s h = by_aim_of e.aim h (note_own-stays e a at bytes s h) (λ v from to. note_own-stays e a at bytes s h)

join-stays : {o : Frame} (b : Bound) (bytes : Bytes) (s : State) → Stays false o s → Stays false o (join b bytes s)
unfolding join
join-stays b bytes s h = each_of _ h (λ x. note_use-stays _ (stays (frame_of h)))

join_bound-stays : {o : Frame} (e : Exchange) (bytes : Bytes) (s : State) → Stays false o s → Stays false o (join_bound e bytes s)
unfolding join_bound
join_bound-stays e bytes s h = each_of _ h (λ b. on_exchange-stays e.number _ _ (join-stays b bytes s h))

deliver-stays : {o : Frame} (e : Exchange) (a : Answer) (at : ℕ) (bytes : Bytes) (s : State) → Stays false o s → Stays false o (deliver e a at bytes s)
unfolding deliver
deliver-stays e a at bytes s h = pour-stays e (poured bytes) _ (join_bound-stays e bytes _ (note_sent-stays e a at bytes s h))

-- ---- pieces

piece_when : {o : Frame} (t : Bool) (p q : Piece) → Stays false o p.state → Stays false o q.state → Stays false o (elim t as (λ c. Piece) [ true ↦ p | false ↦ q ]).state
piece_when true p q hp hq = hp
piece_when false p q hp hq = hq

piece_each : {A : Type 0} {o : Frame} (x : Option A) (p : Piece) (q : A → Piece) → Stays false o p.state → ((a : A) → Stays false o (q a).state) → Stays false o (elim x as (λ c. Piece) [ None ↦ p | Some a ↦ q a ]).state
piece_each None p q hp hq = hp
piece_each (Some a) p q hp hq = hq a

piece_by_outcome : {o : Frame} (w : Outcome) (p q : Piece) (r : Bytes → Piece) → Stays false o p.state → Stays false o q.state → ((rest : Bytes) → Stays false o (r rest).state) → Stays false o (elim w as (λ c. Piece) [ Going ↦ p | Bad ↦ q | Done rest ↦ r rest ]).state
piece_by_outcome Going p q r hp hq hr = hp
piece_by_outcome Bad p q r hp hq hr = hq
piece_by_outcome (Done rest) p q r hp hq hr = hr rest

piece_by_read : {o : Frame} (w : Read Response) (p q u : Piece) (r : Response → Piece) → Stays false o p.state → Stays false o q.state → Stays false o u.state → ((head : Response) → Stays false o (r head).state)
    → Stays false o (elim w as (λ c. Piece) [ More ↦ p | TooLong ↦ q | NoHead ↦ u | Whole head ↦ r head ]).state
piece_by_read More p q u r hp hq hu hr = hp
piece_by_read TooLong p q u r hp hq hu hr = hq
piece_by_read NoHead p q u r hp hq hu hr = hu
piece_by_read (Whole head) p q u r hp hq hu hr = hr head

head_piece_of-stays : {o : Frame} (k : Conn) (bytes : Bytes) (s : State) → Stays false o s → Stays false o (head_piece_of k bytes s).state
head_piece_of-stays k bytes s h = piece_by_read (response_at bytes) _ _ _ _ (on_conn-stays k.number (with_unread bytes) s h) (bad_head-stays k s h) (bad_head-stays k s h)
    (λ head. piece_when (is_interim head.status) _ _ (on_conn-stays k.number (with_unread []) s h) (head_came-stays k head s h))

head_piece-stays : {o : Frame} (k : Conn) (bytes : Bytes) (s : State) → Stays false o s → Stays false o (head_piece k bytes s).state
head_piece-stays k bytes s h = piece_when (is_early s k) _ _ (close_conn-stays true k s h) (head_piece_of-stays k (k.unread ++ bytes) s h)

body_piece_of-stays : {o : Frame} (k : Conn) (a : Answer) (e : Exchange) (bytes : Bytes) (s : State) → Stays false o s → Stays false o (body_piece_of k a e bytes s).state
body_piece_of-stays {o} k a e bytes s h = piece_by_outcome (body_of a.rule (a.raw ++ bytes)).outcome _ _ _ (on_conn-stays k.number _ _ there) (bad_response-stays k _ there) (λ rest. finish-stays k e a _ there)
  where
    there : Stays false o (deliver e a (length (payload_of a)) (drop (length (payload_of a)) (body_of a.rule (a.raw ++ bytes)).payload) s)
    there = deliver-stays e a (length (payload_of a)) (drop (length (payload_of a)) (body_of a.rule (a.raw ++ bytes)).payload) s h

body_piece-stays : {o : Frame} (k : Conn) (a : Answer) (bytes : Bytes) (s : State) → Stays false o s → Stays false o (body_piece k a bytes s).state
body_piece-stays k a bytes s h = piece_each (front_of_line s k) _ _ (close_conn-stays false k s h) (λ e. body_piece_of-stays k a e bytes s h)

next_piece-stays : {o : Frame} (k : Conn) (bytes : Bytes) (s : State) → Stays false o s → Stays false o (next_piece k bytes s).state
next_piece-stays k bytes s h = piece_each k.answer _ _ (head_piece-stays k bytes s h) (λ a. body_piece-stays k a bytes s h)

pub got-stays : {o : Frame} (most n : ℕ) (bytes : Bytes) (s : State) → Stays false o s → Stays false o (got most n bytes s)
unfolding got
got-stays zero n bytes s h = h
got-stays (suc more) n bytes s h = each_of (conn s n) h (λ k. when (k.is_closing || is_empty bytes) h (got-stays more n _ _ (next_piece-stays k bytes s h)))

finish_first-stays : {o : Frame} (k : Conn) (a : Answer) (s : State) → Stays false o s → Stays false o (finish_first k a s)
unfolding finish_first
finish_first-stays k a s h = each_of (front_of_line s k) h (λ e. finish-stays k e a s h)

pub ended-stays : {o : Frame} (is_clean : Bool) (k : Conn) (s : State) → Stays false o s → Stays false o (ended is_clean k s)
unfolding ended
ended-stays is_clean k s h = each_of k.answer (close_conn-stays true k s h) (λ a. when (is_clean && is_whole_at_end a) (close_this-stays k.number _ (finish_first-stays k a s h)) (close_conn-stays true k s h))
