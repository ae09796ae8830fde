-- What responses bring leaves the numbers of requests; each head makes at most two rows, one that comes in and one that is new.
use Rattle.std.proofs.Common.{refl, ◌+◌, ◌*◌, ◌≤◌, le_refl, arith, ℕ, zero, suc, Bool, true, false, ◌==◌, ◌&&◌, ◌||◌, List, [], ◌∷◌, ◌++◌, drop, length, Option, Some, None}
use Rattle.std.specs.List.{list_any}
use Rattle.pp_framing.specs.Body.{Outcome, Done, Going, Bad}
use Rattle.pp_framing.specs.Framing.{rule_of}
use Rattle.pp_framing.specs.Rules.{body_of}
use Rattle.pp_framing.specs.declared.body.BodyRule.{BodyRule}
use Rattle.pp_fresh.specs.declared.aging.Times.{Times}
use Rattle.pp_head.specs.Read.{Read, Whole, TooLong, Bad as NoHead, More}
use Rattle.pp_head.specs.Response.{Response, response_at}
use Rattle.pp_objects.specs.Kept.{kept_of}
use Rattle.pp_pass.specs.Pipe.{Pipe, finished}
use Rattle.pp_pipe.specs.Front.{is_interim}
use Rattle.pp_target.specs.Key.{Key, text_of}
use Rattle.pp_text.specs.Bytes.{is_empty}
use Rattle.pp_valid.specs.declared.version.Version.{Version}
use Rattle.pp_law.specs.Connections.{attempts_of, without_shared_row, conn, exchange, is_for, front_of_line, on_conn, end_exchange}
use Rattle.pp_law.specs.Lists.{Bytes, is_some_with}
use Rattle.pp_law.specs.OwnHeads.{is_asked_by, key_of, tell, use_body, drop_answer, useless, times_for, renewed, renew, settle_on, renew_row, known_version, may_refresh, settle_known, names_version, may_join, settle, settle_unchanged, unchanged, forbids_sharing, is_of_another, not_shared, not_modified, clears_row, cleared_by, is_private_part, is_widened, relay_head, other_head, other_part, own_head, is_bound, lacks_next, count_elsewhere, part_head, filling_head, is_wrong_head, version_in, note_own, note_sent, join, joined_one, join_bound}
use Rattle.pp_law.specs.Passing.{pour, poured}
use Rattle.pp_law.specs.Stages.{on_passed}
use Rattle.pp_law.specs.Responses.{skipping, skip_body, close_this, rested, may_go_on, finish, bad_response, bad_head, by_aim, asks_head, answer_with, answered_by, end_if_empty, begin_answer, answer_for, head_came, Piece, is_early, with_unread, head_piece_of, head_piece, deliver, payload_of, body_piece_of, body_piece, next_piece, got, is_whole_at_end, finish_first, ended, bring_row, is_readable}
use Rattle.pp_law.specs.State.{State, Brought, Body, Conn, Exchange, Instance, Answer, Bound}
use Rattle.pp_law.specs.Table.{row, instance}
use Rattle.pp_law.specs.ThroughHeads.{invalidates, key_named, is_same_host, clear_named, clear_each, places_named, invalidated, disproves, reads, disproved, through_head}
use Rattle.pp_laws_sides.proofs.Few.{Few, changed_few, few, facts_of, raise, when, each_of, by_aim_of, by_outcome, by_result}
use Rattle.pp_laws_sides.proofs.Indexes.{index_at, on_passed-index, without_shared_row-index}
use Rattle.pp_laws_sides.proofs.FewTable.{one_more, on_instance-few, clear-few, mark_row-few, make_row-few, enter-few, note_use-few, on_conn-few, on_exchange-few, on_client_of-few, lose_attempt-few, fail-few, end_exchange-few, close_conn-few}
use Rattle.pp_laws.proofs.Lists.{changed_at}

-- ---- heads

two_more : {m l : ℕ} (s : State) → Few m l s → Few (m + 1 + 1) l s
two_more s h = one_more s (one_more s h)

tell-few : {m l : ℕ} (e : Exchange) (brought : Brought) (s : State) → Few m l s → Few m l (tell e brought s)
unfolding tell
tell-few e brought s h = few (changed_few (changed_at (is_asked_by e) (λ c. record c { brought = brought })) s.clients (λ c. index_at (λ d. record d { brought = brought }) c (is_asked_by e c) refl) (facts_of h))

use_body-few : {m l : ℕ} (e : Exchange) (body : Body) (s : State) → Few m l s → Few m l (use_body e body s)
unfolding use_body
use_body-few e body s h = on_exchange-few e.number _ s h

drop_answer-few : {m l : ℕ} (e : Exchange) (s : State) → Few m l s → Few m l (drop_answer e s)
unfolding drop_answer
drop_answer-few e s h = tell-few e _ _ (use_body-few e _ s h)

useless-few : {m l : ℕ} (e : Exchange) (s : State) → Few m l s → Few m l (useless e s)
unfolding useless
useless-few e s h = lose_attempt-few e _ (drop_answer-few e s h)

renew-few : {m l : ℕ} (x : Instance) (head : Response) (times : Times) (s : State) → Few m l s → Few m l (renew x head times s)
unfolding renew
renew-few x head times s h = mark_row-few x.id _ (on_instance-few x.id (renewed head times) s h)

settle_on-few : {m l : ℕ} (e : Exchange) (head : Response) (v : Version) (s : State) → Few m l s → Few m l (settle_on e head v s)
unfolding settle_on
settle_on-few e head v s h = each_of (row s (key_of e)) h (λ x. tell-few e _ _ (use_body-few e _ s h))

renew_row-few : {m l : ℕ} (e : Exchange) (head : Response) (s : State) → Few m l s → Few m l (renew_row e head s)
unfolding renew_row
renew_row-few e head s h = each_of (row s (key_of e)) h (λ x. renew-few x head (times_for e head s) s h)

bring_row-few : {m l : ℕ} (e : Exchange) (head : Response) (s : State) → Few m l s → Few (m + 1) l (bring_row e head s)
unfolding bring_row
bring_row-few e head s h = when (is_readable e head) (enter-few (key_of e) true s h) (one_more s h)

settle_known-few : {m l : ℕ} (e : Exchange) (head : Response) (v : Version) (s : State) → Few m l s → Few m l (settle_known e head v s)
unfolding settle_known
settle_known-few e head v s h = when (may_refresh e head s) (settle_on-few e head v _ (renew_row-few e head s h)) (useless-few e s h)

settle-few : {m l : ℕ} (e : Exchange) (head : Response) (v : Version) (s : State) → Few m l s → Few (m + 1) l (settle e head v s)
unfolding settle
settle-few e head v s h = when (is_some_with (may_join e head v) (known_version s (key_of e))) (one_more _ (settle_known-few e head v s h))
    (settle_on-few e head v _ (make_row-few (key_of e) v (kept_of head.fields (times_for e head s)) (times_for e head s) s h))

settle_unchanged-few : {m l : ℕ} (e : Exchange) (s : State) → Few m l s → Few m l (settle_unchanged e s)
unfolding settle_unchanged
settle_unchanged-few e s h = each_of (row s (key_of e)) h (λ x. tell-few e _ _ (use_body-few e _ s h))

unchanged-few : {m l : ℕ} (e : Exchange) (head : Response) (s : State) → Few m l s → Few m l (unchanged e head s)
unfolding unchanged
unchanged-few e head s h = when (is_some_with (names_version e) (known_version s (key_of e)) && may_refresh e head s) (settle_unchanged-few e _ (renew_row-few e head s h)) (useless-few e s h)

not_shared-few : {m l : ℕ} (e : Exchange) (s : State) → Few m l s → Few m l (not_shared e s)
unfolding not_shared
not_shared-few e s h = on_client_of-few e (without_shared_row (attempts_of e)) _ (without_shared_row-index (attempts_of e)) (drop_answer-few e _ (clear-few (key_of e) s h))

not_modified-few : {m l : ℕ} (e : Exchange) (head : Response) (s : State) → Few m l s → Few m l (not_modified e head s)
unfolding not_modified
not_modified-few e head s h = when (forbids_sharing head) (not_shared-few e s h)
    (when (is_of_another head s (key_of e)) (useless-few e _ (clear-few (key_of e) s h)) (unchanged-few e head s h))

cleared_by-few : {m l : ℕ} (head : Response) (e : Exchange) (s : State) → Few m l s → Few m l (cleared_by head e s)
unfolding cleared_by
cleared_by-few head e s h = when (clears_row head) (clear-few (key_of e) s h) h

relay_head-few : {m l : ℕ} (e : Exchange) (head : Response) (rule : BodyRule) (s : State) → Few m l s → Few m l (relay_head e head rule s)
unfolding relay_head
relay_head-few e head rule s h = tell-few e _ _ (use_body-few e _ s h)

other_head-few : {m l : ℕ} (e : Exchange) (head : Response) (rule : BodyRule) (s : State) → Few m l s → Few m l (other_head e head rule s)
unfolding other_head
other_head-few e head rule s h = when (is_widened e head) (tell-few e _ _ (use_body-few e _ _ (cleared_by-few head e s h))) (relay_head-few e head rule _ (cleared_by-few head e s h))

other_part-few : {m l : ℕ} (e : Exchange) (head : Response) (rule : BodyRule) (s : State) → Few m l s → Few m l (other_part e head rule s)
unfolding other_part
other_part-few e head rule s h = when (is_private_part head) (not_shared-few e s h)
    (when (clears_row head) (relay_head-few e head rule _ (cleared_by-few head e s h)) (useless-few e s h))

own_head-few : {m l : ℕ} (e : Exchange) (head : Response) (rule : BodyRule) (s : State) → Few m l s → Few (m + 1) l (own_head e head rule s)
unfolding own_head
own_head-few e head rule s h = each_of (version_in e head) (one_more _ (when (head.status == 304) (not_modified-few e head s h) (other_head-few e head rule s h))) (λ v. settle-few e head v s h)

part_head-few : {m l : ℕ} (e : Exchange) (head : Response) (rule : BodyRule) (s : State) → Few m l s → Few (m + 1) l (part_head e head rule s)
unfolding part_head
part_head-few e head rule s h = each_of (version_in e head) (one_more _ (when (head.status == 304) (not_modified-few e head s h) (other_part-few e head rule s h))) (λ v. settle-few e head v s h)

count_elsewhere-few : {m l : ℕ} (e : Exchange) (s : State) → Few m l s → Few m l (count_elsewhere e s)
unfolding count_elsewhere
count_elsewhere-few e s h = when (is_some_with is_bound (exchange s e.number) && list_any (λ c. is_for e c && lacks_next s c) s.clients) (lose_attempt-few e s h) h

filling_head-few : {m l : ℕ} (e : Exchange) (head : Response) (rule : BodyRule) (s : State) → Few m l s → Few (m + 1) l (filling_head e head rule s)
unfolding filling_head
filling_head-few e head rule s h = count_elsewhere-few e _ (part_head-few e head rule s h)

clear_named-few : {m l : ℕ} (key : Key) (text : Bytes) (s : State) → Few m l s → Few m l (clear_named key text s)
unfolding clear_named
clear_named-few key text s h = each_of (key_named key text) h (λ named. when (is_same_host named key) (clear-few (text_of named) s h) h)

clear_each-few : {m l : ℕ} (key : Key) (texts : List Bytes) (s : State) → Few m l s → Few m l (clear_each key texts s)
unfolding clear_each
clear_each-few key [] s h = h
clear_each-few key (text ∷ texts) s h = clear_each-few key texts _ (clear_named-few key text s h)

invalidated-few : {m l : ℕ} (e : Exchange) (head : Response) (s : State) → Few m l s → Few m l (invalidated e head s)
unfolding invalidated
invalidated-few e head s h = when (invalidates e head) (clear_each-few e.key (places_named head) _ (clear-few (key_of e) s h)) h

disproved-few : {m l : ℕ} (e : Exchange) (head : Response) (s : State) → Few m l s → Few m l (disproved e head s)
unfolding disproved
disproved-few e head s h = when (reads e && is_some_with (disproves head) (known_version s (key_of e))) (clear-few (key_of e) s h) h

through_head-few : {m l : ℕ} (e : Exchange) (head : Response) (rule : BodyRule) (s : State) → Few m l s → Few m l (through_head e head rule s)
unfolding through_head
through_head-few e head rule s h = relay_head-few e head rule _ (disproved-few e head _ (invalidated-few e head s h))

-- ---- responses

pour-few : {m l : ℕ} (e : Exchange) (f : Pipe → Pipe) (s : State) → Few m l s → Few m l (pour e f s)
unfolding pour
pour-few e f s h = on_client_of-few e (on_passed (λ p. record p { pipe = f p.pipe })) s (on_passed-index (λ p. record p { pipe = f p.pipe })) h

skip_body-few : {m l : ℕ} (e : Exchange) (s : State) → Few m l s → Few m l (skip_body e s)
unfolding skip_body
skip_body-few e s h = by_aim_of e.aim (on_client_of-few e skipping s (λ c. refl) h) h (λ v from to. h)

close_this-few : {m l : ℕ} (n : ℕ) (s : State) → Few m l s → Few m l (close_this n s)
unfolding close_this
close_this-few n s h = each_of (conn s n) h (λ k. close_conn-few true k s h)

finish-few : {m l : ℕ} (k : Conn) (e : Exchange) (a : Answer) (s : State) → Few m l s → Few m l (finish k e a s)
unfolding finish
finish-few {m} {l} k e a s h = when (may_go_on e a.head) done (close_this-few k.number _ done)
  where
    done : Few m l (on_conn k.number (rested a.head) (end_exchange e.number (skip_body e (pour e finished s))))
    done = on_conn-few k.number _ _ (end_exchange-few e.number _ (skip_body-few e _ (pour-few e finished s h)))

bad_response-few : {m l : ℕ} (k : Conn) (s : State) → Few m l s → Few m l (bad_response k s)
unfolding bad_response
bad_response-few k s h = each_of (front_of_line s k) (close_conn-few false k s h) (λ e. close_conn-few false k _ (end_exchange-few e.number _ (fail-few e s h)))

bad_head-few : {m l : ℕ} (k : Conn) (s : State) → Few m l s → Few m l (bad_head k s)
unfolding bad_head
bad_head-few k s h = when k.has_brought (each_of (front_of_line s k) (close_conn-few false k s h) (λ e. close_conn-few false k _ (lose_attempt-few e s h))) (bad_response-few k s h)

by_aim-few : {m l : ℕ} (e : Exchange) (head : Response) (rule : BodyRule) (s : State) → Few m l s → Few (m + 1) l (by_aim e head rule s)
unfolding by_aim
by_aim-few e head rule s h = by_aim_of e.aim (one_more _ (through_head-few e head rule s h)) (own_head-few e head rule s h) (λ v from to. filling_head-few e head rule s h)

end_if_empty-few : {m l : ℕ} (k : Conn) (e : Exchange) (a : Answer) (s : State) → Few m l s → Few m l (end_if_empty k e a s)
unfolding end_if_empty
end_if_empty-few k e a s h = by_outcome (body_of a.rule []).outcome (λ rest. finish-few k e a s h) h h

begin_answer-few : {m l : ℕ} (k : Conn) (e : Exchange) (head : Response) (rule : BodyRule) (s : State) → Few m l s → Few (m + 1) l (begin_answer k e head rule s)
unfolding begin_answer
begin_answer-few k e head rule s h = end_if_empty-few k e (answer_with e head rule) _ (by_aim-few e head rule _ (on_conn-few k.number (answered_by (answer_with e head rule)) s h))

answer_for-few : {m l : ℕ} (k : Conn) (e : Exchange) (head : Response) (s : State) → Few m l s → Few (m + 1) l (answer_for k e head s)
unfolding answer_for
answer_for-few k e head s h = when (is_wrong_head e head) (one_more _ (bad_head-few k s h))
    (by_result (rule_of (asks_head e) head.status head.fields) (λ rule. begin_answer-few k e head rule s h) (λ fault. one_more _ (bad_head-few k s h)))

head_came-few : {m l : ℕ} (k : Conn) (head : Response) (s : State) → Few m l s → Few (m + 1 + 1) l (head_came k head s)
unfolding head_came
head_came-few k head s h = each_of (front_of_line s k) (two_more _ (close_conn-few false k s h)) (λ e. answer_for-few k e head _ (bring_row-few e head s h))

-- ---- bytes

note_own-few : {m l : ℕ} (e : Exchange) (a : Answer) (at : ℕ) (bytes : Bytes) (s : State) → Few m l s → Few m l (note_own e a at bytes s)
unfolding note_own
note_own-few e a at bytes s h = when (is_empty bytes) h (few (facts_of h))

note_sent-few : {m l : ℕ} (e : Exchange) (a : Answer) (at : ℕ) (bytes : Bytes) (s : State) → Few m l s → Few m l (note_sent e a at bytes s)
unfolding note_sent
note_sent-few e a at bytes s h = by_aim_of e.aim h (note_own-few e a at bytes s h) (λ v from to. note_own-few e a at bytes s h)

join-few : {m l : ℕ} (b : Bound) (bytes : Bytes) (s : State) → Few m l s → Few m l (join b bytes s)
unfolding join
join-few b bytes s h = each_of (joined_one b bytes s) h (λ x. note_use-few _ (few (facts_of h)))

join_bound-few : {m l : ℕ} (e : Exchange) (bytes : Bytes) (s : State) → Few m l s → Few m l (join_bound e bytes s)
unfolding join_bound
join_bound-few e bytes s h = each_of _ h (λ b. on_exchange-few e.number _ _ (join-few b bytes s h))

deliver-few : {m l : ℕ} (e : Exchange) (a : Answer) (at : ℕ) (bytes : Bytes) (s : State) → Few m l s → Few m l (deliver e a at bytes s)
unfolding deliver
deliver-few e a at bytes s h = pour-few e (poured bytes) _ (join_bound-few e bytes _ (note_sent-few e a at bytes s h))

-- ---- pieces

piece_when : {m l : ℕ} (t : Bool) (p q : Piece) → Few m l p.state → Few m l q.state → Few m l (elim t as (λ c. Piece) [ true ↦ p | false ↦ q ]).state
piece_when true p q hp hq = hp
piece_when false p q hp hq = hq

piece_each : {A : Type 0} {m l : ℕ} (x : Option A) (p : Piece) (q : A → Piece) → Few m l p.state → ((a : A) → Few m l (q a).state) → Few m l (elim x as (λ c. Piece) [ None ↦ p | Some a ↦ q a ]).state
piece_each None p q hp hq = hp
piece_each (Some a) p q hp hq = hq a

piece_by_outcome : {m l : ℕ} (w : Outcome) (p q : Piece) (r : Bytes → Piece) → Few m l p.state → Few m l q.state → ((rest : Bytes) → Few m l (r rest).state) → Few m l (elim w as (λ c. Piece) [ Going ↦ p | Bad ↦ q | Done rest ↦ r rest ]).state
piece_by_outcome Going p q r hp hq hr = hp
piece_by_outcome Bad p q r hp hq hr = hq
piece_by_outcome (Done rest) p q r hp hq hr = hr rest

piece_by_read : {m l : ℕ} (w : Read Response) (p q u : Piece) (r : Response → Piece) → Few m l p.state → Few m l q.state → Few m l u.state → ((head : Response) → Few m l (r head).state)
    → Few m l (elim w as (λ c. Piece) [ More ↦ p | TooLong ↦ q | NoHead ↦ u | Whole head ↦ r head ]).state
piece_by_read More p q u r hp hq hu hr = hp
piece_by_read TooLong p q u r hp hq hu hr = hq
piece_by_read NoHead p q u r hp hq hu hr = hu
piece_by_read (Whole head) p q u r hp hq hu hr = hr head

head_piece_of-few : {m l : ℕ} (k : Conn) (bytes : Bytes) (s : State) → Few m l s → Few (m + 1 + 1) l (head_piece_of k bytes s).state
head_piece_of-few k bytes s h = piece_by_read (response_at bytes) _ _ _ _ (two_more _ (on_conn-few k.number (with_unread bytes) s h)) (two_more _ (bad_head-few k s h)) (two_more _ (bad_head-few k s h))
    (λ head. piece_when (is_interim head.status) _ _ (two_more _ (on_conn-few k.number (with_unread []) s h)) (head_came-few k head s h))

head_piece-few : {m l : ℕ} (k : Conn) (bytes : Bytes) (s : State) → Few m l s → Few (m + 1 + 1) l (head_piece k bytes s).state
head_piece-few k bytes s h = piece_when (is_early s k) _ _ (two_more _ (close_conn-few true k s h)) (head_piece_of-few k (k.unread ++ bytes) s h)

body_piece_of-few : {m l : ℕ} (k : Conn) (a : Answer) (e : Exchange) (bytes : Bytes) (s : State) → Few m l s → Few m l (body_piece_of k a e bytes s).state
body_piece_of-few {m} {l} k a e bytes s h = piece_by_outcome (body_of a.rule (a.raw ++ bytes)).outcome _ _ _ (on_conn-few k.number _ _ there) (bad_response-few k _ there) (λ rest. finish-few k e a _ there)
  where
    there : Few m l (deliver e a (length (payload_of a)) (drop (length (payload_of a)) (body_of a.rule (a.raw ++ bytes)).payload) s)
    there = deliver-few e a (length (payload_of a)) (drop (length (payload_of a)) (body_of a.rule (a.raw ++ bytes)).payload) s h

body_piece-few : {m l : ℕ} (k : Conn) (a : Answer) (bytes : Bytes) (s : State) → Few m l s → Few m l (body_piece k a bytes s).state
body_piece-few k a bytes s h = piece_each (front_of_line s k) _ _ (close_conn-few false k s h) (λ e. body_piece_of-few k a e bytes s h)

next_piece-few : {m l : ℕ} (k : Conn) (bytes : Bytes) (s : State) → Few m l s → Few (m + 1 + 1) l (next_piece k bytes s).state
next_piece-few k bytes s h = piece_each k.answer _ _ (head_piece-few k bytes s h) (λ a. two_more _ (body_piece-few k a bytes s h))

pub got-few : {m l : ℕ} (most n : ℕ) (bytes : Bytes) (s : State) → Few m l s → Few (m + 2 * most) l (got most n bytes s)
unfolding got
got-few {m} {l} zero n bytes s h = raise (m + 2 * zero) l s (omega arith) (le_refl l) h
got-few {m} {l} (suc more) n bytes s h =
    each_of (conn s n) (still s h)
    (λ k. when (k.is_closing || is_empty bytes) (still s h) (raise (m + 2 * suc more) l _ (sums m more) (le_refl l) (got-few {m = m + 1 + 1} {l = l} more n _ _ (next_piece-few k bytes s h))))
  where
    still : (t : State) → Few m l t → Few (m + 2 * suc more) l t
    still t was = raise (m + 2 * suc more) l t (omega arith) (le_refl l) was

    sums : (a b : ℕ) → a + 1 + 1 + 2 * b ≤ a + 2 * suc b
    sums a b = omega arith

finish_first-few : {m l : ℕ} (k : Conn) (a : Answer) (s : State) → Few m l s → Few m l (finish_first k a s)
unfolding finish_first
finish_first-few k a s h = each_of (front_of_line s k) h (λ e. finish-few k e a s h)

pub ended-few : {m l : ℕ} (is_clean : Bool) (k : Conn) (s : State) → Few m l s → Few m l (ended is_clean k s)
unfolding ended
ended-few is_clean k s h = each_of k.answer (close_conn-few true k s h) (λ a. when (is_clean && is_whole_at_end a) (close_this-few k.number _ (finish_first-few k a s h)) (close_conn-few true k s h))
