-- What an origin sends leaves clients at their requests: heads, bodies, ends.
use Rattle.std.proofs.Common.{◌≡◌, refl, ℕ, zero, suc, ◌-◌, ◌≤◌, Bool, true, false, ◌==◌, ◌&&◌, ◌||◌, List, [], ◌∷◌, ◌++◌, drop, length, Option, Some, None, length-drop, zero-le, arith}
use Rattle.std.specs.List.{list_any}
use Rattle.pp_framing.specs.Body.{Outcome, Done, Going, Bad}
use Rattle.pp_framing.specs.Framing.{rule_of}
use Rattle.pp_framing.specs.Rules.{body_of}
use Rattle.pp_framing.specs.declared.body.BodyRule.{BodyRule}
use Rattle.pp_fresh.specs.declared.aging.Times.{Times}
use Rattle.pp_head.specs.Read.{Read, Whole, TooLong, Bad as NoHead, More}
use Rattle.pp_head.specs.Response.{Response, response_at}
use Rattle.pp_objects.specs.Kept.{kept_of}
use Rattle.pp_pass.specs.Pipe.{Pipe, finished}
use Rattle.pp_pipe.specs.Front.{is_interim}
use Rattle.pp_target.specs.Key.{Key, text_of}
use Rattle.pp_text.specs.Bytes.{is_empty}
use Rattle.pp_valid.specs.declared.version.Version.{Version}
use Rattle.pp_law.specs.Connections.{conn, exchange, is_for, front_of_line, on_conn, attempts_of, without_shared_row, end_exchange, close_conn}
use Rattle.pp_law.specs.Lists.{Bytes, is_some_with}
use Rattle.pp_law.specs.OwnHeads.{key_of, is_asked_by, tell, use_body, drop_answer, useless, times_for, renewed, renew, settle_on, renew_row, may_refresh, settle_known, known_version, settle, may_join, names_version, settle_unchanged, unchanged, is_of_another, forbids_sharing, not_shared, not_modified, clears_row, cleared_by, is_private_part, is_widened, relay_head, other_head, other_part, own_head, is_bound, lacks_next, count_elsewhere, part_head, filling_head, version_in, is_wrong_head, note_own, note_sent, join, joined_one, join_bound}
use Rattle.pp_law.specs.Passing.{pour}
use Rattle.pp_law.specs.Responses.{skipping, skip_body, rested, close_this, may_go_on, finish, bad_response, bad_head, by_aim, asks_head, answer_with, end_if_empty, begin_answer, answer_for, head_came, Piece, is_early, with_unread, head_piece, deliver, payload_of, body_piece_of, body_piece, next_piece, got, is_whole_at_end, finish_first, ended, bring_row, is_readable}
use Rattle.pp_law.specs.Stages.{on_passed, bound_of}
use Rattle.pp_law.specs.State.{State, Answer, Body, Brought, Client, Conn, Exchange, Instance, Bound}
use Rattle.pp_law.specs.Table.{row, instance}
use Rattle.pp_law.specs.ThroughHeads.{invalidates, key_named, is_same_host, clear_named, clear_each, places_named, invalidated, disproves, reads, disproved, through_head}
use Rattle.pp_laws_served.proofs.Cases.{by_aim_of, by_outcome, by_result, each_of, when}
use Rattle.pp_laws_served.proofs.Heed.{Still, Heeds, as_it_was, clients_changed, facts_of, heeds}
use Rattle.pp_laws_served.proofs.HeedAsks.{close_conn-heeds, end_exchange-heeds, fail-heeds, lose_attempt-heeds, on_client_of-heeds, on_conn-heeds, on_exchange-heeds, on_passed-heeds, without_shared_row-by}
use Rattle.pp_laws_served.proofs.HeedRows.{clear-heeds, enter-heeds, make_row-heeds, mark_row-heeds, note_use-heeds, on_instance-heeds}

-- ---- what is told

pub tell-heeds : {o : State} (e : Exchange) (brought : Brought) (s : State) → Heeds o s → Heeds o (tell e brought s)
unfolding tell
tell-heeds {o} e brought s h = heeds (clients_changed o s (is_asked_by e) (λ c. record c { brought = brought }) (λ c is. as_it_was _ c refl refl refl (λ is. is) refl refl) (facts_of h))

use_body-heeds : {o : State} (e : Exchange) (body : Body) (s : State) → Heeds o s → Heeds o (use_body e body s)
unfolding use_body
use_body-heeds e body s h = on_exchange-heeds e.number _ s h

drop_answer-heeds : {o : State} (e : Exchange) (s : State) → Heeds o s → Heeds o (drop_answer e s)
unfolding drop_answer
drop_answer-heeds e s h = tell-heeds e _ _ (use_body-heeds e _ s h)

useless-heeds : {o : State} (e : Exchange) (s : State) → Heeds o s → Heeds o (useless e s)
unfolding useless
useless-heeds e s h = lose_attempt-heeds e _ (drop_answer-heeds e s h)

-- ---- a response with a version

renew-heeds : {o : State} (x : Instance) (head : Response) (times : Times) (s : State) → Heeds o s → Heeds o (renew x head times s)
unfolding renew
renew-heeds x head times s h = mark_row-heeds x.id _ (on_instance-heeds x.id (renewed head times) s h)

renew_row-heeds : {o : State} (e : Exchange) (head : Response) (s : State) → Heeds o s → Heeds o (renew_row e head s)
unfolding renew_row
renew_row-heeds e head s h = each_of (row s (key_of e)) h (λ x. renew-heeds x head (times_for e head s) s h)

bring_row-heeds : {o : State} (e : Exchange) (head : Response) (s : State) → Heeds o s → Heeds o (bring_row e head s)
unfolding bring_row
bring_row-heeds e head s h = when (is_readable e head) (enter-heeds (key_of e) true s h) h

settle_on-heeds : {o : State} (e : Exchange) (head : Response) (v : Version) (s : State) → Heeds o s → Heeds o (settle_on e head v s)
unfolding settle_on
settle_on-heeds e head v s h = each_of (row s (key_of e)) h (λ x. tell-heeds e _ _ (use_body-heeds e _ s h))

settle_known-heeds : {o : State} (e : Exchange) (head : Response) (v : Version) (s : State) → Heeds o s → Heeds o (settle_known e head v s)
unfolding settle_known
settle_known-heeds e head v s h = when (may_refresh e head s) (settle_on-heeds e head v _ (renew_row-heeds e head s h)) (useless-heeds e s h)

settle-heeds : {o : State} (e : Exchange) (head : Response) (v : Version) (s : State) → Heeds o s → Heeds o (settle e head v s)
unfolding settle
settle-heeds e head v s h =
    when (is_some_with (may_join e head v) (known_version s (key_of e))) (settle_known-heeds e head v s h)
    (settle_on-heeds e head v _ (make_row-heeds (key_of e) v (kept_of head.fields (times_for e head s)) (times_for e head s) s h))

-- ---- 304, and a response without a version

settle_unchanged-heeds : {o : State} (e : Exchange) (s : State) → Heeds o s → Heeds o (settle_unchanged e s)
unfolding settle_unchanged
settle_unchanged-heeds e s h = each_of (row s (key_of e)) h (λ x. tell-heeds e _ _ (use_body-heeds e _ s h))

unchanged-heeds : {o : State} (e : Exchange) (head : Response) (s : State) → Heeds o s → Heeds o (unchanged e head s)
unfolding unchanged
unchanged-heeds e head s h = when (is_some_with (names_version e) (known_version s (key_of e)) && may_refresh e head s) (settle_unchanged-heeds e _ (renew_row-heeds e head s h)) (useless-heeds e s h)

not_shared-heeds : {o : State} (e : Exchange) (s : State) → Heeds o s → Heeds o (not_shared e s)
unfolding not_shared
not_shared-heeds e s h =
    on_client_of-heeds e (without_shared_row (attempts_of e)) _ (λ c. without_shared_row-by (attempts_of e) c) (drop_answer-heeds e _ (clear-heeds (key_of e) s h))

not_modified-heeds : {o : State} (e : Exchange) (head : Response) (s : State) → Heeds o s → Heeds o (not_modified e head s)
unfolding not_modified
not_modified-heeds e head s h =
    when (forbids_sharing head) (not_shared-heeds e s h) (when (is_of_another head s (key_of e)) (useless-heeds e _ (clear-heeds (key_of e) s h)) (unchanged-heeds e head s h))

cleared_by-heeds : {o : State} (head : Response) (e : Exchange) (s : State) → Heeds o s → Heeds o (cleared_by head e s)
unfolding cleared_by
cleared_by-heeds head e s h = when (clears_row head) (clear-heeds (key_of e) s h) h

relay_head-heeds : {o : State} (e : Exchange) (head : Response) (rule : BodyRule) (s : State) → Heeds o s → Heeds o (relay_head e head rule s)
unfolding relay_head
relay_head-heeds e head rule s h = tell-heeds e _ _ (use_body-heeds e _ s h)

other_head-heeds : {o : State} (e : Exchange) (head : Response) (rule : BodyRule) (s : State) → Heeds o s → Heeds o (other_head e head rule s)
unfolding other_head
other_head-heeds e head rule s h = when (is_widened e head) (tell-heeds e _ _ (use_body-heeds e _ _ (cleared_by-heeds head e s h))) (relay_head-heeds e head rule _ (cleared_by-heeds head e s h))

other_part-heeds : {o : State} (e : Exchange) (head : Response) (rule : BodyRule) (s : State) → Heeds o s → Heeds o (other_part e head rule s)
unfolding other_part
other_part-heeds e head rule s h =
    when (is_private_part head) (not_shared-heeds e s h) (when (clears_row head) (relay_head-heeds e head rule _ (cleared_by-heeds head e s h)) (useless-heeds e s h))

own_head-heeds : {o : State} (e : Exchange) (head : Response) (rule : BodyRule) (s : State) → Heeds o s → Heeds o (own_head e head rule s)
unfolding own_head
own_head-heeds e head rule s h = each_of (version_in e head) (when (head.status == 304) (not_modified-heeds e head s h) (other_head-heeds e head rule s h)) (λ v. settle-heeds e head v s h)

count_elsewhere-heeds : {o : State} (e : Exchange) (s : State) → Heeds o s → Heeds o (count_elsewhere e s)
unfolding count_elsewhere
count_elsewhere-heeds e s h = when (is_some_with is_bound (exchange s e.number) && list_any (λ c. is_for e c && lacks_next s c) s.clients) (lose_attempt-heeds e s h) h

part_head-heeds : {o : State} (e : Exchange) (head : Response) (rule : BodyRule) (s : State) → Heeds o s → Heeds o (part_head e head rule s)
unfolding part_head
part_head-heeds e head rule s h = each_of (version_in e head) (when (head.status == 304) (not_modified-heeds e head s h) (other_part-heeds e head rule s h)) (λ v. settle-heeds e head v s h)

filling_head-heeds : {o : State} (e : Exchange) (head : Response) (rule : BodyRule) (s : State) → Heeds o s → Heeds o (filling_head e head rule s)
unfolding filling_head
filling_head-heeds e head rule s h = count_elsewhere-heeds e _ (part_head-heeds e head rule s h)

-- ---- a response that is passed

clear_named-heeds : {o : State} (key : Key) (text : Bytes) (s : State) → Heeds o s → Heeds o (clear_named key text s)
unfolding clear_named
clear_named-heeds key text s h = each_of (key_named key text) h (λ named. when (is_same_host named key) (clear-heeds (text_of named) s h) h)

clear_each-heeds : {o : State} (key : Key) (texts : List Bytes) (s : State) → Heeds o s → Heeds o (clear_each key texts s)
unfolding clear_each
clear_each-heeds key [] s h = h
clear_each-heeds key (text ∷ texts) s h = clear_each-heeds key texts _ (clear_named-heeds key text s h)

invalidated-heeds : {o : State} (e : Exchange) (head : Response) (s : State) → Heeds o s → Heeds o (invalidated e head s)
unfolding invalidated
invalidated-heeds e head s h = when (invalidates e head) (clear_each-heeds e.key (places_named head) _ (clear-heeds (key_of e) s h)) h

disproved-heeds : {o : State} (e : Exchange) (head : Response) (s : State) → Heeds o s → Heeds o (disproved e head s)
unfolding disproved
disproved-heeds e head s h = when (reads e && is_some_with (disproves head) (known_version s (key_of e))) (clear-heeds (key_of e) s h) h

through_head-heeds : {o : State} (e : Exchange) (head : Response) (rule : BodyRule) (s : State) → Heeds o s → Heeds o (through_head e head rule s)
unfolding through_head
through_head-heeds e head rule s h = relay_head-heeds e head rule _ (disproved-heeds e head _ (invalidated-heeds e head s h))

pub by_aim-heeds : {o : State} (e : Exchange) (head : Response) (rule : BodyRule) (s : State) → Heeds o s → Heeds o (by_aim e head rule s)
unfolding by_aim
by_aim-heeds e head rule s h = by_aim_of e.aim (through_head-heeds e head rule s h) (own_head-heeds e head rule s h) (λ v from to. filling_head-heeds e head rule s h)

-- ---- ends

pub pour-heeds : {o : State} (e : Exchange) (f : Pipe → Pipe) (s : State) → Heeds o s → Heeds o (pour e f s)
unfolding pour
pour-heeds e f s h = on_client_of-heeds e (on_passed (λ p. record p { pipe = f p.pipe })) s (on_passed-heeds (λ p. record p { pipe = f p.pipe })) h

pub fewer : (n : ℕ) (bytes : Bytes) → length (drop n bytes) ≤ length bytes
fewer n bytes = let e : length (drop n bytes) ≡ length bytes - n = length-drop n bytes in omega arith

pub skipping-heeds : (c : Client) → Still (skipping c) c
skipping-heeds c = record { number = refl; front = refl; hung = refl; closing = λ is. is; heard = fewer c.body_left c.heard; left = λ le. zero-le }

skip_body-heeds : {o : State} (e : Exchange) (s : State) → Heeds o s → Heeds o (skip_body e s)
unfolding skip_body
skip_body-heeds e s h = by_aim_of e.aim (on_client_of-heeds e skipping s skipping-heeds h) h (λ v from to. h)

close_this-heeds : {o : State} (n : ℕ) (s : State) → Heeds o s → Heeds o (close_this n s)
unfolding close_this
close_this-heeds n s h = each_of (conn s n) h (λ k. close_conn-heeds true k s h)

finish-heeds : {o : State} (k : Conn) (e : Exchange) (a : Answer) (s : State) → Heeds o s → Heeds o (finish k e a s)
unfolding finish
finish-heeds {o} k e a s h = when (may_go_on e a.head) done (close_this-heeds k.number _ done)
  where
    done : Heeds o (on_conn k.number (rested a.head) (end_exchange e.number (skip_body e (pour e finished s))))
    done = on_conn-heeds k.number _ _ (end_exchange-heeds e.number _ (skip_body-heeds e _ (pour-heeds e _ s h)))

bad_response-heeds : {o : State} (k : Conn) (s : State) → Heeds o s → Heeds o (bad_response k s)
unfolding bad_response
bad_response-heeds k s h = each_of (front_of_line s k) (close_conn-heeds false k s h) (λ e. close_conn-heeds false k _ (end_exchange-heeds e.number _ (fail-heeds e s h)))

bad_head-heeds : {o : State} (k : Conn) (s : State) → Heeds o s → Heeds o (bad_head k s)
unfolding bad_head
bad_head-heeds k s h = when k.has_brought (each_of (front_of_line s k) (close_conn-heeds false k s h) (λ e. close_conn-heeds false k _ (lose_attempt-heeds e s h))) (bad_response-heeds k s h)

-- ---- heads

end_if_empty-heeds : {o : State} (k : Conn) (e : Exchange) (a : Answer) (s : State) → Heeds o s → Heeds o (end_if_empty k e a s)
unfolding end_if_empty
end_if_empty-heeds k e a s h = by_outcome (body_of a.rule []).outcome (λ rest. finish-heeds k e a s h) h h

begin_answer-heeds : {o : State} (k : Conn) (e : Exchange) (head : Response) (rule : BodyRule) (s : State) → Heeds o s → Heeds o (begin_answer k e head rule s)
unfolding begin_answer
begin_answer-heeds k e head rule s h = end_if_empty-heeds k e (answer_with e head rule) _ (by_aim-heeds e head rule _ (on_conn-heeds k.number _ s h))

answer_for-heeds : {o : State} (k : Conn) (e : Exchange) (head : Response) (s : State) → Heeds o s → Heeds o (answer_for k e head s)
unfolding answer_for
answer_for-heeds k e head s h =
    when (is_wrong_head e head) (bad_head-heeds k s h) (by_result (rule_of (asks_head e) head.status head.fields) (λ rule. begin_answer-heeds k e head rule s h) (λ fault. bad_head-heeds k s h))

head_came-heeds : {o : State} (k : Conn) (head : Response) (s : State) → Heeds o s → Heeds o (head_came k head s)
unfolding head_came
head_came-heeds k head s h = each_of (front_of_line s k) (close_conn-heeds false k s h) (λ e. answer_for-heeds k e head _ (bring_row-heeds e head s h))

-- ---- bytes

piece_when : {o : State} (t : Bool) (p q : Piece) → Heeds o p.state → Heeds o q.state → Heeds o (elim t as (λ c. Piece) [ true ↦ p | false ↦ q ]).state
piece_when true p q hp hq = hp
piece_when false p q hp hq = hq

head_piece_by : {o : State} (k : Conn) (bytes : Bytes) (s : State) (read : Read Response) → Heeds o s
    → Heeds o (elim read as (λ c. Piece) [
      | More ↦ record { state = on_conn k.number (with_unread bytes) s; rest = [] }
      | TooLong ↦ record { state = bad_head k s; rest = [] }
      | NoHead ↦ record { state = bad_head k s; rest = [] }
      | Whole head ↦ elim (is_interim head.status) as (λ c. Piece) [
        | true ↦ record { state = on_conn k.number (with_unread []) s; rest = drop head.length bytes }
        | false ↦ record { state = head_came k head s; rest = drop head.length bytes }
      ]
    ]).state
head_piece_by k bytes s More h = on_conn-heeds k.number _ s h
head_piece_by k bytes s TooLong h = bad_head-heeds k s h
head_piece_by k bytes s NoHead h = bad_head-heeds k s h
head_piece_by k bytes s (Whole head) h = piece_when (is_interim head.status) _ _ (on_conn-heeds k.number _ s h) (head_came-heeds k head s h)

head_piece-heeds : {o : State} (k : Conn) (bytes : Bytes) (s : State) → Heeds o s → Heeds o (head_piece k bytes s).state
head_piece-heeds k bytes s h = piece_when (is_early s k) _ _ (close_conn-heeds true k s h) (head_piece_by k (k.unread ++ bytes) s (response_at (k.unread ++ bytes)) h)

note_own-heeds : {o : State} (e : Exchange) (a : Answer) (at : ℕ) (bytes : Bytes) (s : State) → Heeds o s → Heeds o (note_own e a at bytes s)
unfolding note_own
note_own-heeds e a at bytes s h = when (is_empty bytes) h (heeds (facts_of h))

pub note_sent-heeds : {o : State} (e : Exchange) (a : Answer) (at : ℕ) (bytes : Bytes) (s : State) → Heeds o s → Heeds o (note_sent e a at bytes s)
unfolding note_sent
note_sent-heeds e a at bytes s h = by_aim_of e.aim h (note_own-heeds e a at bytes s h) (λ v from to. note_own-heeds e a at bytes s h)

join-heeds : {o : State} (b : Bound) (bytes : Bytes) (s : State) → Heeds o s → Heeds o (join b bytes s)
unfolding join
join-heeds b bytes s h = each_of (joined_one b bytes s) h (λ x. note_use-heeds _ (heeds (facts_of h)))

pub join_bound-heeds : {o : State} (e : Exchange) (bytes : Bytes) (s : State) → Heeds o s → Heeds o (join_bound e bytes s)
unfolding join_bound
join_bound-heeds e bytes s h = each_of (bound_of e) h (λ b. on_exchange-heeds e.number _ _ (join-heeds b bytes s h))

deliver-heeds : {o : State} (e : Exchange) (a : Answer) (at : ℕ) (bytes : Bytes) (s : State) → Heeds o s → Heeds o (deliver e a at bytes s)
unfolding deliver
deliver-heeds e a at bytes s h = pour-heeds e _ _ (join_bound-heeds e bytes _ (note_sent-heeds e a at bytes s h))

body_piece_by : {o : State} (k : Conn) (a : Answer) (e : Exchange) (bytes : Bytes) (t : State) (outcome : Outcome) → Heeds o t
    → Heeds o (elim outcome as (λ c. Piece) [
      | Going ↦ record { state = on_conn k.number (λ i. record i { answer = Some (record a { raw = a.raw ++ bytes }) }) t; rest = [] }
      | Bad ↦ record { state = bad_response k t; rest = [] }
      | Done rest ↦ record { state = finish k e a t; rest = rest }
    ]).state
body_piece_by k a e bytes t Going h = on_conn-heeds k.number _ t h
body_piece_by k a e bytes t Bad h = bad_response-heeds k t h
body_piece_by k a e bytes t (Done rest) h = finish-heeds k e a t h

body_piece-heeds : {o : State} (k : Conn) (a : Answer) (bytes : Bytes) (s : State) → Heeds o s → Heeds o (body_piece k a bytes s).state
body_piece-heeds {o} k a bytes s h = by (front_of_line s k)
  where
    by : (front : Option Exchange) → Heeds o (elim front as (λ c. Piece) [ None ↦ record { state = close_conn false k s; rest = [] } | Some e ↦ body_piece_of k a e bytes s ]).state
    by None = close_conn-heeds false k s h
    by (Some e) = body_piece_by k a e bytes _ (body_of a.rule (a.raw ++ bytes)).outcome (deliver-heeds e a (length (payload_of a)) (drop (length (payload_of a)) (body_of a.rule (a.raw ++ bytes)).payload) s h)

pub next_piece-heeds : {o : State} (k : Conn) (bytes : Bytes) (s : State) → Heeds o s → Heeds o (next_piece k bytes s).state
next_piece-heeds {o} k bytes s h = by k.answer
  where
    by : (answer : Option Answer) → Heeds o (elim answer as (λ c. Piece) [ Some a ↦ body_piece k a bytes s | None ↦ head_piece k bytes s ]).state
    by None = head_piece-heeds k bytes s h
    by (Some a) = body_piece-heeds k a bytes s h

pub got-heeds : {o : State} (more n : ℕ) (bytes : Bytes) (s : State) → Heeds o s → Heeds o (got more n bytes s)
unfolding got
got-heeds zero n bytes s h = h
got-heeds (suc more) n bytes s h =
    each_of (conn s n) h (λ k. when (k.is_closing || is_empty bytes) h (got-heeds more n (next_piece k bytes s).rest (next_piece k bytes s).state (next_piece-heeds k bytes s h)))

finish_first-heeds : {o : State} (k : Conn) (a : Answer) (s : State) → Heeds o s → Heeds o (finish_first k a s)
unfolding finish_first
finish_first-heeds k a s h = each_of (front_of_line s k) h (λ e. finish-heeds k e a s h)

pub ended-heeds : {o : State} (is_clean : Bool) (k : Conn) (s : State) → Heeds o s → Heeds o (ended is_clean k s)
unfolding ended
ended-heeds is_clean k s h =
    each_of k.answer (close_conn-heeds true k s h) (λ a. when (is_clean && is_whole_at_end a) (close_this-heeds k.number _ (finish_first-heeds k a s h)) (close_conn-heeds true k s h))
