-- What an origin sends keeps which rows stand late: heads, bodies, ends.
use Rattle.std.proofs.Common.{◌≡◌, ℕ, Bool, true, false, ◌==◌, ◌&&◌, List, [], ◌∷◌, ◌++◌, bytes_eq, drop, length, not, Option, Some, None, ap, ◌∙◌, refl}
use Rattle.std.specs.List.{list_any}
use Rattle.pp_framing.specs.Body.{Outcome, Done, Going, Bad}
use Rattle.pp_framing.specs.Framing.{rule_of}
use Rattle.pp_framing.specs.Rules.{body_of}
use Rattle.pp_framing.specs.declared.body.BodyRule.{BodyRule}
use Rattle.pp_fresh.specs.declared.aging.Times.{Times}
use Rattle.pp_head.specs.Read.{Read, Whole, TooLong, Bad as NoHead, More}
use Rattle.pp_head.specs.Response.{Response, response_at}
use Rattle.pp_objects.specs.Kept.{kept_of}
use Rattle.pp_pass.specs.Pipe.{Pipe, finished}
use Rattle.pp_pipe.specs.Front.{is_interim}
use Rattle.pp_target.specs.Key.{Key, text_of}
use Rattle.pp_text.specs.Bytes.{is_empty}
use Rattle.pp_valid.specs.declared.version.Version.{Version}
use Rattle.pp_law.specs.Connections.{conn, exchange, is_for, front_of_line, on_conn, attempts_of, without_shared_row, end_exchange, close_conn}
use Rattle.pp_law.specs.Lists.{Bytes, is_some_with}
use Rattle.pp_law.specs.OwnHeads.{key_of, tell, use_body, drop_answer, useless, times_for, renewed, renew, settle_on, renew_row, may_refresh, settle_known, known_version, settle, may_join, names_version, settle_unchanged, unchanged, is_of_another, forbids_sharing, not_shared, not_modified, clears_row, cleared_by, is_private_part, is_widened, relay_head, other_head, other_part, own_head, is_bound, lacks_next, count_elsewhere, part_head, filling_head, version_in, is_wrong_head, note_own, note_sent, join, joined_one, join_bound}
use Rattle.pp_law.specs.Passing.{pour}
use Rattle.pp_law.specs.Responses.{skipping, skip_body, rested, close_this, may_go_on, finish, bad_response, bad_head, by_aim, asks_head, answer_with, end_if_empty, begin_answer, answer_for, head_came, Piece, is_early, with_unread, head_piece, deliver, payload_of, body_piece_of, body_piece, next_piece, is_whole_at_end, finish_first, ended, bring_row, is_readable}
use Rattle.pp_law.specs.Stages.{on_passed, bound_of}
use Rattle.pp_law.specs.State.{State, Answer, Body, Brought, Conn, Exchange, Instance, Bound}
use Rattle.pp_law.specs.Table.{is_instance, is_row_of, on_instance, row, instance}
use Rattle.pp_laws.specs.Runs.{IsIn}
use Rattle.pp_laws.proofs.Lists.{Changed, in_change, in_find, other, same, the_one}
use Rattle.pp_laws.proofs.Sound.{instance_id}
use Rattle.pp_laws.proofs.Tests.{same_bytes, same_number, second_holds}
use Rattle.pp_law.specs.ThroughHeads.{invalidates, key_named, is_same_host, clear_named, clear_each, places_named, invalidated, disproves, reads, disproved, through_head}
use Rattle.pp_rests_law.proofs.LateAsks.{close_conn-keeps, end_exchange-keeps, fail-keeps, lose_attempt-keeps, on_client_of-keeps, on_conn-keeps, on_exchange-keeps}
use Rattle.pp_rests_law.proofs.LateCases.{by_aim_of, by_outcome, by_result, each_of, each_so, when}
use Rattle.pp_rests_law.proofs.LateRows.{clear-keeps, enter-keeps, make_row-keeps, mark_row-keeps, note_use-keeps, on_instance-keeps}
use Rattle.pp_rests_law.proofs.LateView.{Holds, KeepsRow, Keys, MayCome, facts_of, holds, may_old}

-- ---- what is told

pub tell-keeps : {late : Keys} (e : Exchange) (brought : Brought) (s : State) → Holds late s → Holds late (tell e brought s)
unfolding tell
tell-keeps e brought s h = holds (facts_of h)

use_body-keeps : {late : Keys} (e : Exchange) (body : Body) (s : State) → Holds late s → Holds late (use_body e body s)
unfolding use_body
use_body-keeps e body s h = on_exchange-keeps e.number _ s h

drop_answer-keeps : {late : Keys} (e : Exchange) (s : State) → Holds late s → Holds late (drop_answer e s)
unfolding drop_answer
drop_answer-keeps e s h = tell-keeps e _ _ (use_body-keeps e _ s h)

useless-keeps : {late : Keys} (e : Exchange) (s : State) → Holds late s → Holds late (useless e s)
unfolding useless
useless-keeps e s h = lose_attempt-keeps e _ (drop_answer-keeps e s h)

-- ---- a response with a version

-- the row of its key comes last
renewed_keeps : (head : Response) (times : Times) → KeepsRow (renewed head times)
renewed_keeps head times = record { id = λ x. refl; key = λ x. refl; is_new = λ x. refl; row = λ x is. is }

renew-keeps : {late : Keys} (x : Instance) (key : Bytes) (head : Response) (times : Times) (s : State) → IsIn x s.instances → x.key ≡ key → MayCome late false key → Holds late s → Holds late (renew x head times s)
unfolding renew on_instance
renew-keeps {late} x key head times s there is may h = mark_row-keeps x.id key _ same_key may (on_instance-keeps x.id (renewed head times) s (renewed_keeps head times) h)
  where
    one : (y : Instance) → IsIn y s.instances → is_instance x.id y ≡ true → y.key ≡ key
    one y i hit = ap (λ (z : Instance). z.key) (the_one instance_id s.instances y x (facts_of h).own.differ i there (same_number y.id x.id hit)) ∙ is

    same_key : (y : Instance) → IsIn y (on_instance x.id (renewed head times) s).instances → is_instance x.id y ≡ true → y.key ≡ key
    same_key y i hit = by (in_change (is_instance x.id) (renewed head times) y s.instances i)
      where
        by : Changed (is_instance x.id) (renewed head times) s.instances y → y.key ≡ key
        by (same j isnt) = one y j hit
        by (other z j was eq) = ap (λ (u : Instance). u.key) eq ∙ one z j was

renew_row-keeps : {late : Keys} (e : Exchange) (head : Response) (s : State) → MayCome late false (key_of e) → Holds late s → Holds late (renew_row e head s)
unfolding renew_row
renew_row-keeps e head s may h =
    each_so (row s (key_of e)) (λ none. h)
    (λ x found. let w : IsIn x s.instances × (is_row_of (key_of e) x ≡ true) = in_find (is_row_of (key_of e)) x s.instances found in
    renew-keeps x (key_of e) head (times_for e head s) s w.0 (same_bytes x.key (key_of e) (second_holds (not x.is_retired) (bytes_eq x.key (key_of e)) w.1)) may h)

bring_row-keeps : {late : Keys} (e : Exchange) (head : Response) (s : State) → MayCome late true (key_of e) → Holds late s → Holds late (bring_row e head s)
unfolding bring_row
bring_row-keeps e head s may h = when (is_readable e head) (enter-keeps (key_of e) true s may h) h

settle_on-keeps : {late : Keys} (e : Exchange) (head : Response) (v : Version) (s : State) → Holds late s → Holds late (settle_on e head v s)
unfolding settle_on
settle_on-keeps e head v s h = each_of (row s (key_of e)) h (λ x. tell-keeps e _ _ (use_body-keeps e _ s h))

settle_known-keeps : {late : Keys} (e : Exchange) (head : Response) (v : Version) (s : State) → MayCome late false (key_of e) → Holds late s → Holds late (settle_known e head v s)
unfolding settle_known
settle_known-keeps e head v s may h = when (may_refresh e head s) (settle_on-keeps e head v _ (renew_row-keeps e head s may h)) (useless-keeps e s h)

settle-keeps : {late : Keys} (e : Exchange) (head : Response) (v : Version) (s : State) → MayCome late true (key_of e) → Holds late s → Holds late (settle e head v s)
unfolding settle
settle-keeps {late} e head v s may h =
    when (is_some_with (may_join e head v) (known_version s (key_of e))) (settle_known-keeps e head v s (may_old late (key_of e) may) h)
    (settle_on-keeps e head v _ (make_row-keeps (key_of e) v (kept_of head.fields (times_for e head s)) (times_for e head s) s may h))

-- ---- 304, and a response without a version

settle_unchanged-keeps : {late : Keys} (e : Exchange) (s : State) → Holds late s → Holds late (settle_unchanged e s)
unfolding settle_unchanged
settle_unchanged-keeps e s h = each_of (row s (key_of e)) h (λ x. tell-keeps e _ _ (use_body-keeps e _ s h))

unchanged-keeps : {late : Keys} (e : Exchange) (head : Response) (s : State) → MayCome late false (key_of e) → Holds late s → Holds late (unchanged e head s)
unfolding unchanged
unchanged-keeps e head s may h =
    when (is_some_with (names_version e) (known_version s (key_of e)) && may_refresh e head s) (settle_unchanged-keeps e _ (renew_row-keeps e head s may h)) (useless-keeps e s h)

not_shared-keeps : {late : Keys} (e : Exchange) (s : State) → Holds late s → Holds late (not_shared e s)
unfolding not_shared
not_shared-keeps e s h =
    on_client_of-keeps e (without_shared_row (attempts_of e)) _ (drop_answer-keeps e _ (clear-keeps (key_of e) s h))

not_modified-keeps : {late : Keys} (e : Exchange) (head : Response) (s : State) → MayCome late false (key_of e) → Holds late s → Holds late (not_modified e head s)
unfolding not_modified
not_modified-keeps e head s may h =
    when (forbids_sharing head) (not_shared-keeps e s h) (when (is_of_another head s (key_of e)) (useless-keeps e _ (clear-keeps (key_of e) s h)) (unchanged-keeps e head s may h))

cleared_by-keeps : {late : Keys} (head : Response) (e : Exchange) (s : State) → Holds late s → Holds late (cleared_by head e s)
unfolding cleared_by
cleared_by-keeps head e s h = when (clears_row head) (clear-keeps (key_of e) s h) h

relay_head-keeps : {late : Keys} (e : Exchange) (head : Response) (rule : BodyRule) (s : State) → Holds late s → Holds late (relay_head e head rule s)
unfolding relay_head
relay_head-keeps e head rule s h = tell-keeps e _ _ (use_body-keeps e _ s h)

other_head-keeps : {late : Keys} (e : Exchange) (head : Response) (rule : BodyRule) (s : State) → Holds late s → Holds late (other_head e head rule s)
unfolding other_head
other_head-keeps e head rule s h = when (is_widened e head) (tell-keeps e _ _ (use_body-keeps e _ _ (cleared_by-keeps head e s h))) (relay_head-keeps e head rule _ (cleared_by-keeps head e s h))

other_part-keeps : {late : Keys} (e : Exchange) (head : Response) (rule : BodyRule) (s : State) → Holds late s → Holds late (other_part e head rule s)
unfolding other_part
other_part-keeps e head rule s h =
    when (is_private_part head) (not_shared-keeps e s h) (when (clears_row head) (relay_head-keeps e head rule _ (cleared_by-keeps head e s h)) (useless-keeps e s h))

own_head-keeps : {late : Keys} (e : Exchange) (head : Response) (rule : BodyRule) (s : State) → MayCome late true (key_of e) → Holds late s → Holds late (own_head e head rule s)
unfolding own_head
own_head-keeps {late} e head rule s may h = each_of (version_in e head) (when (head.status == 304) (not_modified-keeps e head s (may_old late (key_of e) may) h) (other_head-keeps e head rule s h)) (λ v. settle-keeps e head v s may h)

count_elsewhere-keeps : {late : Keys} (e : Exchange) (s : State) → Holds late s → Holds late (count_elsewhere e s)
unfolding count_elsewhere
count_elsewhere-keeps e s h = when (is_some_with is_bound (exchange s e.number) && list_any (λ c. is_for e c && lacks_next s c) s.clients) (lose_attempt-keeps e s h) h

part_head-keeps : {late : Keys} (e : Exchange) (head : Response) (rule : BodyRule) (s : State) → MayCome late true (key_of e) → Holds late s → Holds late (part_head e head rule s)
unfolding part_head
part_head-keeps {late} e head rule s may h = each_of (version_in e head) (when (head.status == 304) (not_modified-keeps e head s (may_old late (key_of e) may) h) (other_part-keeps e head rule s h)) (λ v. settle-keeps e head v s may h)

filling_head-keeps : {late : Keys} (e : Exchange) (head : Response) (rule : BodyRule) (s : State) → MayCome late true (key_of e) → Holds late s → Holds late (filling_head e head rule s)
unfolding filling_head
filling_head-keeps e head rule s may h = count_elsewhere-keeps e _ (part_head-keeps e head rule s may h)

-- ---- a response that is passed

clear_named-keeps : {late : Keys} (key : Key) (text : Bytes) (s : State) → Holds late s → Holds late (clear_named key text s)
unfolding clear_named
clear_named-keeps key text s h = each_of (key_named key text) h (λ named. when (is_same_host named key) (clear-keeps (text_of named) s h) h)

clear_each-keeps : {late : Keys} (key : Key) (texts : List Bytes) (s : State) → Holds late s → Holds late (clear_each key texts s)
unfolding clear_each
clear_each-keeps key [] s h = h
clear_each-keeps key (text ∷ texts) s h = clear_each-keeps key texts _ (clear_named-keeps key text s h)

invalidated-keeps : {late : Keys} (e : Exchange) (head : Response) (s : State) → Holds late s → Holds late (invalidated e head s)
unfolding invalidated
invalidated-keeps e head s h = when (invalidates e head) (clear_each-keeps e.key (places_named head) _ (clear-keeps (key_of e) s h)) h

disproved-keeps : {late : Keys} (e : Exchange) (head : Response) (s : State) → Holds late s → Holds late (disproved e head s)
unfolding disproved
disproved-keeps e head s h = when (reads e && is_some_with (disproves head) (known_version s (key_of e))) (clear-keeps (key_of e) s h) h

through_head-keeps : {late : Keys} (e : Exchange) (head : Response) (rule : BodyRule) (s : State) → Holds late s → Holds late (through_head e head rule s)
unfolding through_head
through_head-keeps e head rule s h = relay_head-keeps e head rule _ (disproved-keeps e head _ (invalidated-keeps e head s h))

pub by_aim-keeps : {late : Keys} (e : Exchange) (head : Response) (rule : BodyRule) (s : State) → MayCome late true (key_of e) → Holds late s → Holds late (by_aim e head rule s)
unfolding by_aim
by_aim-keeps e head rule s may h = by_aim_of e.aim (through_head-keeps e head rule s h) (own_head-keeps e head rule s may h) (λ v from to. filling_head-keeps e head rule s may h)

-- ---- ends

pub pour-keeps : {late : Keys} (e : Exchange) (f : Pipe → Pipe) (s : State) → Holds late s → Holds late (pour e f s)
unfolding pour
pour-keeps e f s h = on_client_of-keeps e (on_passed (λ p. record p { pipe = f p.pipe })) s h

skip_body-keeps : {late : Keys} (e : Exchange) (s : State) → Holds late s → Holds late (skip_body e s)
unfolding skip_body
skip_body-keeps e s h = by_aim_of e.aim (on_client_of-keeps e skipping s h) h (λ v from to. h)

close_this-keeps : {late : Keys} (n : ℕ) (s : State) → Holds late s → Holds late (close_this n s)
unfolding close_this
close_this-keeps n s h = each_of (conn s n) h (λ k. close_conn-keeps true k s h)

finish-keeps : {late : Keys} (k : Conn) (e : Exchange) (a : Answer) (s : State) → Holds late s → Holds late (finish k e a s)
unfolding finish
finish-keeps {late} k e a s h = when (may_go_on e a.head) done (close_this-keeps k.number _ done)
  where
    done : Holds late (on_conn k.number (rested a.head) (end_exchange e.number (skip_body e (pour e finished s))))
    done = on_conn-keeps k.number _ _ (end_exchange-keeps e.number _ (skip_body-keeps e _ (pour-keeps e _ s h)))

bad_response-keeps : {late : Keys} (k : Conn) (s : State) → Holds late s → Holds late (bad_response k s)
unfolding bad_response
bad_response-keeps k s h = each_of (front_of_line s k) (close_conn-keeps false k s h) (λ e. close_conn-keeps false k _ (end_exchange-keeps e.number _ (fail-keeps e s h)))

bad_head-keeps : {late : Keys} (k : Conn) (s : State) → Holds late s → Holds late (bad_head k s)
unfolding bad_head
bad_head-keeps k s h = when k.has_brought (each_of (front_of_line s k) (close_conn-keeps false k s h) (λ e. close_conn-keeps false k _ (lose_attempt-keeps e s h))) (bad_response-keeps k s h)

-- ---- heads

end_if_empty-keeps : {late : Keys} (k : Conn) (e : Exchange) (a : Answer) (s : State) → Holds late s → Holds late (end_if_empty k e a s)
unfolding end_if_empty
end_if_empty-keeps k e a s h = by_outcome (body_of a.rule []).outcome (λ rest. finish-keeps k e a s h) h h

begin_answer-keeps : {late : Keys} (k : Conn) (e : Exchange) (head : Response) (rule : BodyRule) (s : State) → MayCome late true (key_of e) → Holds late s → Holds late (begin_answer k e head rule s)
unfolding begin_answer
begin_answer-keeps k e head rule s may h = end_if_empty-keeps k e (answer_with e head rule) _ (by_aim-keeps e head rule _ may (on_conn-keeps k.number _ s h))

answer_for-keeps : {late : Keys} (k : Conn) (e : Exchange) (head : Response) (s : State) → MayCome late true (key_of e) → Holds late s → Holds late (answer_for k e head s)
unfolding answer_for
answer_for-keeps k e head s may h =
    when (is_wrong_head e head) (bad_head-keeps k s h) (by_result (rule_of (asks_head e) head.status head.fields) (λ rule. begin_answer-keeps k e head rule s may h) (λ fault. bad_head-keeps k s h))

head_came-keeps : {late : Keys} (k : Conn) (head : Response) (s : State) → ((e : Exchange) → front_of_line s k ≡ Some e → MayCome late true (key_of e)) → Holds late s → Holds late (head_came k head s)
unfolding head_came
head_came-keeps k head s may h = each_so (front_of_line s k) (λ none. close_conn-keeps false k s h) (λ e is. answer_for-keeps k e head _ (may e is) (bring_row-keeps e head s (may e is) h))

-- ---- bytes

piece_when : {late : Keys} (t : Bool) (p q : Piece) → Holds late p.state → Holds late q.state → Holds late (elim t as (λ c. Piece) [ true ↦ p | false ↦ q ]).state
piece_when true p q hp hq = hp
piece_when false p q hp hq = hq

head_piece_by : {late : Keys} (k : Conn) (bytes : Bytes) (s : State) (read : Read Response) → ((e : Exchange) → front_of_line s k ≡ Some e → MayCome late true (key_of e)) → Holds late s
    → Holds late (elim read as (λ c. Piece) [
      | More ↦ record { state = on_conn k.number (with_unread bytes) s; rest = [] }
      | TooLong ↦ record { state = bad_head k s; rest = [] }
      | NoHead ↦ record { state = bad_head k s; rest = [] }
      | Whole head ↦ elim (is_interim head.status) as (λ c. Piece) [
        | true ↦ record { state = on_conn k.number (with_unread []) s; rest = drop head.length bytes }
        | false ↦ record { state = head_came k head s; rest = drop head.length bytes }
      ]
    ]).state
head_piece_by k bytes s More may h = on_conn-keeps k.number _ s h
head_piece_by k bytes s TooLong may h = bad_head-keeps k s h
head_piece_by k bytes s NoHead may h = bad_head-keeps k s h
head_piece_by k bytes s (Whole head) may h = piece_when (is_interim head.status) _ _ (on_conn-keeps k.number _ s h) (head_came-keeps k head s may h)

head_piece-keeps : {late : Keys} (k : Conn) (bytes : Bytes) (s : State) → ((e : Exchange) → front_of_line s k ≡ Some e → MayCome late true (key_of e)) → Holds late s → Holds late (head_piece k bytes s).state
head_piece-keeps k bytes s may h = piece_when (is_early s k) _ _ (close_conn-keeps true k s h) (head_piece_by k (k.unread ++ bytes) s (response_at (k.unread ++ bytes)) may h)

note_own-keeps : {late : Keys} (e : Exchange) (a : Answer) (at : ℕ) (bytes : Bytes) (s : State) → Holds late s → Holds late (note_own e a at bytes s)
unfolding note_own
note_own-keeps e a at bytes s h = when (is_empty bytes) h (holds (facts_of h))

pub note_sent-keeps : {late : Keys} (e : Exchange) (a : Answer) (at : ℕ) (bytes : Bytes) (s : State) → Holds late s → Holds late (note_sent e a at bytes s)
unfolding note_sent
note_sent-keeps e a at bytes s h = by_aim_of e.aim h (note_own-keeps e a at bytes s h) (λ v from to. note_own-keeps e a at bytes s h)

join-keeps : {late : Keys} (b : Bound) (bytes : Bytes) (s : State) → Holds late s → Holds late (join b bytes s)
unfolding join
join-keeps b bytes s h = each_of (joined_one b bytes s) h (λ x. note_use-keeps _ (holds (facts_of h)))

pub join_bound-keeps : {late : Keys} (e : Exchange) (bytes : Bytes) (s : State) → Holds late s → Holds late (join_bound e bytes s)
unfolding join_bound
join_bound-keeps e bytes s h = each_of (bound_of e) h (λ b. on_exchange-keeps e.number _ _ (join-keeps b bytes s h))

deliver-keeps : {late : Keys} (e : Exchange) (a : Answer) (at : ℕ) (bytes : Bytes) (s : State) → Holds late s → Holds late (deliver e a at bytes s)
unfolding deliver
deliver-keeps e a at bytes s h = pour-keeps e _ _ (join_bound-keeps e bytes _ (note_sent-keeps e a at bytes s h))

body_piece_by : {late : Keys} (k : Conn) (a : Answer) (e : Exchange) (bytes : Bytes) (t : State) (outcome : Outcome) → Holds late t
    → Holds late (elim outcome as (λ c. Piece) [
      | Going ↦ record { state = on_conn k.number (λ i. record i { answer = Some (record a { raw = a.raw ++ bytes }) }) t; rest = [] }
      | Bad ↦ record { state = bad_response k t; rest = [] }
      | Done rest ↦ record { state = finish k e a t; rest = rest }
    ]).state
body_piece_by k a e bytes t Going h = on_conn-keeps k.number _ t h
body_piece_by k a e bytes t Bad h = bad_response-keeps k t h
body_piece_by k a e bytes t (Done rest) h = finish-keeps k e a t h

body_piece-keeps : {late : Keys} (k : Conn) (a : Answer) (bytes : Bytes) (s : State) → Holds late s → Holds late (body_piece k a bytes s).state
body_piece-keeps {late} k a bytes s h = by (front_of_line s k)
  where
    by : (front : Option Exchange) → Holds late (elim front as (λ c. Piece) [ None ↦ record { state = close_conn false k s; rest = [] } | Some e ↦ body_piece_of k a e bytes s ]).state
    by None = close_conn-keeps false k s h
    by (Some e) = body_piece_by k a e bytes _ (body_of a.rule (a.raw ++ bytes)).outcome (deliver-keeps e a (length (payload_of a)) (drop (length (payload_of a)) (body_of a.rule (a.raw ++ bytes)).payload) s h)

pub next_piece-keeps : {late : Keys} (k : Conn) (bytes : Bytes) (s : State) → ((e : Exchange) → front_of_line s k ≡ Some e → MayCome late true (key_of e)) → Holds late s → Holds late (next_piece k bytes s).state
next_piece-keeps {late} k bytes s may h = by k.answer
  where
    by : (answer : Option Answer) → Holds late (elim answer as (λ c. Piece) [ Some a ↦ body_piece k a bytes s | None ↦ head_piece k bytes s ]).state
    by None = head_piece-keeps k bytes s may h
    by (Some a) = body_piece-keeps k a bytes s h

finish_first-keeps : {late : Keys} (k : Conn) (a : Answer) (s : State) → Holds late s → Holds late (finish_first k a s)
unfolding finish_first
finish_first-keeps k a s h = each_of (front_of_line s k) h (λ e. finish-keeps k e a s h)

pub ended-keeps : {late : Keys} (is_clean : Bool) (k : Conn) (s : State) → Holds late s → Holds late (ended is_clean k s)
unfolding ended
ended-keeps is_clean k s h =
    each_of k.answer (close_conn-keeps true k s h) (λ a. when (is_clean && is_whole_at_end a) (close_this-keeps k.number _ (finish_first-keeps k a s h)) (close_conn-keeps true k s h))
