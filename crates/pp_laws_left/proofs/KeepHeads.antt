-- What an origin sends leaves the replies that clients are in the midst of: heads, bodies, ends.
use Rattle.std.proofs.Common.{◌≡◌, refl, ℕ, zero, suc, Bool, true, false, ◌==◌, ◌&&◌, ◌||◌, List, [], ◌∷◌, ◌++◌, drop, length, Option, Some, None, not, sym, ◌∙◌}
use Rattle.std.specs.List.{list_any}
use Rattle.pp_framing.specs.Body.{Outcome, Done, Going, Bad}
use Rattle.pp_framing.specs.Framing.{rule_of}
use Rattle.pp_framing.specs.Rules.{body_of}
use Rattle.pp_framing.specs.declared.body.BodyRule.{BodyRule}
use Rattle.pp_fresh.specs.declared.aging.Times.{Times}
use Rattle.pp_head.specs.Read.{Read, Whole, TooLong, Bad as NoHead, More}
use Rattle.pp_head.specs.Response.{Response, response_at}
use Rattle.pp_objects.specs.Kept.{kept_of}
use Rattle.pp_pass.specs.Pipe.{Pipe, finished}
use Rattle.pp_pipe.specs.Front.{is_interim}
use Rattle.pp_target.specs.Key.{Key, text_of}
use Rattle.pp_text.specs.Bytes.{is_empty}
use Rattle.pp_valid.specs.declared.version.Version.{Version}
use Rattle.pp_law.specs.Connections.{conn, exchange, is_for, front_of_line, on_conn, attempts_of, without_shared_row, end_exchange, close_conn}
use Rattle.pp_law.specs.Lists.{Bytes, is_some_with}
use Rattle.pp_law.specs.OwnHeads.{key_of, is_asked_by, tell, use_body, drop_answer, useless, times_for, renewed, renew, settle_on, renew_row, may_refresh, settle_known, known_version, settle, may_join, names_version, settle_unchanged, unchanged, is_of_another, forbids_sharing, not_shared, not_modified, clears_row, cleared_by, is_private_part, is_widened, relay_head, other_head, other_part, own_head, is_bound, lacks_next, count_elsewhere, part_head, filling_head, version_in, is_wrong_head, note_own, note_sent, join, joined_one, join_bound}
use Rattle.pp_law.specs.Passing.{pour}
use Rattle.pp_law.specs.Responses.{skipping, skip_body, rested, close_this, may_go_on, finish, bad_response, bad_head, by_aim, asks_head, answer_with, end_if_empty, begin_answer, answer_for, head_came, Piece, is_early, with_unread, head_piece, deliver, payload_of, body_piece_of, body_piece, next_piece, got, is_whole_at_end, finish_first, ended, bring_row, is_readable}
use Rattle.pp_law.specs.Stages.{is_begun, on_passed, bound_of}
use Rattle.pp_law.specs.State.{State, Answer, Body, Brought, Client, Conn, Exchange, Instance, Bound}
use Rattle.pp_law.specs.Table.{row, instance}
use Rattle.pp_law.specs.ThroughHeads.{invalidates, key_named, is_same_host, clear_named, clear_each, places_named, invalidated, disproves, reads, disproved, through_head}
use Rattle.pp_laws.proofs.Tests.{second_holds}
use Rattle.pp_laws_left.proofs.KeepCases.{by_aim_of, by_outcome, by_result, each_of, when}
use Rattle.pp_laws_left.proofs.Keep.{Kept, Keeps, as_it_was, clients_changed, facts_of, keeps}
use Rattle.pp_laws_left.proofs.KeepAsks.{close_conn-keeps, end_exchange-keeps, fail-keeps, lose_attempt-keeps, on_client_of-keeps, on_conn-keeps, on_exchange-keeps, on_passed-keeps, without_shared_row-by}
use Rattle.pp_laws_left.proofs.KeepRows.{clear-keeps, enter-keeps, make_row-keeps, mark_row-keeps, note_use-keeps, on_instance-keeps}

-- ---- what is told

pub not_so : (t : Bool) → not t ≡ true → t ≡ false
not_so true is = absurd (cc is)
not_so false is = refl

not_begun : (e : Exchange) (c : Client) → is_asked_by e c ≡ true → is_begun c ≡ false
not_begun e c is = not_so (is_begun c) (second_holds (is_for e c) (not (is_begun c)) is)

-- who has no reply yet
told : (brought : Brought) (c : Client) → is_begun c ≡ false → Kept false (record c { brought = brought }) c
told brought c fresh = record {
  number = refl;
  stage = refl;
  interim = refl;
  closing = λ is. is;
  pipe = λ is. absurd (cc is);
  passed = λ begun. let both : false ≡ true = sym fresh ∙ begun in absurd (cc both);
}

pub tell-keeps : {o : State} (e : Exchange) (brought : Brought) (s : State) → Keeps false o s → Keeps false o (tell e brought s)
unfolding tell
tell-keeps {o} e brought s h = keeps (clients_changed o s (is_asked_by e) (λ c. record c { brought = brought }) (λ c is. told brought c (not_begun e c is)) (facts_of h))

use_body-keeps : {o : State} (e : Exchange) (body : Body) (s : State) → Keeps false o s → Keeps false o (use_body e body s)
unfolding use_body
use_body-keeps e body s h = on_exchange-keeps e.number _ s h

drop_answer-keeps : {o : State} (e : Exchange) (s : State) → Keeps false o s → Keeps false o (drop_answer e s)
unfolding drop_answer
drop_answer-keeps e s h = tell-keeps e _ _ (use_body-keeps e _ s h)

useless-keeps : {o : State} (e : Exchange) (s : State) → Keeps false o s → Keeps false o (useless e s)
unfolding useless
useless-keeps e s h = lose_attempt-keeps e _ (drop_answer-keeps e s h)

-- ---- a response with a version

renew-keeps : {o : State} (x : Instance) (head : Response) (times : Times) (s : State) → Keeps false o s → Keeps false o (renew x head times s)
unfolding renew
renew-keeps x head times s h = mark_row-keeps x.id _ (on_instance-keeps x.id (renewed head times) s h)

renew_row-keeps : {o : State} (e : Exchange) (head : Response) (s : State) → Keeps false o s → Keeps false o (renew_row e head s)
unfolding renew_row
renew_row-keeps e head s h = each_of (row s (key_of e)) h (λ x. renew-keeps x head (times_for e head s) s h)

bring_row-keeps : {o : State} (e : Exchange) (head : Response) (s : State) → Keeps false o s → Keeps false o (bring_row e head s)
unfolding bring_row
bring_row-keeps e head s h = when (is_readable e head) (enter-keeps (key_of e) true s h) h

settle_on-keeps : {o : State} (e : Exchange) (head : Response) (v : Version) (s : State) → Keeps false o s → Keeps false o (settle_on e head v s)
unfolding settle_on
settle_on-keeps e head v s h = each_of (row s (key_of e)) h (λ x. tell-keeps e _ _ (use_body-keeps e _ s h))

settle_known-keeps : {o : State} (e : Exchange) (head : Response) (v : Version) (s : State) → Keeps false o s → Keeps false o (settle_known e head v s)
unfolding settle_known
settle_known-keeps e head v s h = when (may_refresh e head s) (settle_on-keeps e head v _ (renew_row-keeps e head s h)) (useless-keeps e s h)

settle-keeps : {o : State} (e : Exchange) (head : Response) (v : Version) (s : State) → Keeps false o s → Keeps false o (settle e head v s)
unfolding settle
settle-keeps e head v s h =
    when (is_some_with (may_join e head v) (known_version s (key_of e))) (settle_known-keeps e head v s h)
    (settle_on-keeps e head v _ (make_row-keeps (key_of e) v (kept_of head.fields (times_for e head s)) (times_for e head s) s h))

-- ---- 304, and a response without a version

settle_unchanged-keeps : {o : State} (e : Exchange) (s : State) → Keeps false o s → Keeps false o (settle_unchanged e s)
unfolding settle_unchanged
settle_unchanged-keeps e s h = each_of (row s (key_of e)) h (λ x. tell-keeps e _ _ (use_body-keeps e _ s h))

unchanged-keeps : {o : State} (e : Exchange) (head : Response) (s : State) → Keeps false o s → Keeps false o (unchanged e head s)
unfolding unchanged
unchanged-keeps e head s h = when (is_some_with (names_version e) (known_version s (key_of e)) && may_refresh e head s) (settle_unchanged-keeps e _ (renew_row-keeps e head s h)) (useless-keeps e s h)

not_shared-keeps : {o : State} (e : Exchange) (s : State) → Keeps false o s → Keeps false o (not_shared e s)
unfolding not_shared
not_shared-keeps e s h =
    on_client_of-keeps e (without_shared_row (attempts_of e)) _ (λ c. without_shared_row-by (attempts_of e) c) (drop_answer-keeps e _ (clear-keeps (key_of e) s h))

not_modified-keeps : {o : State} (e : Exchange) (head : Response) (s : State) → Keeps false o s → Keeps false o (not_modified e head s)
unfolding not_modified
not_modified-keeps e head s h =
    when (forbids_sharing head) (not_shared-keeps e s h) (when (is_of_another head s (key_of e)) (useless-keeps e _ (clear-keeps (key_of e) s h)) (unchanged-keeps e head s h))

cleared_by-keeps : {o : State} (head : Response) (e : Exchange) (s : State) → Keeps false o s → Keeps false o (cleared_by head e s)
unfolding cleared_by
cleared_by-keeps head e s h = when (clears_row head) (clear-keeps (key_of e) s h) h

relay_head-keeps : {o : State} (e : Exchange) (head : Response) (rule : BodyRule) (s : State) → Keeps false o s → Keeps false o (relay_head e head rule s)
unfolding relay_head
relay_head-keeps e head rule s h = tell-keeps e _ _ (use_body-keeps e _ s h)

other_head-keeps : {o : State} (e : Exchange) (head : Response) (rule : BodyRule) (s : State) → Keeps false o s → Keeps false o (other_head e head rule s)
unfolding other_head
other_head-keeps e head rule s h = when (is_widened e head) (tell-keeps e _ _ (use_body-keeps e _ _ (cleared_by-keeps head e s h))) (relay_head-keeps e head rule _ (cleared_by-keeps head e s h))

other_part-keeps : {o : State} (e : Exchange) (head : Response) (rule : BodyRule) (s : State) → Keeps false o s → Keeps false o (other_part e head rule s)
unfolding other_part
other_part-keeps e head rule s h =
    when (is_private_part head) (not_shared-keeps e s h) (when (clears_row head) (relay_head-keeps e head rule _ (cleared_by-keeps head e s h)) (useless-keeps e s h))

own_head-keeps : {o : State} (e : Exchange) (head : Response) (rule : BodyRule) (s : State) → Keeps false o s → Keeps false o (own_head e head rule s)
unfolding own_head
own_head-keeps e head rule s h = each_of (version_in e head) (when (head.status == 304) (not_modified-keeps e head s h) (other_head-keeps e head rule s h)) (λ v. settle-keeps e head v s h)

count_elsewhere-keeps : {o : State} (e : Exchange) (s : State) → Keeps false o s → Keeps false o (count_elsewhere e s)
unfolding count_elsewhere
count_elsewhere-keeps e s h = when (is_some_with is_bound (exchange s e.number) && list_any (λ c. is_for e c && lacks_next s c) s.clients) (lose_attempt-keeps e s h) h

part_head-keeps : {o : State} (e : Exchange) (head : Response) (rule : BodyRule) (s : State) → Keeps false o s → Keeps false o (part_head e head rule s)
unfolding part_head
part_head-keeps e head rule s h = each_of (version_in e head) (when (head.status == 304) (not_modified-keeps e head s h) (other_part-keeps e head rule s h)) (λ v. settle-keeps e head v s h)

filling_head-keeps : {o : State} (e : Exchange) (head : Response) (rule : BodyRule) (s : State) → Keeps false o s → Keeps false o (filling_head e head rule s)
unfolding filling_head
filling_head-keeps e head rule s h = count_elsewhere-keeps e _ (part_head-keeps e head rule s h)

-- ---- a response that is passed

clear_named-keeps : {o : State} (key : Key) (text : Bytes) (s : State) → Keeps false o s → Keeps false o (clear_named key text s)
unfolding clear_named
clear_named-keeps key text s h = each_of (key_named key text) h (λ named. when (is_same_host named key) (clear-keeps (text_of named) s h) h)

clear_each-keeps : {o : State} (key : Key) (texts : List Bytes) (s : State) → Keeps false o s → Keeps false o (clear_each key texts s)
unfolding clear_each
clear_each-keeps key [] s h = h
clear_each-keeps key (text ∷ texts) s h = clear_each-keeps key texts _ (clear_named-keeps key text s h)

invalidated-keeps : {o : State} (e : Exchange) (head : Response) (s : State) → Keeps false o s → Keeps false o (invalidated e head s)
unfolding invalidated
invalidated-keeps e head s h = when (invalidates e head) (clear_each-keeps e.key (places_named head) _ (clear-keeps (key_of e) s h)) h

disproved-keeps : {o : State} (e : Exchange) (head : Response) (s : State) → Keeps false o s → Keeps false o (disproved e head s)
unfolding disproved
disproved-keeps e head s h = when (reads e && is_some_with (disproves head) (known_version s (key_of e))) (clear-keeps (key_of e) s h) h

through_head-keeps : {o : State} (e : Exchange) (head : Response) (rule : BodyRule) (s : State) → Keeps false o s → Keeps false o (through_head e head rule s)
unfolding through_head
through_head-keeps e head rule s h = relay_head-keeps e head rule _ (disproved-keeps e head _ (invalidated-keeps e head s h))

pub by_aim-keeps : {o : State} (e : Exchange) (head : Response) (rule : BodyRule) (s : State) → Keeps false o s → Keeps false o (by_aim e head rule s)
unfolding by_aim
by_aim-keeps e head rule s h = by_aim_of e.aim (through_head-keeps e head rule s h) (own_head-keeps e head rule s h) (λ v from to. filling_head-keeps e head rule s h)

-- ---- ends

pub pour-keeps : {o : State} (e : Exchange) (f : Pipe → Pipe) (s : State) → Keeps false o s → Keeps false o (pour e f s)
unfolding pour
pour-keeps e f s h = on_client_of-keeps e (on_passed (λ p. record p { pipe = f p.pipe })) s (on_passed-keeps (λ p. record p { pipe = f p.pipe }) (λ is. absurd (cc is))) h

skipping-keeps : (c : Client) → Kept false (skipping c) c
skipping-keeps c = as_it_was _ c refl refl refl (λ is. is) refl

skip_body-keeps : {o : State} (e : Exchange) (s : State) → Keeps false o s → Keeps false o (skip_body e s)
unfolding skip_body
skip_body-keeps e s h = by_aim_of e.aim (on_client_of-keeps e skipping s skipping-keeps h) h (λ v from to. h)

close_this-keeps : {o : State} (n : ℕ) (s : State) → Keeps false o s → Keeps false o (close_this n s)
unfolding close_this
close_this-keeps n s h = each_of (conn s n) h (λ k. close_conn-keeps true k s h)

finish-keeps : {o : State} (k : Conn) (e : Exchange) (a : Answer) (s : State) → Keeps false o s → Keeps false o (finish k e a s)
unfolding finish
finish-keeps {o} k e a s h = when (may_go_on e a.head) done (close_this-keeps k.number _ done)
  where
    done : Keeps false o (on_conn k.number (rested a.head) (end_exchange e.number (skip_body e (pour e finished s))))
    done = on_conn-keeps k.number _ _ (end_exchange-keeps e.number _ (skip_body-keeps e _ (pour-keeps e _ s h)))

bad_response-keeps : {o : State} (k : Conn) (s : State) → Keeps false o s → Keeps false o (bad_response k s)
unfolding bad_response
bad_response-keeps k s h = each_of (front_of_line s k) (close_conn-keeps false k s h) (λ e. close_conn-keeps false k _ (end_exchange-keeps e.number _ (fail-keeps e s h)))

bad_head-keeps : {o : State} (k : Conn) (s : State) → Keeps false o s → Keeps false o (bad_head k s)
unfolding bad_head
bad_head-keeps k s h = when k.has_brought (each_of (front_of_line s k) (close_conn-keeps false k s h) (λ e. close_conn-keeps false k _ (lose_attempt-keeps e s h))) (bad_response-keeps k s h)

-- ---- heads

end_if_empty-keeps : {o : State} (k : Conn) (e : Exchange) (a : Answer) (s : State) → Keeps false o s → Keeps false o (end_if_empty k e a s)
unfolding end_if_empty
end_if_empty-keeps k e a s h = by_outcome (body_of a.rule []).outcome (λ rest. finish-keeps k e a s h) h h

begin_answer-keeps : {o : State} (k : Conn) (e : Exchange) (head : Response) (rule : BodyRule) (s : State) → Keeps false o s → Keeps false o (begin_answer k e head rule s)
unfolding begin_answer
begin_answer-keeps k e head rule s h = end_if_empty-keeps k e (answer_with e head rule) _ (by_aim-keeps e head rule _ (on_conn-keeps k.number _ s h))

answer_for-keeps : {o : State} (k : Conn) (e : Exchange) (head : Response) (s : State) → Keeps false o s → Keeps false o (answer_for k e head s)
unfolding answer_for
answer_for-keeps k e head s h =
    when (is_wrong_head e head) (bad_head-keeps k s h) (by_result (rule_of (asks_head e) head.status head.fields) (λ rule. begin_answer-keeps k e head rule s h) (λ fault. bad_head-keeps k s h))

head_came-keeps : {o : State} (k : Conn) (head : Response) (s : State) → Keeps false o s → Keeps false o (head_came k head s)
unfolding head_came
head_came-keeps k head s h = each_of (front_of_line s k) (close_conn-keeps false k s h) (λ e. answer_for-keeps k e head _ (bring_row-keeps e head s h))

-- ---- bytes

piece_when : {o : State} (t : Bool) (p q : Piece) → Keeps false o p.state → Keeps false o q.state → Keeps false o (elim t as (λ c. Piece) [ true ↦ p | false ↦ q ]).state
piece_when true p q hp hq = hp
piece_when false p q hp hq = hq

head_piece_by : {o : State} (k : Conn) (bytes : Bytes) (s : State) (read : Read Response) → Keeps false o s
    → Keeps false o (elim read as (λ c. Piece) [
      | More ↦ record { state = on_conn k.number (with_unread bytes) s; rest = [] }
      | TooLong ↦ record { state = bad_head k s; rest = [] }
      | NoHead ↦ record { state = bad_head k s; rest = [] }
      | Whole head ↦ elim (is_interim head.status) as (λ c. Piece) [
        | true ↦ record { state = on_conn k.number (with_unread []) s; rest = drop head.length bytes }
        | false ↦ record { state = head_came k head s; rest = drop head.length bytes }
      ]
    ]).state
head_piece_by k bytes s More h = on_conn-keeps k.number _ s h
head_piece_by k bytes s TooLong h = bad_head-keeps k s h
head_piece_by k bytes s NoHead h = bad_head-keeps k s h
head_piece_by k bytes s (Whole head) h = piece_when (is_interim head.status) _ _ (on_conn-keeps k.number _ s h) (head_came-keeps k head s h)

head_piece-keeps : {o : State} (k : Conn) (bytes : Bytes) (s : State) → Keeps false o s → Keeps false o (head_piece k bytes s).state
head_piece-keeps k bytes s h = piece_when (is_early s k) _ _ (close_conn-keeps true k s h) (head_piece_by k (k.unread ++ bytes) s (response_at (k.unread ++ bytes)) h)

note_own-keeps : {o : State} (e : Exchange) (a : Answer) (at : ℕ) (bytes : Bytes) (s : State) → Keeps false o s → Keeps false o (note_own e a at bytes s)
unfolding note_own
note_own-keeps e a at bytes s h = when (is_empty bytes) h (keeps (facts_of h))

pub note_sent-keeps : {o : State} (e : Exchange) (a : Answer) (at : ℕ) (bytes : Bytes) (s : State) → Keeps false o s → Keeps false o (note_sent e a at bytes s)
unfolding note_sent
note_sent-keeps e a at bytes s h = by_aim_of e.aim h (note_own-keeps e a at bytes s h) (λ v from to. note_own-keeps e a at bytes s h)

join-keeps : {o : State} (b : Bound) (bytes : Bytes) (s : State) → Keeps false o s → Keeps false o (join b bytes s)
unfolding join
join-keeps b bytes s h = each_of (joined_one b bytes s) h (λ x. note_use-keeps _ (keeps (facts_of h)))

pub join_bound-keeps : {o : State} (e : Exchange) (bytes : Bytes) (s : State) → Keeps false o s → Keeps false o (join_bound e bytes s)
unfolding join_bound
join_bound-keeps e bytes s h = each_of (bound_of e) h (λ b. on_exchange-keeps e.number _ _ (join-keeps b bytes s h))

deliver-keeps : {o : State} (e : Exchange) (a : Answer) (at : ℕ) (bytes : Bytes) (s : State) → Keeps false o s → Keeps false o (deliver e a at bytes s)
unfolding deliver
deliver-keeps e a at bytes s h = pour-keeps e _ _ (join_bound-keeps e bytes _ (note_sent-keeps e a at bytes s h))

body_piece_by : {o : State} (k : Conn) (a : Answer) (e : Exchange) (bytes : Bytes) (t : State) (outcome : Outcome) → Keeps false o t
    → Keeps false o (elim outcome as (λ c. Piece) [
      | Going ↦ record { state = on_conn k.number (λ i. record i { answer = Some (record a { raw = a.raw ++ bytes }) }) t; rest = [] }
      | Bad ↦ record { state = bad_response k t; rest = [] }
      | Done rest ↦ record { state = finish k e a t; rest = rest }
    ]).state
body_piece_by k a e bytes t Going h = on_conn-keeps k.number _ t h
body_piece_by k a e bytes t Bad h = bad_response-keeps k t h
body_piece_by k a e bytes t (Done rest) h = finish-keeps k e a t h

body_piece-keeps : {o : State} (k : Conn) (a : Answer) (bytes : Bytes) (s : State) → Keeps false o s → Keeps false o (body_piece k a bytes s).state
body_piece-keeps {o} k a bytes s h = by (front_of_line s k)
  where
    by : (front : Option Exchange) → Keeps false o (elim front as (λ c. Piece) [ None ↦ record { state = close_conn false k s; rest = [] } | Some e ↦ body_piece_of k a e bytes s ]).state
    by None = close_conn-keeps false k s h
    by (Some e) = body_piece_by k a e bytes _ (body_of a.rule (a.raw ++ bytes)).outcome (deliver-keeps e a (length (payload_of a)) (drop (length (payload_of a)) (body_of a.rule (a.raw ++ bytes)).payload) s h)

pub next_piece-keeps : {o : State} (k : Conn) (bytes : Bytes) (s : State) → Keeps false o s → Keeps false o (next_piece k bytes s).state
next_piece-keeps {o} k bytes s h = by k.answer
  where
    by : (answer : Option Answer) → Keeps false o (elim answer as (λ c. Piece) [ Some a ↦ body_piece k a bytes s | None ↦ head_piece k bytes s ]).state
    by None = head_piece-keeps k bytes s h
    by (Some a) = body_piece-keeps k a bytes s h

pub got-keeps : {o : State} (more n : ℕ) (bytes : Bytes) (s : State) → Keeps false o s → Keeps false o (got more n bytes s)
unfolding got
got-keeps zero n bytes s h = h
got-keeps (suc more) n bytes s h =
    each_of (conn s n) h (λ k. when (k.is_closing || is_empty bytes) h (got-keeps more n (next_piece k bytes s).rest (next_piece k bytes s).state (next_piece-keeps k bytes s h)))

finish_first-keeps : {o : State} (k : Conn) (a : Answer) (s : State) → Keeps false o s → Keeps false o (finish_first k a s)
unfolding finish_first
finish_first-keeps k a s h = each_of (front_of_line s k) h (λ e. finish-keeps k e a s h)

pub ended-keeps : {o : State} (is_clean : Bool) (k : Conn) (s : State) → Keeps false o s → Keeps false o (ended is_clean k s)
unfolding ended
ended-keeps is_clean k s h =
    each_of k.answer (close_conn-keeps true k s h) (λ a. when (is_clean && is_whole_at_end a) (close_this-keeps k.number _ (finish_first-keeps k a s h)) (close_conn-keeps true k s h))
