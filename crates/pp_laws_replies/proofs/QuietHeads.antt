-- What an origin sends leaves what was said of each reply as it is: heads, bodies, ends.
use Rattle.std.proofs.Common.{refl, ℕ, zero, suc, Bool, true, false, ◌==◌, ◌&&◌, ◌||◌, List, [], ◌∷◌, ◌++◌, drop, length, Option, Some, None, le_refl}
use Rattle.std.specs.List.{list_any}
use Rattle.pp_framing.specs.Body.{Outcome, Done, Going, Bad}
use Rattle.pp_framing.specs.Framing.{rule_of}
use Rattle.pp_framing.specs.Rules.{body_of}
use Rattle.pp_framing.specs.declared.body.BodyRule.{BodyRule}
use Rattle.pp_fresh.specs.declared.aging.Times.{Times}
use Rattle.pp_head.specs.Read.{Read, Whole, TooLong, Bad as NoHead, More}
use Rattle.pp_head.specs.Response.{Response, response_at}
use Rattle.pp_objects.specs.Kept.{kept_of}
use Rattle.pp_pass.specs.Pipe.{Pipe, finished}
use Rattle.pp_pipe.specs.Front.{is_interim}
use Rattle.pp_target.specs.Key.{Key, text_of}
use Rattle.pp_text.specs.Bytes.{is_empty}
use Rattle.pp_valid.specs.declared.version.Version.{Version}
use Rattle.pp_law.specs.Connections.{conn, exchange, is_for, front_of_line, on_conn, attempts_of, without_shared_row, end_exchange, close_conn}
use Rattle.pp_law.specs.Lists.{Bytes, is_some_with}
use Rattle.pp_law.specs.OwnHeads.{key_of, is_asked_by, tell, use_body, drop_answer, useless, times_for, renewed, renew, settle_on, renew_row, may_refresh, settle_known, known_version, settle, may_join, names_version, settle_unchanged, unchanged, is_of_another, forbids_sharing, not_shared, not_modified, clears_row, cleared_by, is_private_part, is_widened, relay_head, other_head, other_part, own_head, is_bound, lacks_next, count_elsewhere, part_head, filling_head, version_in, is_wrong_head, note_own, note_sent, join, join_bound}
use Rattle.pp_law.specs.Passing.{pour}
use Rattle.pp_law.specs.Responses.{skipping, skip_body, rested, close_this, may_go_on, finish, bad_response, bad_head, by_aim, asks_head, answer_with, end_if_empty, begin_answer, answer_for, head_came, Piece, is_early, with_unread, head_piece, deliver, payload_of, body_piece_of, body_piece, next_piece, got, is_whole_at_end, finish_first, ended, bring_row, is_readable}
use Rattle.pp_law.specs.Stages.{on_passed, bound_of}
use Rattle.pp_law.specs.State.{State, Answer, Body, Brought, Client, Conn, Exchange, Instance, Bound}
use Rattle.pp_law.specs.Table.{row}
use Rattle.pp_law.specs.ThroughHeads.{invalidates, key_named, is_same_host, clear_named, clear_each, places_named, invalidated, disproves, reads, disproved, through_head}
use Rattle.pp_laws_replies.proofs.Cases.{by_aim_of, by_outcome, by_result, each_of, when}
use Rattle.pp_laws_replies.proofs.HeardPlaces.{none_left, read}
use Rattle.pp_laws_replies.proofs.Quiet.{Quiet, Quietly, clients_changed, facts_of, quietly}
use Rattle.pp_laws_replies.proofs.QuietAsks.{close_conn-quiet, end_exchange-quiet, fail-quiet, lose_attempt-quiet, on_client_of-quiet, on_conn-quiet, on_exchange-quiet, on_passed-quiet, parts_same, without_shared_row-by}
use Rattle.pp_laws_replies.proofs.QuietRows.{clear-quiet, enter-quiet, make_row-quiet, mark_row-quiet, note_use-quiet, on_instance-quiet}

-- ---- what is told

pub tell-quiet : {o : State} (e : Exchange) (brought : Brought) (s : State) → Quietly o s → Quietly o (tell e brought s)
unfolding tell
tell-quiet {o} e brought s h = quietly (clients_changed o s (is_asked_by e) (λ c. record c { brought = brought }) (λ c is. parts_same _ c refl refl refl refl refl refl refl refl refl) (facts_of h))

use_body-quiet : {o : State} (e : Exchange) (body : Body) (s : State) → Quietly o s → Quietly o (use_body e body s)
unfolding use_body
use_body-quiet e body s h = on_exchange-quiet e.number _ s h

drop_answer-quiet : {o : State} (e : Exchange) (s : State) → Quietly o s → Quietly o (drop_answer e s)
unfolding drop_answer
drop_answer-quiet e s h = tell-quiet e _ _ (use_body-quiet e _ s h)

useless-quiet : {o : State} (e : Exchange) (s : State) → Quietly o s → Quietly o (useless e s)
unfolding useless
useless-quiet e s h = lose_attempt-quiet e _ (drop_answer-quiet e s h)

-- ---- a response with a version

renew-quiet : {o : State} (x : Instance) (head : Response) (times : Times) (s : State) → Quietly o s → Quietly o (renew x head times s)
unfolding renew
renew-quiet x head times s h = mark_row-quiet x.id _ (on_instance-quiet x.id (renewed head times) s (λ y. record { id = refl; version = refl }) h)

renew_row-quiet : {o : State} (e : Exchange) (head : Response) (s : State) → Quietly o s → Quietly o (renew_row e head s)
unfolding renew_row
renew_row-quiet e head s h = each_of (row s (key_of e)) h (λ x. renew-quiet x head (times_for e head s) s h)

bring_row-quiet : {o : State} (e : Exchange) (head : Response) (s : State) → Quietly o s → Quietly o (bring_row e head s)
unfolding bring_row
bring_row-quiet e head s h = when (is_readable e head) (enter-quiet (key_of e) true s h) h

settle_on-quiet : {o : State} (e : Exchange) (head : Response) (v : Version) (s : State) → Quietly o s → Quietly o (settle_on e head v s)
unfolding settle_on
settle_on-quiet e head v s h = each_of (row s (key_of e)) h (λ x. tell-quiet e _ _ (use_body-quiet e _ s h))

settle_known-quiet : {o : State} (e : Exchange) (head : Response) (v : Version) (s : State) → Quietly o s → Quietly o (settle_known e head v s)
unfolding settle_known
settle_known-quiet e head v s h = when (may_refresh e head s) (settle_on-quiet e head v _ (renew_row-quiet e head s h)) (useless-quiet e s h)

settle-quiet : {o : State} (e : Exchange) (head : Response) (v : Version) (s : State) → Quietly o s → Quietly o (settle e head v s)
unfolding settle
settle-quiet e head v s h =
    when (is_some_with (may_join e head v) (known_version s (key_of e))) (settle_known-quiet e head v s h)
    (settle_on-quiet e head v _ (make_row-quiet (key_of e) v (kept_of head.fields (times_for e head s)) (times_for e head s) s h))

-- ---- 304, and a response without a version

settle_unchanged-quiet : {o : State} (e : Exchange) (s : State) → Quietly o s → Quietly o (settle_unchanged e s)
unfolding settle_unchanged
settle_unchanged-quiet e s h = each_of (row s (key_of e)) h (λ x. tell-quiet e _ _ (use_body-quiet e _ s h))

unchanged-quiet : {o : State} (e : Exchange) (head : Response) (s : State) → Quietly o s → Quietly o (unchanged e head s)
unfolding unchanged
unchanged-quiet e head s h = when (is_some_with (names_version e) (known_version s (key_of e)) && may_refresh e head s) (settle_unchanged-quiet e _ (renew_row-quiet e head s h)) (useless-quiet e s h)

not_shared-quiet : {o : State} (e : Exchange) (s : State) → Quietly o s → Quietly o (not_shared e s)
unfolding not_shared
not_shared-quiet e s h =
    on_client_of-quiet e (without_shared_row (attempts_of e)) _ (λ c. without_shared_row-by (attempts_of e) c) (drop_answer-quiet e _ (clear-quiet (key_of e) s h))

not_modified-quiet : {o : State} (e : Exchange) (head : Response) (s : State) → Quietly o s → Quietly o (not_modified e head s)
unfolding not_modified
not_modified-quiet e head s h =
    when (forbids_sharing head) (not_shared-quiet e s h) (when (is_of_another head s (key_of e)) (useless-quiet e _ (clear-quiet (key_of e) s h)) (unchanged-quiet e head s h))

cleared_by-quiet : {o : State} (head : Response) (e : Exchange) (s : State) → Quietly o s → Quietly o (cleared_by head e s)
unfolding cleared_by
cleared_by-quiet head e s h = when (clears_row head) (clear-quiet (key_of e) s h) h

relay_head-quiet : {o : State} (e : Exchange) (head : Response) (rule : BodyRule) (s : State) → Quietly o s → Quietly o (relay_head e head rule s)
unfolding relay_head
relay_head-quiet e head rule s h = tell-quiet e _ _ (use_body-quiet e _ s h)

other_head-quiet : {o : State} (e : Exchange) (head : Response) (rule : BodyRule) (s : State) → Quietly o s → Quietly o (other_head e head rule s)
unfolding other_head
other_head-quiet e head rule s h = when (is_widened e head) (tell-quiet e _ _ (use_body-quiet e _ _ (cleared_by-quiet head e s h))) (relay_head-quiet e head rule _ (cleared_by-quiet head e s h))

other_part-quiet : {o : State} (e : Exchange) (head : Response) (rule : BodyRule) (s : State) → Quietly o s → Quietly o (other_part e head rule s)
unfolding other_part
other_part-quiet e head rule s h =
    when (is_private_part head) (not_shared-quiet e s h) (when (clears_row head) (relay_head-quiet e head rule _ (cleared_by-quiet head e s h)) (useless-quiet e s h))

own_head-quiet : {o : State} (e : Exchange) (head : Response) (rule : BodyRule) (s : State) → Quietly o s → Quietly o (own_head e head rule s)
unfolding own_head
own_head-quiet e head rule s h = each_of (version_in e head) (when (head.status == 304) (not_modified-quiet e head s h) (other_head-quiet e head rule s h)) (λ v. settle-quiet e head v s h)

count_elsewhere-quiet : {o : State} (e : Exchange) (s : State) → Quietly o s → Quietly o (count_elsewhere e s)
unfolding count_elsewhere
count_elsewhere-quiet e s h = when (is_some_with is_bound (exchange s e.number) && list_any (λ c. is_for e c && lacks_next s c) s.clients) (lose_attempt-quiet e s h) h

part_head-quiet : {o : State} (e : Exchange) (head : Response) (rule : BodyRule) (s : State) → Quietly o s → Quietly o (part_head e head rule s)
unfolding part_head
part_head-quiet e head rule s h = each_of (version_in e head) (when (head.status == 304) (not_modified-quiet e head s h) (other_part-quiet e head rule s h)) (λ v. settle-quiet e head v s h)

filling_head-quiet : {o : State} (e : Exchange) (head : Response) (rule : BodyRule) (s : State) → Quietly o s → Quietly o (filling_head e head rule s)
unfolding filling_head
filling_head-quiet e head rule s h = count_elsewhere-quiet e _ (part_head-quiet e head rule s h)

-- ---- a response that is passed

clear_named-quiet : {o : State} (key : Key) (text : Bytes) (s : State) → Quietly o s → Quietly o (clear_named key text s)
unfolding clear_named
clear_named-quiet key text s h = each_of (key_named key text) h (λ named. when (is_same_host named key) (clear-quiet (text_of named) s h) h)

clear_each-quiet : {o : State} (key : Key) (texts : List Bytes) (s : State) → Quietly o s → Quietly o (clear_each key texts s)
unfolding clear_each
clear_each-quiet key [] s h = h
clear_each-quiet key (text ∷ texts) s h = clear_each-quiet key texts _ (clear_named-quiet key text s h)

invalidated-quiet : {o : State} (e : Exchange) (head : Response) (s : State) → Quietly o s → Quietly o (invalidated e head s)
unfolding invalidated
invalidated-quiet e head s h = when (invalidates e head) (clear_each-quiet e.key (places_named head) _ (clear-quiet (key_of e) s h)) h

disproved-quiet : {o : State} (e : Exchange) (head : Response) (s : State) → Quietly o s → Quietly o (disproved e head s)
unfolding disproved
disproved-quiet e head s h = when (reads e && is_some_with (disproves head) (known_version s (key_of e))) (clear-quiet (key_of e) s h) h

through_head-quiet : {o : State} (e : Exchange) (head : Response) (rule : BodyRule) (s : State) → Quietly o s → Quietly o (through_head e head rule s)
unfolding through_head
through_head-quiet e head rule s h = relay_head-quiet e head rule _ (disproved-quiet e head _ (invalidated-quiet e head s h))

pub by_aim-quiet : {o : State} (e : Exchange) (head : Response) (rule : BodyRule) (s : State) → Quietly o s → Quietly o (by_aim e head rule s)
unfolding by_aim
by_aim-quiet e head rule s h = by_aim_of e.aim (through_head-quiet e head rule s h) (own_head-quiet e head rule s h) (λ v from to. filling_head-quiet e head rule s h)

-- ---- ends

pub pour-quiet : {o : State} (e : Exchange) (f : Pipe → Pipe) (s : State) → Quietly o s → Quietly o (pour e f s)
unfolding pour
pour-quiet e f s h = on_client_of-quiet e (on_passed (λ p. record p { pipe = f p.pipe })) s (on_passed-quiet (λ p. record p { pipe = f p.pipe })) h

skipping-quiet : (c : Client) → Quiet (skipping c) c
skipping-quiet c = record { number = refl; index = refl; front = refl; stage = refl; interim = refl; closes = refl; reads = read (skipping c) c c.body_left (le_refl c.body_left) refl (none_left c.body_left) refl }

skip_body-quiet : {o : State} (e : Exchange) (s : State) → Quietly o s → Quietly o (skip_body e s)
unfolding skip_body
skip_body-quiet e s h = by_aim_of e.aim (on_client_of-quiet e skipping s skipping-quiet h) h (λ v from to. h)

close_this-quiet : {o : State} (n : ℕ) (s : State) → Quietly o s → Quietly o (close_this n s)
unfolding close_this
close_this-quiet n s h = each_of (conn s n) h (λ k. close_conn-quiet true k s h)

finish-quiet : {o : State} (k : Conn) (e : Exchange) (a : Answer) (s : State) → Quietly o s → Quietly o (finish k e a s)
unfolding finish
finish-quiet {o} k e a s h = when (may_go_on e a.head) done (close_this-quiet k.number _ done)
  where
    done : Quietly o (on_conn k.number (rested a.head) (end_exchange e.number (skip_body e (pour e finished s))))
    done = on_conn-quiet k.number _ _ (end_exchange-quiet e.number _ (skip_body-quiet e _ (pour-quiet e _ s h)))

bad_response-quiet : {o : State} (k : Conn) (s : State) → Quietly o s → Quietly o (bad_response k s)
unfolding bad_response
bad_response-quiet k s h = each_of (front_of_line s k) (close_conn-quiet false k s h) (λ e. close_conn-quiet false k _ (end_exchange-quiet e.number _ (fail-quiet e s h)))

bad_head-quiet : {o : State} (k : Conn) (s : State) → Quietly o s → Quietly o (bad_head k s)
unfolding bad_head
bad_head-quiet k s h = when k.has_brought (each_of (front_of_line s k) (close_conn-quiet false k s h) (λ e. close_conn-quiet false k _ (lose_attempt-quiet e s h))) (bad_response-quiet k s h)

-- ---- heads

end_if_empty-quiet : {o : State} (k : Conn) (e : Exchange) (a : Answer) (s : State) → Quietly o s → Quietly o (end_if_empty k e a s)
unfolding end_if_empty
end_if_empty-quiet k e a s h = by_outcome (body_of a.rule []).outcome (λ rest. finish-quiet k e a s h) h h

begin_answer-quiet : {o : State} (k : Conn) (e : Exchange) (head : Response) (rule : BodyRule) (s : State) → Quietly o s → Quietly o (begin_answer k e head rule s)
unfolding begin_answer
begin_answer-quiet k e head rule s h = end_if_empty-quiet k e (answer_with e head rule) _ (by_aim-quiet e head rule _ (on_conn-quiet k.number _ s h))

answer_for-quiet : {o : State} (k : Conn) (e : Exchange) (head : Response) (s : State) → Quietly o s → Quietly o (answer_for k e head s)
unfolding answer_for
answer_for-quiet k e head s h =
    when (is_wrong_head e head) (bad_head-quiet k s h) (by_result (rule_of (asks_head e) head.status head.fields) (λ rule. begin_answer-quiet k e head rule s h) (λ fault. bad_head-quiet k s h))

head_came-quiet : {o : State} (k : Conn) (head : Response) (s : State) → Quietly o s → Quietly o (head_came k head s)
unfolding head_came
head_came-quiet k head s h = each_of (front_of_line s k) (close_conn-quiet false k s h) (λ e. answer_for-quiet k e head _ (bring_row-quiet e head s h))

-- ---- bytes

piece_when : {o : State} (t : Bool) (p q : Piece) → Quietly o p.state → Quietly o q.state → Quietly o (elim t as (λ c. Piece) [ true ↦ p | false ↦ q ]).state
piece_when true p q hp hq = hp
piece_when false p q hp hq = hq

head_piece_by : {o : State} (k : Conn) (bytes : Bytes) (s : State) (read : Read Response) → Quietly o s
    → Quietly o (elim read as (λ c. Piece) [
      | More ↦ record { state = on_conn k.number (with_unread bytes) s; rest = [] }
      | TooLong ↦ record { state = bad_head k s; rest = [] }
      | NoHead ↦ record { state = bad_head k s; rest = [] }
      | Whole head ↦ elim (is_interim head.status) as (λ c. Piece) [
        | true ↦ record { state = on_conn k.number (with_unread []) s; rest = drop head.length bytes }
        | false ↦ record { state = head_came k head s; rest = drop head.length bytes }
      ]
    ]).state
head_piece_by k bytes s More h = on_conn-quiet k.number _ s h
head_piece_by k bytes s TooLong h = bad_head-quiet k s h
head_piece_by k bytes s NoHead h = bad_head-quiet k s h
head_piece_by k bytes s (Whole head) h = piece_when (is_interim head.status) _ _ (on_conn-quiet k.number _ s h) (head_came-quiet k head s h)

head_piece-quiet : {o : State} (k : Conn) (bytes : Bytes) (s : State) → Quietly o s → Quietly o (head_piece k bytes s).state
head_piece-quiet k bytes s h = piece_when (is_early s k) _ _ (close_conn-quiet true k s h) (head_piece_by k (k.unread ++ bytes) s (response_at (k.unread ++ bytes)) h)

note_own-quiet : {o : State} (e : Exchange) (a : Answer) (at : ℕ) (bytes : Bytes) (s : State) → Quietly o s → Quietly o (note_own e a at bytes s)
unfolding note_own
note_own-quiet e a at bytes s h = when (is_empty bytes) h (quietly (facts_of h))

pub note_sent-quiet : {o : State} (e : Exchange) (a : Answer) (at : ℕ) (bytes : Bytes) (s : State) → Quietly o s → Quietly o (note_sent e a at bytes s)
unfolding note_sent
note_sent-quiet e a at bytes s h = by_aim_of e.aim h (note_own-quiet e a at bytes s h) (λ v from to. note_own-quiet e a at bytes s h)

join-quiet : {o : State} (b : Bound) (bytes : Bytes) (s : State) → Quietly o s → Quietly o (join b bytes s)
unfolding join
join-quiet b bytes s h = each_of _ h (λ x. note_use-quiet _ (quietly (facts_of h)))

pub join_bound-quiet : {o : State} (e : Exchange) (bytes : Bytes) (s : State) → Quietly o s → Quietly o (join_bound e bytes s)
unfolding join_bound
join_bound-quiet e bytes s h = each_of (bound_of e) h (λ b. on_exchange-quiet e.number _ _ (join-quiet b bytes s h))

deliver-quiet : {o : State} (e : Exchange) (a : Answer) (at : ℕ) (bytes : Bytes) (s : State) → Quietly o s → Quietly o (deliver e a at bytes s)
unfolding deliver
deliver-quiet e a at bytes s h = pour-quiet e _ _ (join_bound-quiet e bytes _ (note_sent-quiet e a at bytes s h))

body_piece_by : {o : State} (k : Conn) (a : Answer) (e : Exchange) (bytes : Bytes) (t : State) (outcome : Outcome) → Quietly o t
    → Quietly o (elim outcome as (λ c. Piece) [
      | Going ↦ record { state = on_conn k.number (λ i. record i { answer = Some (record a { raw = a.raw ++ bytes }) }) t; rest = [] }
      | Bad ↦ record { state = bad_response k t; rest = [] }
      | Done rest ↦ record { state = finish k e a t; rest = rest }
    ]).state
body_piece_by k a e bytes t Going h = on_conn-quiet k.number _ t h
body_piece_by k a e bytes t Bad h = bad_response-quiet k t h
body_piece_by k a e bytes t (Done rest) h = finish-quiet k e a t h

body_piece-quiet : {o : State} (k : Conn) (a : Answer) (bytes : Bytes) (s : State) → Quietly o s → Quietly o (body_piece k a bytes s).state
body_piece-quiet {o} k a bytes s h = by (front_of_line s k)
  where
    by : (front : Option Exchange) → Quietly o (elim front as (λ c. Piece) [ None ↦ record { state = close_conn false k s; rest = [] } | Some e ↦ body_piece_of k a e bytes s ]).state
    by None = close_conn-quiet false k s h
    by (Some e) = body_piece_by k a e bytes _ (body_of a.rule (a.raw ++ bytes)).outcome (deliver-quiet e a (length (payload_of a)) (drop (length (payload_of a)) (body_of a.rule (a.raw ++ bytes)).payload) s h)

pub next_piece-quiet : {o : State} (k : Conn) (bytes : Bytes) (s : State) → Quietly o s → Quietly o (next_piece k bytes s).state
next_piece-quiet {o} k bytes s h = by k.answer
  where
    by : (answer : Option Answer) → Quietly o (elim answer as (λ c. Piece) [ Some a ↦ body_piece k a bytes s | None ↦ head_piece k bytes s ]).state
    by None = head_piece-quiet k bytes s h
    by (Some a) = body_piece-quiet k a bytes s h

pub got-quiet : {o : State} (more n : ℕ) (bytes : Bytes) (s : State) → Quietly o s → Quietly o (got more n bytes s)
unfolding got
got-quiet zero n bytes s h = h
got-quiet (suc more) n bytes s h =
    each_of (conn s n) h (λ k. when (k.is_closing || is_empty bytes) h (got-quiet more n (next_piece k bytes s).rest (next_piece k bytes s).state (next_piece-quiet k bytes s h)))

finish_first-quiet : {o : State} (k : Conn) (a : Answer) (s : State) → Quietly o s → Quietly o (finish_first k a s)
unfolding finish_first
finish_first-quiet k a s h = each_of (front_of_line s k) h (λ e. finish-quiet k e a s h)

pub ended-quiet : {o : State} (is_clean : Bool) (k : Conn) (s : State) → Quietly o s → Quietly o (ended is_clean k s)
unfolding ended
ended-quiet is_clean k s h =
    each_of k.answer (close_conn-quiet true k s h) (λ a. when (is_clean && is_whole_at_end a) (close_this-quiet k.number _ (finish_first-quiet k a s h)) (close_conn-quiet true k s h))
