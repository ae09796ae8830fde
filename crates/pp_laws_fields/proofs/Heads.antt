-- What an origin sends keeps what is asked of rows: heads, bodies, ends.
use Rattle.std.proofs.Common.{◌≡◌, ℕ, zero, suc, Bool, true, false, ◌==◌, ◌&&◌, ◌||◌, List, [], ◌∷◌, ◌++◌, drop, length, Option, Some, None, ap, ◌∙◌, sym, refl}
use Rattle.std.specs.List.{list_any}
use Rattle.pp_framing.specs.Body.{Outcome, Done, Going, Bad}
use Rattle.pp_framing.specs.Framing.{rule_of}
use Rattle.pp_framing.specs.Rules.{body_of}
use Rattle.pp_framing.specs.declared.body.BodyRule.{BodyRule}
use Rattle.pp_fresh.specs.declared.aging.Times.{Times}
use Rattle.pp_head.specs.Read.{Read, Whole, TooLong, Bad as NoHead, More}
use Rattle.pp_head.specs.Response.{Response, response_at}
use Rattle.pp_objects.specs.Kept.{has_room, kept_of}
use Rattle.pp_pass.specs.Pipe.{Pipe, finished}
use Rattle.pp_pipe.specs.Front.{is_interim}
use Rattle.pp_target.specs.Key.{Key, text_of}
use Rattle.pp_text.specs.Bytes.{is_empty}
use Rattle.pp_valid.specs.declared.version.Version.{Version}
use Rattle.pp_law.specs.Connections.{conn, exchange, is_for, front_of_line, on_conn, attempts_of, without_shared_row, end_exchange, close_conn}
use Rattle.pp_law.specs.Lists.{Bytes, is_some_with}
use Rattle.pp_law.specs.OwnHeads.{asks_only_identity, key_of, tell, use_body, drop_answer, useless, times_for, renewed, renew, settle_on, renew_row, may_refresh, settle_known, known_version, settle, may_join, names_version, settle_unchanged, unchanged, is_of_another, forbids_sharing, not_shared, not_modified, clears_row, cleared_by, is_private_part, is_widened, relay_head, other_head, other_part, own_head, is_bound, lacks_next, count_elsewhere, part_head, filling_head, version_in, is_wrong_head, note_own, note_sent, join, join_bound}
use Rattle.pp_law.specs.Passing.{pour}
use Rattle.pp_law.specs.Responses.{skipping, skip_body, rested, close_this, may_go_on, finish, bad_response, bad_head, by_aim, asks_head, answer_with, end_if_empty, begin_answer, answer_for, head_came, Piece, is_early, with_unread, head_piece, deliver, payload_of, body_piece_of, body_piece, next_piece, got, is_whole_at_end, finish_first, ended, bring_row, is_readable}
use Rattle.pp_law.specs.Stages.{on_passed, bound_of}
use Rattle.pp_law.specs.State.{State, Answer, Body, Brought, Conn, Exchange, Instance, Bound}
use Rattle.pp_law.specs.Table.{is_instance, is_row_of, row, instance}
use Rattle.pp_laws.specs.Runs.{IsIn}
use Rattle.pp_laws.proofs.Lists.{in_find, the_one}
use Rattle.pp_laws.proofs.Sound.{instance_id}
use Rattle.pp_laws.proofs.Tests.{same_number, second_holds}
use Rattle.pp_text.specs.Fields.{Field}
use Rattle.pp_law.specs.ThroughHeads.{invalidates, key_named, is_same_host, clear_named, clear_each, places_named, invalidated, disproves, reads, disproved, through_head}
use Rattle.pp_laws_fields.proofs.Asks.{close_conn-keeps, end_exchange-keeps, fail-keeps, lose_attempt-keeps, on_client_of-keeps, on_conn-keeps, on_exchange-keeps}
use Rattle.pp_laws_fields.proofs.Cases.{by_aim_of, by_outcome, by_result, each_of, each_so, when, when_so}
use Rattle.pp_laws_fields.proofs.Rows.{clear-keeps, enter-keeps, make_row-keeps, mark_row-keeps, note_use-keeps, on_instance-keeps}
use Rattle.pp_laws_fields.proofs.View.{Closed, Holds, Like, facts_of, holds}

-- ---- what is told

pub tell-keeps : {R : Like} (e : Exchange) (brought : Brought) (s : State) → Holds R s → Holds R (tell e brought s)
unfolding tell
tell-keeps e brought s h = holds (facts_of h)

use_body-keeps : {R : Like} (e : Exchange) (body : Body) (s : State) → Holds R s → Holds R (use_body e body s)
unfolding use_body
use_body-keeps e body s h = on_exchange-keeps e.number _ s h

drop_answer-keeps : {R : Like} (e : Exchange) (s : State) → Holds R s → Holds R (drop_answer e s)
unfolding drop_answer
drop_answer-keeps e s h = tell-keeps e _ _ (use_body-keeps e _ s h)

useless-keeps : {R : Like} (e : Exchange) (s : State) → Holds R s → Holds R (useless e s)
unfolding useless
useless-keeps e s h = lose_attempt-keeps e _ (drop_answer-keeps e s h)

-- ---- a response with a version

-- what it takes over has room in the row
renew-keeps : {R : Like} (k0 : Closed R) (x : Instance) (head : Response) (times : Times) (s : State) → IsIn x s.instances → has_room x.fields head.fields times ≡ true → Holds R s → Holds R (renew x head times s)
unfolding renew
renew-keeps {R} k0 x head times s there room h = mark_row-keeps x.id _ (on_instance-keeps x.id (renewed head times) s (λ y. refl) (λ y i hit has. k0.renewed y.version y.fields head.fields y.times times (same_room y i hit) has) h)
  where
    same_room : (y : Instance) → IsIn y s.instances → is_instance x.id y ≡ true → has_room y.fields head.fields times ≡ true
    same_room y i hit = ap (λ (z : Instance). has_room z.fields head.fields times) (the_one instance_id s.instances y x (facts_of h).own.differ i there (same_number y.id x.id hit)) ∙ room

renew_row-keeps : {R : Like} (k0 : Closed R) (e : Exchange) (head : Response) (s : State) → may_refresh e head s ≡ true → Holds R s → Holds R (renew_row e head s)
unfolding renew_row
renew_row-keeps k0 e head s may h =
    each_so (row s (key_of e)) (λ none. h)
    (λ x found. renew-keeps k0 x head (times_for e head s) s (in_find (is_row_of (key_of e)) x s.instances found).0
    (ap (λ (o : Option Instance). has_room (elim o as (λ c. List Field) [ Some y ↦ y.fields | None ↦ [] ]) head.fields (times_for e head s)) (sym found) ∙ may) h)

bring_row-keeps : {R : Like} (e : Exchange) (head : Response) (s : State) → Holds R s → Holds R (bring_row e head s)
unfolding bring_row
bring_row-keeps e head s h = when (is_readable e head) (enter-keeps (key_of e) true s h) h

settle_on-keeps : {R : Like} (e : Exchange) (head : Response) (v : Version) (s : State) → Holds R s → Holds R (settle_on e head v s)
unfolding settle_on
settle_on-keeps e head v s h = each_of (row s (key_of e)) h (λ x. tell-keeps e _ _ (use_body-keeps e _ s h))

settle_known-keeps : {R : Like} (k0 : Closed R) (e : Exchange) (head : Response) (v : Version) (s : State) → Holds R s → Holds R (settle_known e head v s)
unfolding settle_known
settle_known-keeps k0 e head v s h = when_so (may_refresh e head s) (λ may. settle_on-keeps e head v _ (renew_row-keeps k0 e head s may h)) (λ isnt. useless-keeps e s h)

settle-keeps : {R : Like} (k0 : Closed R) (e : Exchange) (head : Response) (v : Version) (s : State) → version_in e head ≡ Some v → Holds R s → Holds R (settle e head v s)
unfolding settle
settle-keeps k0 e head v s is h =
    when (is_some_with (may_join e head v) (known_version s (key_of e))) (settle_known-keeps k0 e head v s h)
    (settle_on-keeps e head v _
    (make_row-keeps (key_of e) v (kept_of head.fields (times_for e head s)) (times_for e head s) s (k0.made head.fields head.status (asks_only_identity e) v (times_for e head s) is) h))

-- ---- 304, and a response without a version

settle_unchanged-keeps : {R : Like} (e : Exchange) (s : State) → Holds R s → Holds R (settle_unchanged e s)
unfolding settle_unchanged
settle_unchanged-keeps e s h = each_of (row s (key_of e)) h (λ x. tell-keeps e _ _ (use_body-keeps e _ s h))

unchanged-keeps : {R : Like} (k0 : Closed R) (e : Exchange) (head : Response) (s : State) → Holds R s → Holds R (unchanged e head s)
unfolding unchanged
unchanged-keeps k0 e head s h =
    when_so (is_some_with (names_version e) (known_version s (key_of e)) && may_refresh e head s)
    (λ may. settle_unchanged-keeps e _ (renew_row-keeps k0 e head s (second_holds (is_some_with (names_version e) (known_version s (key_of e))) (may_refresh e head s) may) h)) (λ isnt. useless-keeps e s h)

not_shared-keeps : {R : Like} (e : Exchange) (s : State) → Holds R s → Holds R (not_shared e s)
unfolding not_shared
not_shared-keeps e s h =
    on_client_of-keeps e (without_shared_row (attempts_of e)) _ (drop_answer-keeps e _ (clear-keeps (key_of e) s h))

not_modified-keeps : {R : Like} (k0 : Closed R) (e : Exchange) (head : Response) (s : State) → Holds R s → Holds R (not_modified e head s)
unfolding not_modified
not_modified-keeps k0 e head s h =
    when (forbids_sharing head) (not_shared-keeps e s h) (when (is_of_another head s (key_of e)) (useless-keeps e _ (clear-keeps (key_of e) s h)) (unchanged-keeps k0 e head s h))

cleared_by-keeps : {R : Like} (head : Response) (e : Exchange) (s : State) → Holds R s → Holds R (cleared_by head e s)
unfolding cleared_by
cleared_by-keeps head e s h = when (clears_row head) (clear-keeps (key_of e) s h) h

relay_head-keeps : {R : Like} (e : Exchange) (head : Response) (rule : BodyRule) (s : State) → Holds R s → Holds R (relay_head e head rule s)
unfolding relay_head
relay_head-keeps e head rule s h = tell-keeps e _ _ (use_body-keeps e _ s h)

other_head-keeps : {R : Like} (e : Exchange) (head : Response) (rule : BodyRule) (s : State) → Holds R s → Holds R (other_head e head rule s)
unfolding other_head
other_head-keeps e head rule s h = when (is_widened e head) (tell-keeps e _ _ (use_body-keeps e _ _ (cleared_by-keeps head e s h))) (relay_head-keeps e head rule _ (cleared_by-keeps head e s h))

other_part-keeps : {R : Like} (e : Exchange) (head : Response) (rule : BodyRule) (s : State) → Holds R s → Holds R (other_part e head rule s)
unfolding other_part
other_part-keeps e head rule s h =
    when (is_private_part head) (not_shared-keeps e s h) (when (clears_row head) (relay_head-keeps e head rule _ (cleared_by-keeps head e s h)) (useless-keeps e s h))

own_head-keeps : {R : Like} (k0 : Closed R) (e : Exchange) (head : Response) (rule : BodyRule) (s : State) → Holds R s → Holds R (own_head e head rule s)
unfolding own_head
own_head-keeps k0 e head rule s h = each_so (version_in e head) (λ none. when (head.status == 304) (not_modified-keeps k0 e head s h) (other_head-keeps e head rule s h)) (λ v is. settle-keeps k0 e head v s is h)

count_elsewhere-keeps : {R : Like} (e : Exchange) (s : State) → Holds R s → Holds R (count_elsewhere e s)
unfolding count_elsewhere
count_elsewhere-keeps e s h = when (is_some_with is_bound (exchange s e.number) && list_any (λ c. is_for e c && lacks_next s c) s.clients) (lose_attempt-keeps e s h) h

part_head-keeps : {R : Like} (k0 : Closed R) (e : Exchange) (head : Response) (rule : BodyRule) (s : State) → Holds R s → Holds R (part_head e head rule s)
unfolding part_head
part_head-keeps k0 e head rule s h = each_so (version_in e head) (λ none. when (head.status == 304) (not_modified-keeps k0 e head s h) (other_part-keeps e head rule s h)) (λ v is. settle-keeps k0 e head v s is h)

filling_head-keeps : {R : Like} (k0 : Closed R) (e : Exchange) (head : Response) (rule : BodyRule) (s : State) → Holds R s → Holds R (filling_head e head rule s)
unfolding filling_head
filling_head-keeps k0 e head rule s h = count_elsewhere-keeps e _ (part_head-keeps k0 e head rule s h)

-- ---- a response that is passed

clear_named-keeps : {R : Like} (key : Key) (text : Bytes) (s : State) → Holds R s → Holds R (clear_named key text s)
unfolding clear_named
clear_named-keeps key text s h = each_of (key_named key text) h (λ named. when (is_same_host named key) (clear-keeps (text_of named) s h) h)

clear_each-keeps : {R : Like} (key : Key) (texts : List Bytes) (s : State) → Holds R s → Holds R (clear_each key texts s)
unfolding clear_each
clear_each-keeps key [] s h = h
clear_each-keeps key (text ∷ texts) s h = clear_each-keeps key texts _ (clear_named-keeps key text s h)

invalidated-keeps : {R : Like} (e : Exchange) (head : Response) (s : State) → Holds R s → Holds R (invalidated e head s)
unfolding invalidated
invalidated-keeps e head s h = when (invalidates e head) (clear_each-keeps e.key (places_named head) _ (clear-keeps (key_of e) s h)) h

disproved-keeps : {R : Like} (e : Exchange) (head : Response) (s : State) → Holds R s → Holds R (disproved e head s)
unfolding disproved
disproved-keeps e head s h = when (reads e && is_some_with (disproves head) (known_version s (key_of e))) (clear-keeps (key_of e) s h) h

through_head-keeps : {R : Like} (e : Exchange) (head : Response) (rule : BodyRule) (s : State) → Holds R s → Holds R (through_head e head rule s)
unfolding through_head
through_head-keeps e head rule s h = relay_head-keeps e head rule _ (disproved-keeps e head _ (invalidated-keeps e head s h))

pub by_aim-keeps : {R : Like} (k0 : Closed R) (e : Exchange) (head : Response) (rule : BodyRule) (s : State) → Holds R s → Holds R (by_aim e head rule s)
unfolding by_aim
by_aim-keeps k0 e head rule s h = by_aim_of e.aim (through_head-keeps e head rule s h) (own_head-keeps k0 e head rule s h) (λ v from to. filling_head-keeps k0 e head rule s h)

-- ---- ends

pub pour-keeps : {R : Like} (e : Exchange) (f : Pipe → Pipe) (s : State) → Holds R s → Holds R (pour e f s)
unfolding pour
pour-keeps e f s h = on_client_of-keeps e (on_passed (λ p. record p { pipe = f p.pipe })) s h

skip_body-keeps : {R : Like} (e : Exchange) (s : State) → Holds R s → Holds R (skip_body e s)
unfolding skip_body
skip_body-keeps e s h = by_aim_of e.aim (on_client_of-keeps e skipping s h) h (λ v from to. h)

close_this-keeps : {R : Like} (n : ℕ) (s : State) → Holds R s → Holds R (close_this n s)
unfolding close_this
close_this-keeps n s h = each_of (conn s n) h (λ k. close_conn-keeps true k s h)

finish-keeps : {R : Like} (k : Conn) (e : Exchange) (a : Answer) (s : State) → Holds R s → Holds R (finish k e a s)
unfolding finish
finish-keeps {R} k e a s h = when (may_go_on e a.head) done (close_this-keeps k.number _ done)
  where
    done : Holds R (on_conn k.number (rested a.head) (end_exchange e.number (skip_body e (pour e finished s))))
    done = on_conn-keeps k.number _ _ (end_exchange-keeps e.number _ (skip_body-keeps e _ (pour-keeps e _ s h)))

bad_response-keeps : {R : Like} (k : Conn) (s : State) → Holds R s → Holds R (bad_response k s)
unfolding bad_response
bad_response-keeps k s h = each_of (front_of_line s k) (close_conn-keeps false k s h) (λ e. close_conn-keeps false k _ (end_exchange-keeps e.number _ (fail-keeps e s h)))

bad_head-keeps : {R : Like} (k : Conn) (s : State) → Holds R s → Holds R (bad_head k s)
unfolding bad_head
bad_head-keeps k s h = when k.has_brought (each_of (front_of_line s k) (close_conn-keeps false k s h) (λ e. close_conn-keeps false k _ (lose_attempt-keeps e s h))) (bad_response-keeps k s h)

-- ---- heads

end_if_empty-keeps : {R : Like} (k : Conn) (e : Exchange) (a : Answer) (s : State) → Holds R s → Holds R (end_if_empty k e a s)
unfolding end_if_empty
end_if_empty-keeps k e a s h = by_outcome (body_of a.rule []).outcome (λ rest. finish-keeps k e a s h) h h

begin_answer-keeps : {R : Like} (k0 : Closed R) (k : Conn) (e : Exchange) (head : Response) (rule : BodyRule) (s : State) → Holds R s → Holds R (begin_answer k e head rule s)
unfolding begin_answer
begin_answer-keeps k0 k e head rule s h = end_if_empty-keeps k e (answer_with e head rule) _ (by_aim-keeps k0 e head rule _ (on_conn-keeps k.number _ s h))

answer_for-keeps : {R : Like} (k0 : Closed R) (k : Conn) (e : Exchange) (head : Response) (s : State) → Holds R s → Holds R (answer_for k e head s)
unfolding answer_for
answer_for-keeps k0 k e head s h =
    when (is_wrong_head e head) (bad_head-keeps k s h) (by_result (rule_of (asks_head e) head.status head.fields) (λ rule. begin_answer-keeps k0 k e head rule s h) (λ fault. bad_head-keeps k s h))

head_came-keeps : {R : Like} (k0 : Closed R) (k : Conn) (head : Response) (s : State) → Holds R s → Holds R (head_came k head s)
unfolding head_came
head_came-keeps k0 k head s h = each_of (front_of_line s k) (close_conn-keeps false k s h) (λ e. answer_for-keeps k0 k e head _ (bring_row-keeps e head s h))

-- ---- bytes

piece_when : {R : Like} (t : Bool) (p q : Piece) → Holds R p.state → Holds R q.state → Holds R (elim t as (λ c. Piece) [ true ↦ p | false ↦ q ]).state
piece_when true p q hp hq = hp
piece_when false p q hp hq = hq

head_piece_by : {R : Like} (k0 : Closed R) (k : Conn) (bytes : Bytes) (s : State) (read : Read Response) → Holds R s
    → Holds R (elim read as (λ c. Piece) [
      | More ↦ record { state = on_conn k.number (with_unread bytes) s; rest = [] }
      | TooLong ↦ record { state = bad_head k s; rest = [] }
      | NoHead ↦ record { state = bad_head k s; rest = [] }
      | Whole head ↦ elim (is_interim head.status) as (λ c. Piece) [
        | true ↦ record { state = on_conn k.number (with_unread []) s; rest = drop head.length bytes }
        | false ↦ record { state = head_came k head s; rest = drop head.length bytes }
      ]
    ]).state
head_piece_by k0 k bytes s More h = on_conn-keeps k.number _ s h
head_piece_by k0 k bytes s TooLong h = bad_head-keeps k s h
head_piece_by k0 k bytes s NoHead h = bad_head-keeps k s h
head_piece_by k0 k bytes s (Whole head) h = piece_when (is_interim head.status) _ _ (on_conn-keeps k.number _ s h) (head_came-keeps k0 k head s h)

head_piece-keeps : {R : Like} (k0 : Closed R) (k : Conn) (bytes : Bytes) (s : State) → Holds R s → Holds R (head_piece k bytes s).state
head_piece-keeps k0 k bytes s h = piece_when (is_early s k) _ _ (close_conn-keeps true k s h) (head_piece_by k0 k (k.unread ++ bytes) s (response_at (k.unread ++ bytes)) h)

note_own-keeps : {R : Like} (e : Exchange) (a : Answer) (at : ℕ) (bytes : Bytes) (s : State) → Holds R s → Holds R (note_own e a at bytes s)
unfolding note_own
note_own-keeps e a at bytes s h = when (is_empty bytes) h (holds (facts_of h))

pub note_sent-keeps : {R : Like} (e : Exchange) (a : Answer) (at : ℕ) (bytes : Bytes) (s : State) → Holds R s → Holds R (note_sent e a at bytes s)
unfolding note_sent
note_sent-keeps e a at bytes s h = by_aim_of e.aim h (note_own-keeps e a at bytes s h) (λ v from to. note_own-keeps e a at bytes s h)

join-keeps : {R : Like} (b : Bound) (bytes : Bytes) (s : State) → Holds R s → Holds R (join b bytes s)
unfolding join
join-keeps b bytes s h = each_of _ h (λ x. note_use-keeps _ (holds (facts_of h)))

pub join_bound-keeps : {R : Like} (e : Exchange) (bytes : Bytes) (s : State) → Holds R s → Holds R (join_bound e bytes s)
unfolding join_bound
join_bound-keeps e bytes s h = each_of (bound_of e) h (λ b. on_exchange-keeps e.number _ _ (join-keeps b bytes s h))

deliver-keeps : {R : Like} (e : Exchange) (a : Answer) (at : ℕ) (bytes : Bytes) (s : State) → Holds R s → Holds R (deliver e a at bytes s)
unfolding deliver
deliver-keeps e a at bytes s h = pour-keeps e _ _ (join_bound-keeps e bytes _ (note_sent-keeps e a at bytes s h))

body_piece_by : {R : Like} (k : Conn) (a : Answer) (e : Exchange) (bytes : Bytes) (t : State) (outcome : Outcome) → Holds R t
    → Holds R (elim outcome as (λ c. Piece) [
      | Going ↦ record { state = on_conn k.number (λ i. record i { answer = Some (record a { raw = a.raw ++ bytes }) }) t; rest = [] }
      | Bad ↦ record { state = bad_response k t; rest = [] }
      | Done rest ↦ record { state = finish k e a t; rest = rest }
    ]).state
body_piece_by k a e bytes t Going h = on_conn-keeps k.number _ t h
body_piece_by k a e bytes t Bad h = bad_response-keeps k t h
body_piece_by k a e bytes t (Done rest) h = finish-keeps k e a t h

body_piece-keeps : {R : Like} (k : Conn) (a : Answer) (bytes : Bytes) (s : State) → Holds R s → Holds R (body_piece k a bytes s).state
body_piece-keeps {R} k a bytes s h = by (front_of_line s k)
  where
    by : (front : Option Exchange) → Holds R (elim front as (λ c. Piece) [ None ↦ record { state = close_conn false k s; rest = [] } | Some e ↦ body_piece_of k a e bytes s ]).state
    by None = close_conn-keeps false k s h
    by (Some e) = body_piece_by k a e bytes _ (body_of a.rule (a.raw ++ bytes)).outcome (deliver-keeps e a (length (payload_of a)) (drop (length (payload_of a)) (body_of a.rule (a.raw ++ bytes)).payload) s h)

pub next_piece-keeps : {R : Like} (k0 : Closed R) (k : Conn) (bytes : Bytes) (s : State) → Holds R s → Holds R (next_piece k bytes s).state
next_piece-keeps {R} k0 k bytes s h = by k.answer
  where
    by : (answer : Option Answer) → Holds R (elim answer as (λ c. Piece) [ Some a ↦ body_piece k a bytes s | None ↦ head_piece k bytes s ]).state
    by None = head_piece-keeps k0 k bytes s h
    by (Some a) = body_piece-keeps k a bytes s h

pub got-keeps : {R : Like} (k0 : Closed R) (more n : ℕ) (bytes : Bytes) (s : State) → Holds R s → Holds R (got more n bytes s)
unfolding got
got-keeps k0 zero n bytes s h = h
got-keeps k0 (suc more) n bytes s h =
    each_of (conn s n) h (λ k. when (k.is_closing || is_empty bytes) h (got-keeps k0 more n (next_piece k bytes s).rest (next_piece k bytes s).state (next_piece-keeps k0 k bytes s h)))

finish_first-keeps : {R : Like} (k : Conn) (a : Answer) (s : State) → Holds R s → Holds R (finish_first k a s)
unfolding finish_first
finish_first-keeps k a s h = each_of (front_of_line s k) h (λ e. finish-keeps k e a s h)

pub ended-keeps : {R : Like} (is_clean : Bool) (k : Conn) (s : State) → Holds R s → Holds R (ended is_clean k s)
unfolding ended
ended-keeps is_clean k s h =
    each_of k.answer (close_conn-keeps true k s h) (λ a. when (is_clean && is_whole_at_end a) (close_this-keeps k.number _ (finish_first-keeps k a s h)) (close_conn-keeps true k s h))
