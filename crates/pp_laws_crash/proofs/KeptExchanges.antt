-- What requests and responses bring keeps what the disk is about.
use Rattle.std.proofs.Common.{ℕ, zero, suc, ◌+◌, Bool, true, false, ◌==◌, ◌&&◌, ◌||◌, List, [], ◌∷◌, ◌++◌, drop, length, Option, Some, None, ap}
use Rattle.std.specs.List.{list_any}
use Rattle.pp_ask.specs.declared.kind.AskKind.{AskKind}
use Rattle.pp_framing.specs.Body.{Outcome, Done, Going, Bad}
use Rattle.pp_framing.specs.Framing.{rule_of}
use Rattle.pp_framing.specs.Rules.{body_of}
use Rattle.pp_framing.specs.declared.body.BodyRule.{BodyRule}
use Rattle.pp_fresh.specs.declared.aging.Times.{Times}
use Rattle.pp_head.specs.Read.{Read, Whole, TooLong, Bad as NoHead, More}
use Rattle.pp_head.specs.Request.{Request}
use Rattle.pp_head.specs.Response.{Response, response_at}
use Rattle.pp_objects.specs.Kept.{kept_of}
use Rattle.pp_pass.specs.Pipe.{Pipe, finished}
use Rattle.pp_pipe.specs.Front.{is_interim}
use Rattle.pp_target.specs.Key.{Key, text_of}
use Rattle.pp_text.specs.Bytes.{is_empty}
use Rattle.pp_valid.specs.declared.version.Version.{Version}
use Rattle.pp_world.specs.declared.note.Decision.TheVariants.{Refuse, Hit, Part, Head, NotModified, Unsatisfiable, Relay, Validate, Fetch, Pass}
use Rattle.pp_world.specs.declared.note.Decision.{Decision}
use Rattle.pp_law.specs.Closing.{is_of}
use Rattle.pp_law.specs.Connections.{conn, exchange, is_for, front_of_line, on_conn, is_trying, end_exchange}
use Rattle.pp_law.specs.Deciding.{refuse, add_exchange, begin_exchange, ask_for, ask_as, ask_origin, reply_by, follow_with, follow_row, follow, relay, is_for_memory, mark_row_of, enter_row, decided_by, decided}
use Rattle.pp_law.specs.Decisions.{kind_of, fits}
use Rattle.pp_law.specs.Followers.{need_of, filling_exchange, fill_with, fill_span, fill_next, fill_for, fill, give_up_asks}
use Rattle.pp_law.specs.Lists.{Bytes, is_some_with}
use Rattle.pp_law.specs.OwnHeads.{key_of, tell, use_body, drop_answer, useless, times_for, renewed, renew, settle_on, renew_row, known_version, may_refresh, settle_known, names_version, may_join, settle, settle_unchanged, unchanged, forbids_sharing, is_of_another, not_shared, not_modified, clears_row, cleared_by, is_private_part, is_widened, relay_head, other_head, other_part, own_head, is_bound, lacks_next, count_elsewhere, part_head, filling_head, is_wrong_head, version_in, sent_as, first_offset, note_own, note_sent, join, join_bound}
use Rattle.pp_law.specs.Passing.{pour, poured}
use Rattle.pp_law.specs.Requests.{key_in}
use Rattle.pp_law.specs.Responses.{skip_body, close_this, rested, may_go_on, finish, bad_response, bad_head, by_aim, asks_head, answer_with, answered_by, end_if_empty, begin_answer, answer_for, head_came, Piece, is_early, with_unread, head_piece_of, head_piece, deliver, payload_of, body_piece_of, body_piece, next_piece, got, is_whole_at_end, finish_first, ended, bring_row, is_readable}
use Rattle.pp_law.specs.State.{State, Sent, Brought, Body, Client, Conn, Exchange, Instance, Answer, Reply, Bound}
use Rattle.pp_law.specs.Table.{row, row_for, instance, Next, next_of}
use Rattle.pp_law.specs.ThroughHeads.{invalidates, key_named, is_same_host, clear_named, clear_each, places_named, invalidated, disproves, reads, disproved, through_head}
use Rattle.pp_law.specs.Unseen.{is_unseen, drop_on, drop_unseen}
use Rattle.pp_laws_crash.proofs.Frames.{Kept, PartsOf, kept, parts_of, when, each_of, by_aim_of, by_outcome, by_front, by_result}
use Rattle.pp_laws_crash.proofs.KeptTable.{on_instance-kept, swept-kept, clear-kept, mark_row-kept, make_row-kept, enter-kept, note_use-kept, on_conn-kept, on_exchange-kept, on_client-kept, on_client_of-kept, each_client-kept, each_conn-kept, lose_attempt-kept, fail-kept, end_exchange-kept, close_conn-kept, leave-kept}

-- ---- decisions

refuse-kept : {o : State} (c : Client) (status : ℕ) (s : State) → Kept o s → Kept o (refuse c status s)
unfolding refuse
refuse-kept c status s h = swept-kept _ (leave-kept (is_of c.number) _ (on_client-kept c.number _ s h))

add_exchange-kept : {o : State} (e : Exchange) (s : State) → Kept o s → Kept o (add_exchange e s)
unfolding add_exchange
add_exchange-kept e s h = kept (parts_of h)

begin_exchange-kept : {o : State} (e : Exchange) (s : State) → Kept o s → Kept o (begin_exchange e s)
unfolding begin_exchange
begin_exchange-kept e s h = add_exchange-kept e _ (leave-kept _ s h)

ask_for-kept : {o : State} (c : Client) (d : Decision) (head : Request) (key : Key) (kind : AskKind) (s : State) → Kept o s → Kept o (ask_for c d head key kind s)
unfolding ask_for
ask_for-kept c d head key kind s h = swept-kept _ (begin_exchange-kept _ _ (leave-kept (is_of c.number) _ (on_client-kept c.number _ s h)))

ask_as-kept : {o : State} (c : Client) (d : Decision) (head : Request) (key : Key) (s : State) → Kept o s → Kept o (ask_as c d head key s)
unfolding ask_as
ask_as-kept c d head key s h = each_of (kind_of head (row_for s head (text_of key)) d) h (λ kind. ask_for-kept c d head key kind s h)

ask_origin-kept : {o : State} (c : Client) (d : Decision) (s : State) → Kept o s → Kept o (ask_origin c d s)
unfolding ask_origin
ask_origin-kept c d s h = by_front c.front h (λ n. h) (λ r. by_result r.key (λ key. ask_as-kept c d r.head key s h) (λ fault. h))

follow_with-kept : {o : State} (c : Client) (r : Reply) (x : Instance) (s : State) → Kept o s → Kept o (follow_with c r x s)
unfolding follow_with
follow_with-kept c r x s h = swept-kept _ (leave-kept _ _ (on_client-kept c.number _ s h))

follow_row-kept : {o : State} (c : Client) (d : Decision) (key : Bytes) (s : State) → Kept o s → Kept o (follow_row c d key s)
unfolding follow_row
follow_row-kept c d key s h = each_of (row s key) h (λ x. follow_with-kept c (reply_by d (Some x.id)) x s h)

follow-kept : {o : State} (c : Client) (d : Decision) (s : State) → Kept o s → Kept o (follow c d s)
unfolding follow
follow-kept c d s h = each_of (key_in c.front) h (λ key. follow_row-kept c d (text_of key) s h)

relay-kept : {o : State} (c : Client) (s : State) → Kept o s → Kept o (relay c s)
unfolding relay
relay-kept c s h = swept-kept _ (on_client-kept c.number _ s h)

mark_row_of-kept : {o : State} (key : Bytes) (s : State) → Kept o s → Kept o (mark_row_of key s)
unfolding mark_row_of
mark_row_of-kept key s h = each_of (row s key) h (λ x. mark_row-kept x.id s h)

enter_row-kept : {o : State} (c : Client) (d : Decision) (s : State) → Kept o s → Kept o (enter_row c d s)
unfolding enter_row
enter_row-kept c d s h = when (is_for_memory d) h (each_of (key_in c.front) h (λ key. mark_row_of-kept (text_of key) _ (enter-kept (text_of key) false s h)))

decided_by-kept : {o : State} (c : Client) (d : Decision) (s : State) → Kept o s → Kept o (decided_by c d s)
unfolding decided_by
decided_by-kept c (Refuse status) s h = refuse-kept c status s h
decided_by-kept c Pass s h = ask_origin-kept c Pass s h
decided_by-kept c Fetch s h = ask_origin-kept c Fetch s h
decided_by-kept c Validate s h = ask_origin-kept c Validate s h
decided_by-kept c Relay s h = relay-kept c s h
decided_by-kept c (Hit from to) s h = follow-kept c (Hit from to) s h
decided_by-kept c (Part from to) s h = follow-kept c (Part from to) s h
decided_by-kept c Head s h = follow-kept c Head s h
decided_by-kept c NotModified s h = follow-kept c NotModified s h
decided_by-kept c Unsatisfiable s h = follow-kept c Unsatisfiable s h

pub decided-kept : {o : State} (c : Client) (d : Decision) (s : State) → Kept o s → Kept o (decided c d s)
unfolding decided
decided-kept c d s h = decided_by-kept c d _ (enter_row-kept c d s h)

-- ---- followers

fill_with-kept : {o : State} (e : Exchange) (c : Client) (s : State) → Kept o s → Kept o (fill_with e c s)
unfolding fill_with
fill_with-kept e c s h = when (fits e.text) (begin_exchange-kept e s h) (on_client-kept c.number _ s h)

fill_span-kept : {o : State} (c : Client) (n : Next) (span : ℕ × ℕ) (s : State) → Kept o s → Kept o (fill_span c n span s)
unfolding fill_span
fill_span-kept c n span s h = by_front c.front h (λ m. h) (λ r. by_result r.key (λ key. fill_with-kept (filling_exchange s c r.head key n span) c s h) (λ fault. h))

fill_next-kept : {o : State} (c : Client) (n : Next) (s : State) → Kept o s → Kept o (fill_next c n s)
unfolding fill_next
fill_next-kept c n s h = each_of (need_of s n) h (λ span. fill_span-kept c n span s h)

fill_for-kept : {o : State} (c : Client) (s : State) → Kept o s → Kept o (fill_for c s)
unfolding fill_for
fill_for-kept c s h = when (is_trying c.course) (each_of (next_of s c) h (λ n. fill_next-kept c n s h)) h

pub fill-kept : {o : State} (s : State) → Kept o s → Kept o (fill s)
unfolding fill
fill-kept s h = when s.is_stopped h (each_client-kept fill_for (λ c t ht. fill_for-kept c t ht) _ s h)

pub give_up_asks-kept : {o : State} (s : State) → Kept o s → Kept o (give_up_asks s)
unfolding give_up_asks
give_up_asks-kept s h = kept (parts_of h)

drop_on-kept : {o : State} (k : Conn) (s : State) → Kept o s → Kept o (drop_on k s)
unfolding drop_on
drop_on-kept k s h = each_of (front_of_line s k) h (λ e. when (is_unseen s k e) (close_conn-kept false k _ (end_exchange-kept e.number s h)) h)

pub drop_unseen-kept : {o : State} (s : State) → Kept o s → Kept o (drop_unseen s)
unfolding drop_unseen
drop_unseen-kept s h = each_conn-kept drop_on (λ k t ht. drop_on-kept k t ht) _ s h

-- ---- heads

tell-kept : {o : State} (e : Exchange) (brought : Brought) (s : State) → Kept o s → Kept o (tell e brought s)
unfolding tell
tell-kept e brought s h = kept (parts_of h)

use_body-kept : {o : State} (e : Exchange) (body : Body) (s : State) → Kept o s → Kept o (use_body e body s)
unfolding use_body
use_body-kept e body s h = on_exchange-kept e.number _ s h

drop_answer-kept : {o : State} (e : Exchange) (s : State) → Kept o s → Kept o (drop_answer e s)
unfolding drop_answer
drop_answer-kept e s h = tell-kept e _ _ (use_body-kept e _ s h)

useless-kept : {o : State} (e : Exchange) (s : State) → Kept o s → Kept o (useless e s)
unfolding useless
useless-kept e s h = lose_attempt-kept e _ (drop_answer-kept e s h)

renew-kept : {o : State} (x : Instance) (head : Response) (times : Times) (s : State) → Kept o s → Kept o (renew x head times s)
unfolding renew
renew-kept x head times s h = mark_row-kept x.id _ (on_instance-kept x.id (renewed head times) s h)

settle_on-kept : {o : State} (e : Exchange) (head : Response) (v : Version) (s : State) → Kept o s → Kept o (settle_on e head v s)
unfolding settle_on
settle_on-kept e head v s h = each_of (row s (key_of e)) h (λ x. tell-kept e _ _ (use_body-kept e _ s h))

renew_row-kept : {o : State} (e : Exchange) (head : Response) (s : State) → Kept o s → Kept o (renew_row e head s)
unfolding renew_row
renew_row-kept e head s h = each_of (row s (key_of e)) h (λ x. renew-kept x head (times_for e head s) s h)

bring_row-kept : {o : State} (e : Exchange) (head : Response) (s : State) → Kept o s → Kept o (bring_row e head s)
unfolding bring_row
bring_row-kept e head s h = when (is_readable e head) (enter-kept (key_of e) true s h) h

settle_known-kept : {o : State} (e : Exchange) (head : Response) (v : Version) (s : State) → Kept o s → Kept o (settle_known e head v s)
unfolding settle_known
settle_known-kept e head v s h = when (may_refresh e head s) (settle_on-kept e head v _ (renew_row-kept e head s h)) (useless-kept e s h)

settle-kept : {o : State} (e : Exchange) (head : Response) (v : Version) (s : State) → Kept o s → Kept o (settle e head v s)
unfolding settle
settle-kept e head v s h = when (is_some_with (may_join e head v) (known_version s (key_of e))) (settle_known-kept e head v s h)
    (settle_on-kept e head v _ (make_row-kept (key_of e) v (kept_of head.fields (times_for e head s)) (times_for e head s) s h))

settle_unchanged-kept : {o : State} (e : Exchange) (s : State) → Kept o s → Kept o (settle_unchanged e s)
unfolding settle_unchanged
settle_unchanged-kept e s h = each_of (row s (key_of e)) h (λ x. tell-kept e _ _ (use_body-kept e _ s h))

unchanged-kept : {o : State} (e : Exchange) (head : Response) (s : State) → Kept o s → Kept o (unchanged e head s)
unfolding unchanged
unchanged-kept e head s h = when (is_some_with (names_version e) (known_version s (key_of e)) && may_refresh e head s) (settle_unchanged-kept e _ (renew_row-kept e head s h)) (useless-kept e s h)

not_shared-kept : {o : State} (e : Exchange) (s : State) → Kept o s → Kept o (not_shared e s)
unfolding not_shared
not_shared-kept e s h = on_client_of-kept e _ _ (drop_answer-kept e _ (clear-kept (key_of e) s h))

not_modified-kept : {o : State} (e : Exchange) (head : Response) (s : State) → Kept o s → Kept o (not_modified e head s)
unfolding not_modified
not_modified-kept e head s h = when (forbids_sharing head) (not_shared-kept e s h)
    (when (is_of_another head s (key_of e)) (useless-kept e _ (clear-kept (key_of e) s h)) (unchanged-kept e head s h))

cleared_by-kept : {o : State} (head : Response) (e : Exchange) (s : State) → Kept o s → Kept o (cleared_by head e s)
unfolding cleared_by
cleared_by-kept head e s h = when (clears_row head) (clear-kept (key_of e) s h) h

relay_head-kept : {o : State} (e : Exchange) (head : Response) (rule : BodyRule) (s : State) → Kept o s → Kept o (relay_head e head rule s)
unfolding relay_head
relay_head-kept e head rule s h = tell-kept e _ _ (use_body-kept e _ s h)

other_head-kept : {o : State} (e : Exchange) (head : Response) (rule : BodyRule) (s : State) → Kept o s → Kept o (other_head e head rule s)
unfolding other_head
other_head-kept e head rule s h = when (is_widened e head) (tell-kept e _ _ (use_body-kept e _ _ (cleared_by-kept head e s h))) (relay_head-kept e head rule _ (cleared_by-kept head e s h))

other_part-kept : {o : State} (e : Exchange) (head : Response) (rule : BodyRule) (s : State) → Kept o s → Kept o (other_part e head rule s)
unfolding other_part
other_part-kept e head rule s h = when (is_private_part head) (not_shared-kept e s h)
    (when (clears_row head) (relay_head-kept e head rule _ (cleared_by-kept head e s h)) (useless-kept e s h))

own_head-kept : {o : State} (e : Exchange) (head : Response) (rule : BodyRule) (s : State) → Kept o s → Kept o (own_head e head rule s)
unfolding own_head
own_head-kept e head rule s h = each_of (version_in e head) (when (head.status == 304) (not_modified-kept e head s h) (other_head-kept e head rule s h)) (λ v. settle-kept e head v s h)

part_head-kept : {o : State} (e : Exchange) (head : Response) (rule : BodyRule) (s : State) → Kept o s → Kept o (part_head e head rule s)
unfolding part_head
part_head-kept e head rule s h = each_of (version_in e head) (when (head.status == 304) (not_modified-kept e head s h) (other_part-kept e head rule s h)) (λ v. settle-kept e head v s h)

count_elsewhere-kept : {o : State} (e : Exchange) (s : State) → Kept o s → Kept o (count_elsewhere e s)
unfolding count_elsewhere
count_elsewhere-kept e s h = when (is_some_with is_bound (exchange s e.number) && list_any (λ c. is_for e c && lacks_next s c) s.clients) (lose_attempt-kept e s h) h

filling_head-kept : {o : State} (e : Exchange) (head : Response) (rule : BodyRule) (s : State) → Kept o s → Kept o (filling_head e head rule s)
unfolding filling_head
filling_head-kept e head rule s h = count_elsewhere-kept e _ (part_head-kept e head rule s h)

clear_named-kept : {o : State} (key : Key) (text : Bytes) (s : State) → Kept o s → Kept o (clear_named key text s)
unfolding clear_named
clear_named-kept key text s h = each_of (key_named key text) h (λ named. when (is_same_host named key) (clear-kept (text_of named) s h) h)

clear_each-kept : {o : State} (key : Key) (texts : List Bytes) (s : State) → Kept o s → Kept o (clear_each key texts s)
unfolding clear_each
clear_each-kept key [] s h = h
clear_each-kept key (text ∷ texts) s h = clear_each-kept key texts _ (clear_named-kept key text s h)

invalidated-kept : {o : State} (e : Exchange) (head : Response) (s : State) → Kept o s → Kept o (invalidated e head s)
unfolding invalidated
invalidated-kept e head s h = when (invalidates e head) (clear_each-kept e.key (places_named head) _ (clear-kept (key_of e) s h)) h

disproved-kept : {o : State} (e : Exchange) (head : Response) (s : State) → Kept o s → Kept o (disproved e head s)
unfolding disproved
disproved-kept e head s h = when (reads e && is_some_with (disproves head) (known_version s (key_of e))) (clear-kept (key_of e) s h) h

through_head-kept : {o : State} (e : Exchange) (head : Response) (rule : BodyRule) (s : State) → Kept o s → Kept o (through_head e head rule s)
unfolding through_head
through_head-kept e head rule s h = relay_head-kept e head rule _ (disproved-kept e head _ (invalidated-kept e head s h))

-- ---- responses

pour-kept : {o : State} (e : Exchange) (f : Pipe → Pipe) (s : State) → Kept o s → Kept o (pour e f s)
unfolding pour
pour-kept e f s h = on_client_of-kept e _ s h

skip_body-kept : {o : State} (e : Exchange) (s : State) → Kept o s → Kept o (skip_body e s)
unfolding skip_body
skip_body-kept e s h = by_aim_of e.aim (on_client_of-kept e _ s h) h (λ v from to. h)

close_this-kept : {o : State} (n : ℕ) (s : State) → Kept o s → Kept o (close_this n s)
unfolding close_this
close_this-kept n s h = each_of (conn s n) h (λ k. close_conn-kept true k s h)

finish-kept : {o : State} (k : Conn) (e : Exchange) (a : Answer) (s : State) → Kept o s → Kept o (finish k e a s)
unfolding finish
finish-kept {o} k e a s h = when (may_go_on e a.head) done (close_this-kept k.number _ done)
  where
    done : Kept o (on_conn k.number (rested a.head) (end_exchange e.number (skip_body e (pour e finished s))))
    done = on_conn-kept k.number _ _ (end_exchange-kept e.number _ (skip_body-kept e _ (pour-kept e finished s h)))

bad_response-kept : {o : State} (k : Conn) (s : State) → Kept o s → Kept o (bad_response k s)
unfolding bad_response
bad_response-kept k s h = each_of (front_of_line s k) (close_conn-kept false k s h) (λ e. close_conn-kept false k _ (end_exchange-kept e.number _ (fail-kept e s h)))

bad_head-kept : {o : State} (k : Conn) (s : State) → Kept o s → Kept o (bad_head k s)
unfolding bad_head
bad_head-kept k s h = when k.has_brought (each_of (front_of_line s k) (close_conn-kept false k s h) (λ e. close_conn-kept false k _ (lose_attempt-kept e s h))) (bad_response-kept k s h)

by_aim-kept : {o : State} (e : Exchange) (head : Response) (rule : BodyRule) (s : State) → Kept o s → Kept o (by_aim e head rule s)
unfolding by_aim
by_aim-kept e head rule s h = by_aim_of e.aim (through_head-kept e head rule s h) (own_head-kept e head rule s h) (λ v from to. filling_head-kept e head rule s h)

end_if_empty-kept : {o : State} (k : Conn) (e : Exchange) (a : Answer) (s : State) → Kept o s → Kept o (end_if_empty k e a s)
unfolding end_if_empty
end_if_empty-kept k e a s h = by_outcome (body_of a.rule []).outcome (λ rest. finish-kept k e a s h) h h

begin_answer-kept : {o : State} (k : Conn) (e : Exchange) (head : Response) (rule : BodyRule) (s : State) → Kept o s → Kept o (begin_answer k e head rule s)
unfolding begin_answer
begin_answer-kept k e head rule s h = end_if_empty-kept k e (answer_with e head rule) _ (by_aim-kept e head rule _ (on_conn-kept k.number (answered_by (answer_with e head rule)) s h))

answer_for-kept : {o : State} (k : Conn) (e : Exchange) (head : Response) (s : State) → Kept o s → Kept o (answer_for k e head s)
unfolding answer_for
answer_for-kept k e head s h = when (is_wrong_head e head) (bad_head-kept k s h)
    (by_result (rule_of (asks_head e) head.status head.fields) (λ rule. begin_answer-kept k e head rule s h) (λ fault. bad_head-kept k s h))

head_came-kept : {o : State} (k : Conn) (head : Response) (s : State) → Kept o s → Kept o (head_came k head s)
unfolding head_came
head_came-kept k head s h = each_of (front_of_line s k) (close_conn-kept false k s h) (λ e. answer_for-kept k e head _ (bring_row-kept e head s h))

-- ---- bytes

more_sent : (o s : State) (part : Sent) → PartsOf o s → PartsOf o (record s { sent = part ∷ s.sent })
more_sent o s part p = record {
  disk_is = p.disk_is;
  agenda_is = p.agenda_is;
  under_way_is = p.under_way_is;
  closed_is = p.closed_is;
  acknowledged_is = p.acknowledged_is;
  settings_is = p.settings_is;
  recovers_is = p.recovers_is;
  moved = p.moved;
  owed_in = p.owed_in;
  were = p.were;
  stay = p.stay;
  same = p.same;
  there = p.there;
  more = p.more;
  grew = (part ∷ p.grew.0, ap (λ (l : List Sent). part ∷ l) p.grew.1);
}

sent_as-parts : (o s : State) (e : Exchange) (at : ℕ) (bytes : Bytes) (v : Option Version) → PartsOf o s → PartsOf o (record s { sent = sent_as e at bytes v s.sent })
sent_as-parts o s e at bytes None p = p
sent_as-parts o s e at bytes (Some v) p = more_sent o s _ p

note_own-kept : {o : State} (e : Exchange) (a : Answer) (at : ℕ) (bytes : Bytes) (s : State) → Kept o s → Kept o (note_own e a at bytes s)
unfolding note_own
note_own-kept {o} e a at bytes s h = when (is_empty bytes) h (kept (sent_as-parts o s e (first_offset a.head + at) bytes a.version (parts_of h)))

note_sent-kept : {o : State} (e : Exchange) (a : Answer) (at : ℕ) (bytes : Bytes) (s : State) → Kept o s → Kept o (note_sent e a at bytes s)
unfolding note_sent
note_sent-kept e a at bytes s h = by_aim_of e.aim h (note_own-kept e a at bytes s h) (λ v from to. note_own-kept e a at bytes s h)

join-kept : {o : State} (b : Bound) (bytes : Bytes) (s : State) → Kept o s → Kept o (join b bytes s)
unfolding join
join-kept b bytes s h = each_of _ h (λ x. note_use-kept _ (kept (parts_of h)))

join_bound-kept : {o : State} (e : Exchange) (bytes : Bytes) (s : State) → Kept o s → Kept o (join_bound e bytes s)
unfolding join_bound
join_bound-kept e bytes s h = each_of _ h (λ b. on_exchange-kept e.number _ _ (join-kept b bytes s h))

deliver-kept : {o : State} (e : Exchange) (a : Answer) (at : ℕ) (bytes : Bytes) (s : State) → Kept o s → Kept o (deliver e a at bytes s)
unfolding deliver
deliver-kept e a at bytes s h = pour-kept e (poured bytes) _ (join_bound-kept e bytes _ (note_sent-kept e a at bytes s h))

-- ---- pieces

piece_when : {o : State} (t : Bool) (p q : Piece) → Kept o p.state → Kept o q.state → Kept o (elim t as (λ c. Piece) [ true ↦ p | false ↦ q ]).state
piece_when true p q hp hq = hp
piece_when false p q hp hq = hq

piece_each : {A : Type 0} {o : State} (x : Option A) (p : Piece) (q : A → Piece) → Kept o p.state → ((a : A) → Kept o (q a).state) → Kept o (elim x as (λ c. Piece) [ None ↦ p | Some a ↦ q a ]).state
piece_each None p q hp hq = hp
piece_each (Some a) p q hp hq = hq a

piece_by_outcome : {o : State} (w : Outcome) (p q : Piece) (r : Bytes → Piece) → Kept o p.state → Kept o q.state → ((rest : Bytes) → Kept o (r rest).state) → Kept o (elim w as (λ c. Piece) [ Going ↦ p | Bad ↦ q | Done rest ↦ r rest ]).state
piece_by_outcome Going p q r hp hq hr = hp
piece_by_outcome Bad p q r hp hq hr = hq
piece_by_outcome (Done rest) p q r hp hq hr = hr rest

piece_by_read : {o : State} (w : Read Response) (p q u : Piece) (r : Response → Piece) → Kept o p.state → Kept o q.state → Kept o u.state → ((head : Response) → Kept o (r head).state)
    → Kept o (elim w as (λ c. Piece) [ More ↦ p | TooLong ↦ q | NoHead ↦ u | Whole head ↦ r head ]).state
piece_by_read More p q u r hp hq hu hr = hp
piece_by_read TooLong p q u r hp hq hu hr = hq
piece_by_read NoHead p q u r hp hq hu hr = hu
piece_by_read (Whole head) p q u r hp hq hu hr = hr head

head_piece_of-kept : {o : State} (k : Conn) (bytes : Bytes) (s : State) → Kept o s → Kept o (head_piece_of k bytes s).state
head_piece_of-kept k bytes s h = piece_by_read (response_at bytes) _ _ _ _ (on_conn-kept k.number (with_unread bytes) s h) (bad_head-kept k s h) (bad_head-kept k s h)
    (λ head. piece_when (is_interim head.status) _ _ (on_conn-kept k.number (with_unread []) s h) (head_came-kept k head s h))

head_piece-kept : {o : State} (k : Conn) (bytes : Bytes) (s : State) → Kept o s → Kept o (head_piece k bytes s).state
head_piece-kept k bytes s h = piece_when (is_early s k) _ _ (close_conn-kept true k s h) (head_piece_of-kept k (k.unread ++ bytes) s h)

body_piece_of-kept : {o : State} (k : Conn) (a : Answer) (e : Exchange) (bytes : Bytes) (s : State) → Kept o s → Kept o (body_piece_of k a e bytes s).state
body_piece_of-kept {o} k a e bytes s h = piece_by_outcome (body_of a.rule (a.raw ++ bytes)).outcome _ _ _ (on_conn-kept k.number _ _ there) (bad_response-kept k _ there) (λ rest. finish-kept k e a _ there)
  where
    there : Kept o (deliver e a (length (payload_of a)) (drop (length (payload_of a)) (body_of a.rule (a.raw ++ bytes)).payload) s)
    there = deliver-kept e a (length (payload_of a)) (drop (length (payload_of a)) (body_of a.rule (a.raw ++ bytes)).payload) s h

body_piece-kept : {o : State} (k : Conn) (a : Answer) (bytes : Bytes) (s : State) → Kept o s → Kept o (body_piece k a bytes s).state
body_piece-kept k a bytes s h = piece_each (front_of_line s k) _ _ (close_conn-kept false k s h) (λ e. body_piece_of-kept k a e bytes s h)

next_piece-kept : {o : State} (k : Conn) (bytes : Bytes) (s : State) → Kept o s → Kept o (next_piece k bytes s).state
next_piece-kept k bytes s h = piece_each k.answer _ _ (head_piece-kept k bytes s h) (λ a. body_piece-kept k a bytes s h)

pub got-kept : {o : State} (most n : ℕ) (bytes : Bytes) (s : State) → Kept o s → Kept o (got most n bytes s)
unfolding got
got-kept zero n bytes s h = h
got-kept (suc more) n bytes s h = each_of (conn s n) h (λ k. when (k.is_closing || is_empty bytes) h (got-kept more n _ _ (next_piece-kept k bytes s h)))

finish_first-kept : {o : State} (k : Conn) (a : Answer) (s : State) → Kept o s → Kept o (finish_first k a s)
unfolding finish_first
finish_first-kept k a s h = each_of (front_of_line s k) h (λ e. finish-kept k e a s h)

pub ended-kept : {o : State} (is_clean : Bool) (k : Conn) (s : State) → Kept o s → Kept o (ended is_clean k s)
unfolding ended
ended-kept is_clean k s h = each_of k.answer (close_conn-kept true k s h) (λ a. when (is_clean && is_whole_at_end a) (close_this-kept k.number _ (finish_first-kept k a s h)) (close_conn-kept true k s h))
