-- Responses keep the lines: a connection is answered for the first of its line, once all of that was asked, until it is over.
use Rattle.std.proofs.Common.{◌≡◌, ◌⊎◌, refl, ℕ, zero, suc, ◌+◌, Bool, true, false, not, ◌==◌, ◌&&◌, ◌||◌, List, [], ◌∷◌, ◌++◌, map, find, cond, drop, length, Option, Some, None, inl, inr, sym, subst, ap, ◌∙◌, codes}
use Rattle.std.specs.List.{list_any}
use Rattle.pp_framing.specs.Body.{Outcome, Done, Going, Bad}
use Rattle.pp_framing.specs.Framing.{rule_of}
use Rattle.pp_framing.specs.Rules.{body_of}
use Rattle.pp_framing.specs.declared.body.BodyRule.{BodyRule}
use Rattle.pp_head.specs.Read.{Read, Whole, TooLong, Bad as NoHead, More}
use Rattle.pp_head.specs.Response.{Response, response_at}
use Rattle.pp_objects.specs.Kept.{kept_of}
use Rattle.pp_pass.specs.Pipe.{Pipe, finished}
use Rattle.pp_pipe.specs.Authentication.{binds_connection}
use Rattle.pp_pipe.specs.Front.{is_interim, stays_open}
use Rattle.pp_text.specs.Bytes.{is_empty}
use Rattle.pp_text.specs.Fields.{has_field}
use Rattle.pp_valid.specs.declared.version.Version.{Version}
use Rattle.pp_law.specs.Connections.{conn, exchange, is_conn, is_for, is_outstanding, front_of_line, on_conn, on_exchange, on_client_of, without_shared_row, attempts_of, end_exchange, close_conn, fail}
use Rattle.pp_law.specs.Lists.{Bytes, change, is_some_with}
use Rattle.pp_law.specs.OwnHeads.{key_of, span_to_come, tell, use_body, drop_answer, useless, times_for, settle_on, may_refresh, settle_known, known_version, settle, may_join, names_version, nothing_to_come, settle_unchanged, unchanged, is_of_another, forbids_sharing, not_shared, not_modified, clears_row, is_private_part, is_widened, relayed, relay_head, other_head, other_part, own_head, is_bound, lacks_next, count_elsewhere, part_head, filling_head, version_in, is_wrong_head, join_bound, moved_on}
use Rattle.pp_law.specs.Passing.{pour, poured, passed_by}
use Rattle.pp_law.specs.Responses.{skipping, skip_body, rested, close_this, may_go_on, finish, bad_response, bad_head, by_aim, asks_head, answer_with, answered_by, end_if_empty, begin_answer, answer_for, head_came, Piece, is_early, with_unread, head_piece, deliver, payload_of, body_piece_of, body_piece, next_piece, got, is_whole_at_end, finish_first, ended}
use Rattle.pp_law.specs.Stages.{bound_of}
use Rattle.pp_law.specs.State.{State, Aim, Through, Own, Filling, Answer, Body, Joining, Dropping, Brought, Useless, Joins, Passes, TooWide, Conn, Exchange, Bound}
use Rattle.pp_law.specs.Table.{row}
use Rattle.pp_law.specs.ThroughHeads.{through_head}
use Rattle.pp_laws.specs.Runs.{IsIn}
use Rattle.pp_laws.proofs.Untouched.{bring_row-untouched, same_front}
use Rattle.pp_laws.proofs.Closings.{own_line_shrunk}
use Rattle.pp_laws.proofs.Lists.{Changed, in_change, in_find, one_of, other, same}
use Rattle.pp_laws.proofs.Pieces.{front_by}
use Rattle.pp_laws.proofs.Shrinks.{fail-shrinks, lose_attempt-shrinks}
use Rattle.pp_laws.proofs.Sound.{conn_number, exchange_number, first_of}
use Rattle.pp_laws.proofs.Tests.{number_same, same_number}
use Rattle.pp_laws_passed.proofs.Same.{itself}
use Rattle.pp_laws_passed.proofs.SameHeads.{bring_row-same, cleared_by-same, disproved-same, invalidated-same, join-same, note_sent-same, renew_row-same}
use Rattle.pp_laws_passed.proofs.SameRows.{clear-same, make_row-same}
use Rattle.pp_laws_pool.proofs.PoolGot.{deliver-conns}
use Rattle.pp_laws_pool.proofs.View.{View, Walk, holds, facts_of as view_facts, view, Lesser}
use Rattle.pp_laws_pool.proofs.WalkHeads.{by_aim-keeps}
use Rattle.pp_laws_lines.proofs.Cases.{by_aim_of, by_outcome, by_result, each_of, each_so, when, when_so}
use Rattle.pp_laws_lines.proofs.Lined.{Heads, IsPlain, Lined, Renamed, SameConn, conns_answered, facts_of, first_in, lined, named_here, naming, of_whole, on_gone, plain_named, renamed, set_apart, still, together, as_named, unwatched, watched, watched_apart, watching}
use Rattle.pp_laws_lines.proofs.LinedAsks.{close_conn-lined, closed_shut, end_exchange-lined, fail-lined, lose_attempt-lined, on_client_of-lined, on_conn-lined, on_exchange-lined, own_line}
use Rattle.pp_laws_lines.proofs.LinedTurns.{closed_behind}
use Rattle.pp_laws_lines.proofs.Stands.{SameAsk, Since, WholeIn, ask_same}

-- ---- what a head does to rows and requests

with_body : (body : Body) (e : Exchange) → SameAsk (record e { body = body }) e
with_body body e = record { number = refl; place = refl; text = refl; asked = refl; left = refl; key = refl; head = refl; aim = refl }

told : {b : Since} (e : Exchange) (brought : Brought) (body : Body) (s : State) → Lined b s → Lined b (tell e brought (use_body e body s))
unfolding tell use_body
told e brought body s h = lined (facts_of (on_exchange-lined e.number (λ x. record x { body = body }) s (with_body body) h))

drop_answer-lined : {b : Since} (e : Exchange) (s : State) → Lined b s → Lined b (drop_answer e s)
unfolding drop_answer
drop_answer-lined e s h = told e Useless Dropping s h

useless-lined : {b : Since} (e : Exchange) (s : State) → Lined b s → Lined b (useless e s)
unfolding useless
useless-lined e s h = lose_attempt-lined e _ (drop_answer-lined e s h)

settle_on-lined : {b : Since} (e : Exchange) (head : Response) (v : Version) (s : State) → Lined b s → Lined b (settle_on e head v s)
unfolding settle_on
settle_on-lined e head v s h = each_of (row s (key_of e)) h (λ x. told e (Joins x.id (not (has_field (codes "age") head.fields))) (Joining (span_to_come e head v x.id)) s h)

settle_known-lined : {b : Since} (e : Exchange) (head : Response) (v : Version) (s : State) → Lined b s → Lined b (settle_known e head v s)
unfolding settle_known
settle_known-lined e head v s h = when (may_refresh e head s) (settle_on-lined e head v _ (still (renew_row-same e head s (itself s)) h)) (useless-lined e s h)

settle-lined : {b : Since} (e : Exchange) (head : Response) (v : Version) (s : State) → Lined b s → Lined b (settle e head v s)
unfolding settle
settle-lined e head v s h =
    when (is_some_with (may_join e head v) (known_version s (key_of e))) (settle_known-lined e head v s h)
    (settle_on-lined e head v _ (still (make_row-same (key_of e) v (kept_of head.fields (times_for e head s)) (times_for e head s) s (itself s)) h))

settle_unchanged-lined : {b : Since} (e : Exchange) (s : State) → Lined b s → Lined b (settle_unchanged e s)
unfolding settle_unchanged
settle_unchanged-lined e s h = each_of (row s (key_of e)) h (λ x. told e (Joins x.id false) (Joining (nothing_to_come x)) s h)

unchanged-lined : {b : Since} (e : Exchange) (head : Response) (s : State) → Lined b s → Lined b (unchanged e head s)
unfolding unchanged
unchanged-lined e head s h = when (is_some_with (names_version e) (known_version s (key_of e)) && may_refresh e head s) (settle_unchanged-lined e _ (still (renew_row-same e head s (itself s)) h)) (useless-lined e s h)

not_shared-lined : {b : Since} (e : Exchange) (s : State) → Lined b s → Lined b (not_shared e s)
unfolding not_shared
not_shared-lined e s h = on_client_of-lined e (without_shared_row (attempts_of e)) _ (drop_answer-lined e _ (still (clear-same (key_of e) s (itself s)) h))

not_modified-lined : {b : Since} (e : Exchange) (head : Response) (s : State) → Lined b s → Lined b (not_modified e head s)
unfolding not_modified
not_modified-lined e head s h =
    when (forbids_sharing head) (not_shared-lined e s h) (when (is_of_another head s (key_of e)) (useless-lined e _ (still (clear-same (key_of e) s (itself s)) h)) (unchanged-lined e head s h))

relay_head-lined : {b : Since} (e : Exchange) (head : Response) (rule : BodyRule) (s : State) → Lined b s → Lined b (relay_head e head rule s)
unfolding relay_head
relay_head-lined e head rule s h = told e (Passes (passed_by e head rule)) (relayed e s) s h

other_head-lined : {b : Since} (e : Exchange) (head : Response) (rule : BodyRule) (s : State) → Lined b s → Lined b (other_head e head rule s)
unfolding other_head
other_head-lined e head rule s h =
    let cleared = still (cleared_by-same head e s (itself s)) h in
    when (is_widened e head) (told e TooWide Dropping _ cleared) (relay_head-lined e head rule _ cleared)

other_part-lined : {b : Since} (e : Exchange) (head : Response) (rule : BodyRule) (s : State) → Lined b s → Lined b (other_part e head rule s)
unfolding other_part
other_part-lined e head rule s h =
    when (is_private_part head) (not_shared-lined e s h) (when (clears_row head) (relay_head-lined e head rule _ (still (cleared_by-same head e s (itself s)) h)) (useless-lined e s h))

own_head-lined : {b : Since} (e : Exchange) (head : Response) (rule : BodyRule) (s : State) → Lined b s → Lined b (own_head e head rule s)
unfolding own_head
own_head-lined e head rule s h = each_of (version_in e head) (when (head.status == 304) (not_modified-lined e head s h) (other_head-lined e head rule s h)) (λ v. settle-lined e head v s h)

part_head-lined : {b : Since} (e : Exchange) (head : Response) (rule : BodyRule) (s : State) → Lined b s → Lined b (part_head e head rule s)
unfolding part_head
part_head-lined e head rule s h = each_of (version_in e head) (when (head.status == 304) (not_modified-lined e head s h) (other_part-lined e head rule s h)) (λ v. settle-lined e head v s h)

filling_head-lined : {b : Since} (e : Exchange) (head : Response) (rule : BodyRule) (s : State) → Lined b s → Lined b (filling_head e head rule s)
unfolding filling_head count_elsewhere
filling_head-lined e head rule s h =
    when (is_some_with is_bound (exchange (part_head e head rule s) e.number) && list_any (λ c. is_for e c && lacks_next (part_head e head rule s) c) (part_head e head rule s).clients)
    (lose_attempt-lined e _ (part_head-lined e head rule s h)) (part_head-lined e head rule s h)

through_head-lined : {b : Since} (e : Exchange) (head : Response) (rule : BodyRule) (s : State) → Lined b s → Lined b (through_head e head rule s)
unfolding through_head
through_head-lined e head rule s h = relay_head-lined e head rule _ (still (disproved-same e head _ (invalidated-same e head s (itself s))) h)

by_aim-lined : {b : Since} (e : Exchange) (head : Response) (rule : BodyRule) (s : State) → Lined b s → Lined b (by_aim e head rule s)
unfolding by_aim
by_aim-lined e head rule s h = by_aim_of e.aim (through_head-lined e head rule s h) (own_head-lined e head rule s h) (λ v from to. filling_head-lined e head rule s h)

-- ---- connections that come from these

abbrev FromThose : List Conn → View → Type 0
FromThose ks v = (j : Conn) → IsIn j v.conns → (g : Conn) × IsIn g ks × (j.number ≡ g.number) × ((n : ℕ) → IsIn n j.line → IsIn n g.line)

from_walk : (ks : List Conn) → Walk (FromThose ks)
unfolding on_exchange
from_walk ks = record {
  clients = λ f kept v h. h;
  asks = λ f kept v h. h;
  left = λ test v h. h;
  over = λ test v h. h;
  conns = λ f lesser v h. λ j i. by f lesser v h j (in_mapped f j v.conns i);
  chunks = λ test v h. h;
  again = λ n s may h. h;
}
  where
    in_mapped : (f : Conn → Conn) (j : Conn) (xs : List Conn) → IsIn j (map f xs) → (x : Conn) × IsIn x xs × (j ≡ f x)
    in_mapped f j [] i = absurd i
    in_mapped f j (x ∷ xs) (inl e) = (x, inl refl, e)
    in_mapped f j (x ∷ xs) (inr i) = let r = in_mapped f j xs i in (r.0, inr r.1, r.2)

    by : (f : Conn → Conn) → ((k : Conn) → Lesser (f k) k) → (v : View) → FromThose ks v → (j : Conn) → (x : Conn) × IsIn x v.conns × (j ≡ f x) → (g : Conn) × IsIn g ks × (j.number ≡ g.number) × ((n : ℕ) → IsIn n j.line → IsIn n g.line)
    by f lesser v h j r =
        let g = h r.0 r.1 in
        let l = lesser r.0 in
        (g.0, g.1, ap conn_number r.2 ∙ l.number ∙ g.2, λ n m. g.3 n (l.within n (subst (λ (y : Conn). IsIn n y.line) r.2 m)))

aim_conns : (e : Exchange) (head : Response) (rule : BodyRule) (s : State) → FromThose s.conns (view (by_aim e head rule s))
aim_conns e head rule s = view_facts (by_aim-keeps (from_walk s.conns) e head rule s (holds (λ j i. (j, i, refl, λ n l. l))))

-- ---- ends

skip_body-lined : {b : Since} (e : Exchange) (s : State) → Lined b s → Lined b (skip_body e s)
unfolding skip_body
skip_body-lined e s h = by_aim_of e.aim (on_client_of-lined e skipping s h) h (λ v from to. h)

skip_body-conns : (e : Exchange) (s : State) → (skip_body e s).conns ≡ s.conns
unfolding skip_body on_client_of
skip_body-conns e s = by e.aim
  where
    by : (aim : Aim) → (elim aim as (λ c. State) [ Through ↦ record s { clients = change (is_for e) skipping s.clients } | Own ↦ s | Filling v from to ↦ s ]).conns ≡ s.conns
    by Through = refl
    by Own = refl
    by (Filling v from to) = refl

pour-lined : {b : Since} (e : Exchange) (f : Pipe → Pipe) (s : State) → Lined b s → Lined b (pour e f s)
unfolding pour on_client_of
pour-lined e f s h = lined (facts_of h)

pour-conns : (e : Exchange) (f : Pipe → Pipe) (s : State) → (pour e f s).conns ≡ s.conns
unfolding pour on_client_of
pour-conns e f s = refl

close_this-lined : {b : Since} (n : ℕ) (s : State) → IsPlain b → Lined b s → Lined b (close_this n s)
unfolding close_this
close_this-lined n s p h = each_so (conn s n) (λ none. h) (λ k found. close_conn-lined true k s p.kept (own_line k s (in_find (is_conn n) k s.conns found).0 h) h)

not_found : (n : ℕ) (ks : List Conn) (k : Conn) → find (is_conn n) ks ≡ None → IsIn k ks → (k.number == n) ≡ false
not_found n [] k none i = absurd i
not_found n (j ∷ ks) k none i = by (is_conn n j) refl none i (λ rest i2. not_found n ks k rest i2)
  where
    by : (t : Bool) → is_conn n j ≡ t → cond t (Some j) (find (is_conn n) ks) ≡ None → (k ≡ j) ⊎ IsIn k ks → (find (is_conn n) ks ≡ None → IsIn k ks → (k.number == n) ≡ false) → (k.number == n) ≡ false
    by true is rest i2 more = absurd (cc rest)
    by false is rest (inl eq) more = ap (is_conn n) eq ∙ is
    by false is rest (inr i2) more = more rest i2

-- the connection whose line was not looked at is closed, and all is looked at again
close_apart : {b : Since} (n : ℕ) (s : State) → IsPlain b → Lined (set_apart b n) s → Lined b (close_this n s)
unfolding close_this
close_apart {b} n s p h = by (conn s n) refl
  where
    by : (o : Option Conn) → conn s n ≡ o → Lined b (elim o as (λ c. State) [ None ↦ s | Some k ↦ close_conn true k s ])
    by None none = together n s p (λ k i is. let both : true ≡ false = sym (number_same n) ∙ ap (λ m. m == n) (sym is) ∙ not_found n s.conns k none i in absurd (cc both)) h
    by (Some k) found =
        let there = in_find (is_conn n) k s.conns found in
        let number : k.number ≡ n = same_number k.number n there.1 in
        together n (close_conn true k s) p (subst (λ m. (j : Conn) → IsIn j (close_conn true k s).conns → j.number ≡ m → j.is_closing ≡ true) number (closed_shut true k s)) (close_conn-lined true k s refl (own_line k s there.0 h) h)

middle : (a c d : Bool) → (a && c && d) ≡ true → c ≡ true
middle true true true is = refl
middle true true false is = refl
middle true false true is = absurd (cc is)
middle true false false is = absurd (cc is)
middle false c d is = absurd (cc is)

rested_same : (head : Response) (k : Conn) → SameConn (rested head k) k
rested_same head k = record { number = refl; host = refl; port = refl; line = refl; answer = inr refl; closing = refl }

finish-lined : {b : Since} (k : Conn) (e : Exchange) (a : Answer) (s : State) → IsPlain b → e.asked ≡ length e.text → ((j : Conn) → IsIn j s.conns → IsIn e.number j.line → j.number ≡ k.number) → Lined (watching b k.number e) s → Lined b (finish k e a s)
unfolding finish on_conn
finish-lined {b} k e a s p out mine hs = when_so (may_go_on e a.head) goes_on stops
  where
    v : State
    v = skip_body e (pour e finished s)

    hv : Lined (watching b k.number e) v
    hv = skip_body-lined e _ (pour-lined e finished s hs)

    mine_v : (j : Conn) → IsIn j v.conns → IsIn e.number j.line → j.number ≡ k.number
    mine_v j i l = mine j (subst (λ ks. IsIn j ks) (skip_body-conns e (pour e finished s) ∙ pour-conns e finished s) i) l

    done : State
    done = on_conn k.number (rested a.head) (end_exchange e.number v)

    full : may_go_on e a.head ≡ true → WholeIn v.exchanges e.number
    full go x i is =
        let w = (facts_of hv).kept e x refl i is in
        let zero_left : e.body_left ≡ 0 = same_number e.body_left 0 (middle (stays_open a.head) (e.body_left == 0) (not (binds_connection e.head.fields)) go) in
        (w.asked ∙ out ∙ ap (λ (t : Bytes). length t) (sym w.text), w.left ∙ zero_left)

    unanswered : (j : Conn) (x : Answer) → IsIn j done.conns → j.number ≡ k.number → j.answer ≡ Some x → Heads (b.firsts j.number) done.exchanges j
    unanswered j x i number is = by (in_change (is_conn k.number) (rested a.head) j (end_exchange e.number v).conns i)
      where
        by : Changed (is_conn k.number) (rested a.head) (end_exchange e.number v).conns j → Heads (b.firsts j.number) done.exchanges j
        by (same l isnt) = let both : true ≡ false = sym (number_same k.number) ∙ ap (λ m. m == k.number) (sym number) ∙ isnt in absurd (cc both)
        by (other g l hit eq) = let both : None ≡ Some x = sym (ap (λ (y : Conn). y.answer) eq) ∙ is in absurd (cc both)

    goes_on : may_go_on e a.head ≡ true → Lined b done
    goes_on go =
        unwatched k.number e done p unanswered
        (on_conn-lined k.number (rested a.head) _ (rested_same a.head) (end_exchange-lined e.number v (λ j i l. of_whole (full go) (ap (λ n. Some n) (sym (mine_v j i l)))) hv))

    stops : may_go_on e a.head ≡ false → Lined b (close_this k.number done)
    stops isnt =
        close_apart k.number done p
        (on_conn-lined k.number (rested a.head) _ (rested_same a.head)
        (end_exchange-lined e.number v (λ j i l. on_gone (ap (λ n. Some n) (sym (mine_v j i l))) (ap (λ n. Some n) (sym (mine_v j i l)))) (watched_apart b k.number e v hv)))

bad_response-lined : {b : Since} (k : Conn) (s : State) → IsPlain b → IsIn k s.conns → Lined b s → Lined b (bad_response k s)
unfolding bad_response
bad_response-lined k s p there h =
    each_so (front_of_line s k) (λ none. close_conn-lined false k s p.kept (own_line k s there h) h)
    (λ e front. let f = front_by s k.line e front in closed_behind false k e s (fail e s) p there f.0 (first_in k.line e.number f.1) (fail-shrinks e s) h (fail-lined e s h))

bad_head-lined : {b : Since} (k : Conn) (s : State) → IsPlain b → IsIn k s.conns → Lined b s → Lined b (bad_head k s)
unfolding bad_head
bad_head-lined k s p there h =
    when k.has_brought
    (each_of (front_of_line s k) (close_conn-lined false k s p.kept (own_line k s there h) h)
    (λ e. close_conn-lined false k _ p.kept (own_line_shrunk k s _ (lose_attempt-shrinks e s) (own_line k s there h)) (lose_attempt-lined e s h)))
    (bad_response-lined k s p there h)

-- ---- heads

module _ {b : Since} (k : Conn) (e : Exchange) (s : State) (p : IsPlain b) (there : IsIn k s.conns) (is_open : k.is_closing ≡ false) (front : front_of_line s k ≡ Some e) (out : e.asked ≡ length e.text) (h : Lined b s) (named : b.firsts k.number ≡ first_of k.line) where
  given : IsIn e s.exchanges × (first_of k.line ≡ Some e.number)
  given = front_by s k.line e front

  it : (j : Conn) → IsIn j s.conns → j.number ≡ k.number → j ≡ k
  it j i number = one_of conn_number s.conns j k (facts_of h).apart i there number

  heads : (j : Conn) → IsIn j s.conns → j.number ≡ k.number → (j.is_closing ≡ false) × Heads (b.firsts j.number) s.exchanges j
  heads j i number = (
    ap (λ (x : Conn). x.is_closing) (it j i number) ∙ is_open,
    record {
      number = e.number;
      expected = ap (λ (x : Conn). b.firsts x.number) (it j i number) ∙ named ∙ given.1;
      first = ap (λ (x : Conn). first_of x.line) (it j i number) ∙ given.1;
      out = λ x m at. let one : x ≡ e = one_of exchange_number s.exchanges x e (facts_of h).rise m given.0 at in ap (λ (y : Exchange). y.asked) one ∙ out ∙ ap (λ (y : Exchange). length y.text) (sym one);
    },
  )

  mine : (j : Conn) → IsIn j s.conns → IsIn e.number j.line → j.number ≡ k.number
  mine j i l = own_line k s there h e j given.0 (first_in k.line e.number given.1) i l

  mine_answered : (a : Answer) (j : Conn) → IsIn j (on_conn k.number (answered_by a) s).conns → IsIn e.number j.line → j.number ≡ k.number
  unfolding on_conn
  mine_answered a j i l = by (in_change (is_conn k.number) (answered_by a) j s.conns i)
    where
      by : Changed (is_conn k.number) (answered_by a) s.conns j → j.number ≡ k.number
      by (same m isnt) = mine j m l
      by (other g m hit eq) = ap conn_number eq ∙ same_number g.number k.number hit

  begin_answer-lined : (head : Response) (rule : BodyRule) → Lined b (begin_answer k e head rule s)
  unfolding begin_answer end_if_empty on_conn
  begin_answer-lined head rule = by_outcome (body_of rule []).outcome (λ rest. finish-lined k e a u p out mine_u watched_u) plain_u plain_u
    where
      a : Answer
      a = answer_with e head rule

      t : State
      t = on_conn k.number (answered_by a) s

      u : State
      u = by_aim e head rule t

      plain_t : Lined b t
      plain_t = lined (conns_answered b s k.number (answered_by a) (λ j. refl) (λ j. refl) (λ j. refl) (λ j. refl) (λ j. refl) heads (facts_of h))

      plain_u : Lined b u
      plain_u = by_aim-lined e head rule t plain_t

      watched_u : Lined (watching b k.number e) u
      watched_u = by_aim-lined e head rule t (watched k.number e t p given.0 plain_t)

      mine_u : (j : Conn) → IsIn j u.conns → IsIn e.number j.line → j.number ≡ k.number
      mine_u j i l = let g = aim_conns e head rule t j i in g.2 ∙ mine_answered a g.0 g.1 (g.3 e.number l)

  answer_for-lined : (head : Response) → Lined b (answer_for k e head s)
  unfolding answer_for
  answer_for-lined head = when (is_wrong_head e head) (bad_head-lined k s p there h) (by_result (rule_of (asks_head e) head.status head.fields) (λ rule. begin_answer-lined head rule) (λ fault. bad_head-lined k s p there h))

-- all of the first was asked
outstanding : (s : State) (k : Conn) (e : Exchange) → is_early s k ≡ false → front_of_line s k ≡ Some e → e.asked ≡ length e.text
outstanding s k e early front = same_number e.asked (length e.text) (true_of (is_some_with is_outstanding (front_of_line s k)) early)
  where
    of_front : is_some_with is_outstanding (front_of_line s k) ≡ is_outstanding e
    of_front = ap (is_some_with is_outstanding) front

    true_of : (t : Bool) → not t ≡ false → is_outstanding e ≡ true
    true_of t isnt = sym of_front ∙ by (is_some_with is_outstanding (front_of_line s k)) early
      where
        by : (x : Bool) → not x ≡ false → x ≡ true
        by true is = refl
        by false is = absurd (cc is)

head_came-lined : {b : Since} (k : Conn) (head : Response) (s : State) → IsPlain b → IsIn k s.conns → k.is_closing ≡ false → is_early s k ≡ false → b.firsts k.number ≡ first_of k.line → Lined b s → Lined b (head_came k head s)
unfolding head_came
head_came-lined k head s p there is_open early named h =
    each_so (front_of_line s k) (λ none. close_conn-lined false k s p.kept (own_line k s there h) h)
    (λ e front.
    let u = bring_row-untouched e head s in
    answer_for-lined k e _ p (subst (λ ks. IsIn k ks) (sym u.conns) there) is_open (same_front k u ∙ front) (outstanding s k e early front) (still (bring_row-same e head s (itself s)) h) named head)

piece_when : {b : Since} (t : Bool) (x y : Piece) → (t ≡ true → Lined b x.state) → (t ≡ false → Lined b y.state) → Lined b (elim t as (λ c. Piece) [ true ↦ x | false ↦ y ]).state
piece_when true x y hx hy = hx refl
piece_when false x y hx hy = hy refl

with_unread-lined : {b : Since} (k : Conn) (bytes : Bytes) (s : State) → Lined b s → Lined b (on_conn k.number (with_unread bytes) s)
with_unread-lined k bytes s h = on_conn-lined k.number (with_unread bytes) s (λ j. record { number = refl; host = refl; port = refl; line = refl; answer = inl refl; closing = refl }) h

head_piece_by : {b : Since} (k : Conn) (bytes : Bytes) (s : State) (read : Read Response) → IsPlain b → IsIn k s.conns → k.is_closing ≡ false → is_early s k ≡ false → b.firsts k.number ≡ first_of k.line → Lined b s
    → Lined b (elim read as (λ c. Piece) [
      | More ↦ record { state = on_conn k.number (with_unread bytes) s; rest = [] }
      | TooLong ↦ record { state = bad_head k s; rest = [] }
      | NoHead ↦ record { state = bad_head k s; rest = [] }
      | Whole head ↦ elim (is_interim head.status) as (λ c. Piece) [
        | true ↦ record { state = on_conn k.number (with_unread []) s; rest = drop head.length bytes }
        | false ↦ record { state = head_came k head s; rest = drop head.length bytes }
      ]
    ]).state
head_piece_by k bytes s More p there is_open early named h = with_unread-lined k bytes s h
head_piece_by k bytes s TooLong p there is_open early named h = bad_head-lined k s p there h
head_piece_by k bytes s NoHead p there is_open early named h = bad_head-lined k s p there h
head_piece_by k bytes s (Whole head) p there is_open early named h = piece_when (is_interim head.status) _ _ (λ is. with_unread-lined k [] s h) (λ is. head_came-lined k head s p there is_open early named h)

head_piece-lined : {b : Since} (k : Conn) (bytes : Bytes) (s : State) → IsPlain b → IsIn k s.conns → k.is_closing ≡ false → b.firsts k.number ≡ first_of k.line → Lined b s → Lined b (head_piece k bytes s).state
head_piece-lined k bytes s p there is_open named h =
    piece_when (is_early s k) _ _ (λ is. close_conn-lined true k s p.kept (own_line k s there h) h) (λ isnt. head_piece_by k (k.unread ++ bytes) s (response_at (k.unread ++ bytes)) p there is_open isnt named h)

-- ---- bodies

moved_same : (m : ℕ) (e : Exchange) → SameAsk (moved_on m e) e
moved_same m e = by (bound_of e)
  where
    by : (o : Option Bound) → SameAsk (elim o as (λ c. Exchange) [ None ↦ e | Some to ↦ record e { body = Joining (record to { next = to.next + m }) } ]) e
    by None = ask_same e
    by (Some to) = record { number = refl; place = refl; text = refl; asked = refl; left = refl; key = refl; head = refl; aim = refl }

join_bound-lined : {b : Since} (e : Exchange) (bytes : Bytes) (s : State) → Lined b s → Lined b (join_bound e bytes s)
unfolding join_bound
join_bound-lined e bytes s h = each_of (bound_of e) h (λ to. on_exchange-lined e.number (moved_on (length bytes)) _ (moved_same (length bytes)) (still (join-same to bytes s (itself s)) h))

deliver-lined : {b : Since} (e : Exchange) (a : Answer) (at : ℕ) (bytes : Bytes) (s : State) → Lined b s → Lined b (deliver e a at bytes s)
unfolding deliver
deliver-lined e a at bytes s h = pour-lined e (poured bytes) _ (join_bound-lined e bytes _ (still (note_sent-same e a at bytes s (itself s)) h))

open_answered : {b : Since} (k : Conn) (a : Answer) (s : State) → IsIn k s.conns → k.answer ≡ Some a → Lined b s → k.is_closing ≡ false
open_answered k a s there has h = by k.is_closing refl
  where
    by : (t : Bool) → k.is_closing ≡ t → k.is_closing ≡ false
    by true is = let both : None ≡ Some a = sym ((facts_of h).closed k there is).1 ∙ has in absurd (cc both)
    by false isnt = isnt

-- of one that is answered all of the first was asked
answered_out : {b : Since} (k : Conn) (a : Answer) (e : Exchange) (s : State) → IsPlain b → IsIn k s.conns → k.answer ≡ Some a → front_of_line s k ≡ Some e → Lined b s → e.asked ≡ length e.text
answered_out {b} k a e s p there has front h =
    let f = front_by s k.line e front in
    let w = (facts_of h).answers k a there has (λ is. let both : None ≡ Some k.number = sym p.but ∙ is in cc both) in
    let both : Some e.number ≡ Some w.number = sym f.1 ∙ w.first in
    let one : e.number ≡ w.number = cc in
    w.out e f.0 one

body_piece-lined : {b : Since} (k : Conn) (a : Answer) (bytes : Bytes) (s : State) → IsPlain b → IsIn k s.conns → k.answer ≡ Some a → Lined b s → Lined b (body_piece k a bytes s).state
unfolding on_conn
body_piece-lined {b} k a bytes s p there has h = by (front_of_line s k) refl
  where
    of_front : (e : Exchange) → front_of_line s k ≡ Some e → Lined b (body_piece_of k a e bytes s).state
    of_front e front = at (body_of a.rule (a.raw ++ bytes)).outcome
      where
        now : ℕ
        now = length (payload_of a)

        fresh : Bytes
        fresh = drop (length (payload_of a)) (body_of a.rule (a.raw ++ bytes)).payload

        t : State
        t = deliver e a (length (payload_of a)) (drop (length (payload_of a)) (body_of a.rule (a.raw ++ bytes)).payload) s

        f : IsIn e s.exchanges × (first_of k.line ≡ Some e.number)
        f = front_by s k.line e front

        conns : t.conns ≡ s.conns
        conns = deliver-conns e a (length (payload_of a)) (drop (length (payload_of a)) (body_of a.rule (a.raw ++ bytes)).payload) s

        ht : Lined b t
        ht = deliver-lined e a _ _ s h

        there_t : IsIn k t.conns
        there_t = subst (λ ks. IsIn k ks) (sym conns) there

        mine_t : (j : Conn) → IsIn j t.conns → IsIn e.number j.line → j.number ≡ k.number
        mine_t j i l = own_line k s there h e j f.0 (first_in k.line e.number f.1) (subst (λ ks. IsIn j ks) conns i) l

        heads : (j : Conn) → IsIn j t.conns → j.number ≡ k.number → (j.is_closing ≡ false) × Heads (b.firsts j.number) t.exchanges j
        heads j i number =
            let it : j ≡ k = one_of conn_number t.conns j k (facts_of ht).apart i there_t number in
            (ap (λ (x : Conn). x.is_closing) it ∙ open_answered k a s there has h, (facts_of ht).answers j a i (ap (λ (x : Conn). x.answer) it ∙ has) (λ is. let both : None ≡ Some j.number = sym p.but ∙ is in cc both))

        going : Lined b (on_conn k.number (λ i. record i { answer = Some (record a { raw = a.raw ++ bytes }) }) t)
        going = lined (conns_answered b t k.number (λ i. record i { answer = Some (record a { raw = a.raw ++ bytes }) }) (λ j. refl) (λ j. refl) (λ j. refl) (λ j. refl) (λ j. refl) heads (facts_of ht))

        at : (o : Outcome) → Lined b (elim o as (λ c. Piece) [
          | Going ↦ record { state = on_conn k.number (λ i. record i { answer = Some (record a { raw = a.raw ++ bytes }) }) t; rest = [] }
          | Bad ↦ record { state = bad_response k t; rest = [] }
          | Done rest ↦ record { state = finish k e a t; rest = rest }
        ]).state
        at Going = going
        at Bad = bad_response-lined k t p there_t ht
        at (Done rest) = finish-lined k e a t p (answered_out k a e s p there has front h) mine_t (deliver-lined e a _ _ s (watched k.number e s p f.0 h))

    by : (o : Option Exchange) → front_of_line s k ≡ o → Lined b (elim o as (λ c. Piece) [ None ↦ record { state = close_conn false k s; rest = [] } | Some e ↦ body_piece_of k a e bytes s ]).state
    by None none = close_conn-lined false k s p.kept (own_line k s there h) h
    by (Some e) front = of_front e front

-- whose response comes, where a head is to come
abbrev pub names_at : Since → Conn → Since
names_at b k = elim k.answer [ Some a ↦ b | None ↦ naming b k.number (first_of k.line) ]

pub next_piece-lined : {b : Since} (k : Conn) (bytes : Bytes) (s : State) → IsPlain b → IsIn k s.conns → k.is_closing ≡ false → Lined b s → Lined (names_at b k) (next_piece k bytes s).state
next_piece-lined {b} k bytes s p there is_open h = by k.answer refl
  where
    unanswered : k.answer ≡ None → (j : Conn) (a : Answer) → IsIn j s.conns → j.number ≡ k.number → j.answer ≡ Some a → ⊥
    unanswered none j a i number is =
        let it : j ≡ k = one_of conn_number s.conns j k (facts_of h).apart i there number in
        let both : None ≡ Some a = sym (ap (λ (x : Conn). x.answer) it ∙ none) ∙ is in cc both

    by : (o : Option Answer) → k.answer ≡ o → Lined (elim o as (λ c. Since) [ Some a ↦ b | None ↦ naming b k.number (first_of k.line) ]) (elim o as (λ c. Piece) [ Some a ↦ body_piece k a bytes s | None ↦ head_piece k bytes s ]).state
    by None none = head_piece-lined k bytes s (plain_named k.number (first_of k.line) p) there is_open (named_here b k.number (first_of k.line)) (renamed k.number (first_of k.line) s p (unanswered none) h)
    by (Some a) has = body_piece-lined k a bytes s p there has h

pub got-lined : {b : Since} (more n : ℕ) (bytes : Bytes) (s : State) → IsPlain b → Lined b s → Renamed b (got more n bytes s)
unfolding got
got-lined zero n bytes s p h = as_named s p h
got-lined {b} (suc more) n bytes s p h = by (conn s n) refl (λ c rest u q hu. got-lined {b = c} more n rest u q hu)
  where
    piece : (k : Conn) (o : Option Answer) → ((x : Since) (rest : Bytes) (u : State) → IsPlain x → Lined x u → Renamed x (got more n rest u)) → Lined (elim o as (λ x. Since) [ Some a ↦ b | None ↦ naming b k.number (first_of k.line) ]) (next_piece k bytes s).state
        → Renamed b (got more n (next_piece k bytes s).rest (next_piece k bytes s).state)
    piece k (Some a) later hu = later b (next_piece k bytes s).rest (next_piece k bytes s).state p hu
    piece k None later hu =
        let r = later (naming b k.number (first_of k.line)) (next_piece k bytes s).rest (next_piece k bytes s).state (plain_named k.number (first_of k.line) p) hu in
        record { firsts = r.firsts; lines = r.lines }

    at : (k : Conn) → IsIn k s.conns → (t e : Bool) → k.is_closing ≡ t → ((x : Since) (rest : Bytes) (u : State) → IsPlain x → Lined x u → Renamed x (got more n rest u))
        → Renamed b (elim (t || e) as (λ c. State) [ true ↦ s | false ↦ got more n (next_piece k bytes s).rest (next_piece k bytes s).state ])
    at k there true e is later = as_named s p h
    at k there false true is later = as_named s p h
    at k there false false is later = piece k k.answer later (next_piece-lined k bytes s p there is h)

    by : (o : Option Conn) → conn s n ≡ o → ((x : Since) (rest : Bytes) (u : State) → IsPlain x → Lined x u → Renamed x (got more n rest u))
        → Renamed b (elim o as (λ c. State) [ None ↦ s | Some k ↦ elim (k.is_closing || is_empty bytes) as (λ c. State) [ true ↦ s | false ↦ got more n (next_piece k bytes s).rest (next_piece k bytes s).state ] ])
    by None none later = as_named s p h
    by (Some k) found later = at k (in_find (is_conn n) k s.conns found).0 k.is_closing (is_empty bytes) refl later

finish_first-lined : {b : Since} (k : Conn) (a : Answer) (s : State) → IsPlain b → IsIn k s.conns → k.answer ≡ Some a → Lined b s → Lined b (finish_first k a s)
unfolding finish_first
finish_first-lined k a s p there has h =
    each_so (front_of_line s k) (λ none. h)
    (λ e front. let f = front_by s k.line e front in
    finish-lined k e a s p (answered_out k a e s p there has front h) (λ j i l. own_line k s there h e j f.0 (first_in k.line e.number f.1) i l) (watched k.number e s p f.0 h))

pub ended-lined : {b : Since} (is_clean : Bool) (k : Conn) (s : State) → IsPlain b → IsIn k s.conns → Lined b s → Lined b (ended is_clean k s)
unfolding ended
ended-lined {b} is_clean k s p there h = by k.answer refl
  where
    by : (o : Option Answer) → k.answer ≡ o → Lined b (elim o as (λ c. State) [ None ↦ close_conn true k s | Some a ↦ elim (is_clean && is_whole_at_end a) as (λ c. State) [ true ↦ close_this k.number (finish_first k a s) | false ↦ close_conn true k s ] ])
    by None none = close_conn-lined true k s p.kept (own_line k s there h) h
    by (Some a) has = when (is_clean && is_whole_at_end a) (close_this-lined k.number _ p (finish_first-lined k a s p there has h)) (close_conn-lined true k s p.kept (own_line k s there h) h)
