-- What one read of an origin brings, response by response, keeps the bounds of what is connected.
use Rattle.std.proofs.Common.{◌≡◌, refl, ℕ, zero, suc, ◌+◌, Bool, true, false, ◌&&◌, ◌||◌, List, [], ◌++◌, drop, length, Option, Some, None, Result, Ok, Err, subst, arith}
use Rattle.pp_framing.specs.Body.{Outcome, Done, Going, Bad}
use Rattle.pp_framing.specs.Framing.{rule_of}
use Rattle.pp_framing.specs.Rules.{body_of}
use Rattle.pp_framing.specs.declared.body.BodyRule.{BodyRule}
use Rattle.pp_framing.specs.declared.framing.ResponseFault.{ResponseFault}
use Rattle.pp_head.specs.Read.{Read, Whole, TooLong, Bad as NoHead, More}
use Rattle.pp_head.specs.Response.{Response, response_at}
use Rattle.pp_pass.specs.Pipe.{finished}
use Rattle.pp_pipe.specs.Front.{is_interim}
use Rattle.pp_text.specs.Bytes.{is_empty}
use Rattle.pp_law.specs.Chunks.{note_use}
use Rattle.pp_law.specs.Connections.{conn, is_conn, on_conn, on_client_of, on_exchange, front_of_line, close_conn, end_exchange, lose_attempt}
use Rattle.pp_law.specs.Lists.{Bytes}
use Rattle.pp_law.specs.OwnHeads.{is_wrong_head, join, join_bound, moved_on, note_own, note_sent}
use Rattle.pp_law.specs.Passing.{pour, poured}
use Rattle.pp_law.specs.Responses.{skipping, skip_body, rested, close_this, may_go_on, finish, bad_response, bad_head, asks_head, answer_with, answered_by, end_if_empty, begin_answer, answer_for, head_came, Piece, is_early, with_unread, head_piece, deliver, payload_of, body_piece_of, body_piece, next_piece, got, is_whole_at_end, finish_first, ended, bring_row}
use Rattle.pp_law.specs.Stages.{bound_of}
use Rattle.pp_law.specs.State.{State, Joining, Answer, Bound, Conn, Exchange}
use Rattle.pp_law.specs.Table.{instance}
use Rattle.pp_laws.specs.Runs.{IsIn}
use Rattle.pp_laws.proofs.Lists.{in_find}
use Rattle.pp_laws.proofs.Shrinks.{end_exchange-shrinks, fail-shrinks, lose_attempt-shrinks, shrinks_on}
use Rattle.pp_laws.proofs.Untouched.{bring_row-untouched}
use Rattle.pp_laws_bounds.proofs.Cases.{by_aim_of, by_outcome, each_of, each_so, when}
use Rattle.pp_laws_bounds.proofs.Changes.{same_exchange}
use Rattle.pp_laws_bounds.proofs.Clients.{pour-kept}
use Rattle.pp_laws_bounds.proofs.Closings.{Covers, close_conn-kept, covers, covers_shrunk}
use Rattle.pp_laws_bounds.proofs.Exchanges.{end_exchange-kept, fail-kept, lose_attempt-kept, on_client_of-kept, on_conn-kept, on_exchange-kept}
use Rattle.pp_laws_bounds.proofs.Heads.{bring_row-kept, by_aim-kept}
use Rattle.pp_laws_bounds.proofs.Kept.{Kept, facts_of, kept}
use Rattle.pp_laws_bounds.proofs.Rows.{note_use-kept}

-- ---- ends

skip_body-kept : {but : List ℕ} (e : Exchange) (s : State) → Kept but s → Kept but (skip_body e s)
unfolding skip_body
skip_body-kept e s h = by_aim_of e.aim (on_client_of-kept e skipping s h) h (λ v from to. h)

close_this-kept : (n : ℕ) (s : State) → Kept [] s → Kept [] (close_this n s)
unfolding close_this
close_this-kept n s h = each_so (conn s n) (λ none. h) (λ k found. close_conn-kept true k s (covers k s (in_find (is_conn n) k s.conns found).0 h) h)

finish-kept : (k : Conn) (e : Exchange) (a : Answer) (s : State) → Kept [] s → Kept [] (finish k e a s)
unfolding finish
finish-kept k e a s h = when (may_go_on e a.head) done (close_this-kept k.number _ done)
  where
    done : Kept [] (on_conn k.number (rested a.head) (end_exchange e.number (skip_body e (pour e finished s))))
    done = on_conn-kept k.number (rested a.head) _ (λ j. record { number = refl; host = refl; port = refl; line = refl; closing = refl }) (end_exchange-kept e.number _ (skip_body-kept e _ (pour-kept e finished s h)))

bad_response-kept : (k : Conn) (s : State) → Covers k s → Kept [] s → Kept [] (bad_response k s)
unfolding bad_response
bad_response-kept k s all h =
    each_of (front_of_line s k) (close_conn-kept false k s all h)
    (λ e. close_conn-kept false k _ (covers_shrunk k s _ (shrinks_on s _ _ (fail-shrinks e s) (end_exchange-shrinks e.number _)) all) (end_exchange-kept e.number _ (fail-kept e s h)))

bad_head-kept : (k : Conn) (s : State) → Covers k s → Kept [] s → Kept [] (bad_head k s)
unfolding bad_head
bad_head-kept k s all h = by k.has_brought
  where
    by : (t : Bool) → Kept [] (elim t as (λ c. State) [
      | false ↦ bad_response k s
      | true ↦ elim (front_of_line s k) as (λ c. State) [ None ↦ close_conn false k s | Some e ↦ close_conn false k (lose_attempt e s) ]
    ])
    by false = bad_response-kept k s all h
    by true = each_of (front_of_line s k) (close_conn-kept false k s all h) (λ e. close_conn-kept false k _ (covers_shrunk k s _ (lose_attempt-shrinks e s) all) (lose_attempt-kept e s h))

-- ---- heads

end_if_empty-kept : (k : Conn) (e : Exchange) (a : Answer) (s : State) → Kept [] s → Kept [] (end_if_empty k e a s)
unfolding end_if_empty
end_if_empty-kept k e a s h = by_outcome (body_of a.rule []).outcome (λ rest. finish-kept k e a s h) h h

begin_answer-kept : (k : Conn) (e : Exchange) (head : Response) (rule : BodyRule) (s : State) → Kept [] s → Kept [] (begin_answer k e head rule s)
unfolding begin_answer
begin_answer-kept k e head rule s h =
    end_if_empty-kept k e (answer_with e head rule) _ (by_aim-kept e head rule _ (on_conn-kept k.number (answered_by (answer_with e head rule)) s (λ j. record { number = refl; host = refl; port = refl; line = refl; closing = refl }) h))

answer_for-kept : (k : Conn) (e : Exchange) (head : Response) (s : State) → Covers k s → Kept [] s → Kept [] (answer_for k e head s)
unfolding answer_for
answer_for-kept k e head s all h = when (is_wrong_head e head) (bad_head-kept k s all h) (by_rule (rule_of (asks_head e) head.status head.fields))
  where
    by_rule : (read : Result BodyRule ResponseFault) → Kept [] (elim read as (λ c. State) [ Ok rule ↦ begin_answer k e head rule s | Err fault ↦ bad_head k s ])
    by_rule (Ok rule) = begin_answer-kept k e head rule s h
    by_rule (Err fault) = bad_head-kept k s all h

head_came-kept : (k : Conn) (head : Response) (s : State) → Covers k s → Kept [] s → Kept [] (head_came k head s)
unfolding head_came
head_came-kept k head s all h = each_of (front_of_line s k) (close_conn-kept false k s all h)
    (λ e. answer_for-kept k e head _ (λ j n i. all j n (subst (λ ks. IsIn j ks) (bring_row-untouched e head s).conns i)) (bring_row-kept e head s h))

piece_when : (t : Bool) (p q : Piece) → Kept [] p.state → Kept [] q.state → Kept [] (elim t as (λ c. Piece) [ true ↦ p | false ↦ q ]).state
piece_when true p q hp hq = hp
piece_when false p q hp hq = hq

with_unread-kept : (k : Conn) (bytes : Bytes) (s : State) → Kept [] s → Kept [] (on_conn k.number (with_unread bytes) s)
with_unread-kept k bytes s h = on_conn-kept k.number (with_unread bytes) s (λ i. record { number = refl; host = refl; port = refl; line = refl; closing = refl }) h

head_piece_by : (k : Conn) (bytes : Bytes) (s : State) (read : Read Response) → Covers k s → Kept [] s
    → Kept [] (elim read as (λ c. Piece) [
      | More ↦ record { state = on_conn k.number (with_unread bytes) s; rest = [] }
      | TooLong ↦ record { state = bad_head k s; rest = [] }
      | NoHead ↦ record { state = bad_head k s; rest = [] }
      | Whole head ↦ elim (is_interim head.status) as (λ c. Piece) [
        | true ↦ record { state = on_conn k.number (with_unread []) s; rest = drop head.length bytes }
        | false ↦ record { state = head_came k head s; rest = drop head.length bytes }
      ]
    ]).state
head_piece_by k bytes s More all h = with_unread-kept k bytes s h
head_piece_by k bytes s TooLong all h = bad_head-kept k s all h
head_piece_by k bytes s NoHead all h = bad_head-kept k s all h
head_piece_by k bytes s (Whole head) all h = piece_when (is_interim head.status) _ _ (with_unread-kept k [] s h) (head_came-kept k head s all h)

head_piece-kept : (k : Conn) (bytes : Bytes) (s : State) → Covers k s → Kept [] s → Kept [] (head_piece k bytes s).state
head_piece-kept k bytes s all h = piece_when (is_early s k) _ _ (close_conn-kept true k s all h) (head_piece_by k (k.unread ++ bytes) s (response_at (k.unread ++ bytes)) all h)

-- ---- bodies

note_own-kept : {but : List ℕ} (e : Exchange) (a : Answer) (at : ℕ) (bytes : Bytes) (s : State) → Kept but s → Kept but (note_own e a at bytes s)
unfolding note_own
note_own-kept e a at bytes s h = when (is_empty bytes) h (kept (facts_of h))

note_sent-kept : {but : List ℕ} (e : Exchange) (a : Answer) (at : ℕ) (bytes : Bytes) (s : State) → Kept but s → Kept but (note_sent e a at bytes s)
unfolding note_sent
note_sent-kept e a at bytes s h = by_aim_of e.aim h (note_own-kept e a at bytes s h) (λ v from to. note_own-kept e a at bytes s h)

join-kept : {but : List ℕ} (b : Bound) (bytes : Bytes) (s : State) → Kept but s → Kept but (join b bytes s)
unfolding join
join-kept b bytes s h = each_of _ h (λ x. note_use-kept _ (kept (facts_of h)))

moved_number : (n : ℕ) (e : Exchange) → (moved_on n e).number ≡ e.number
moved_number n e = by (bound_of e)
  where
    by : (o : Option Bound) → (elim o as (λ c. Exchange) [ None ↦ e | Some b ↦ record e { body = Joining (record b { next = b.next + n }) } ]).number ≡ e.number
    by None = refl
    by (Some b) = refl

moved_place : (n : ℕ) (e : Exchange) → (moved_on n e).place ≡ e.place
moved_place n e = by (bound_of e)
  where
    by : (o : Option Bound) → (elim o as (λ c. Exchange) [ None ↦ e | Some b ↦ record e { body = Joining (record b { next = b.next + n }) } ]).place ≡ e.place
    by None = refl
    by (Some b) = refl

moved_asked : (n : ℕ) (e : Exchange) → (moved_on n e).asked ≡ e.asked
moved_asked n e = by (bound_of e)
  where
    by : (o : Option Bound) → (elim o as (λ c. Exchange) [ None ↦ e | Some b ↦ record e { body = Joining (record b { next = b.next + n }) } ]).asked ≡ e.asked
    by None = refl
    by (Some b) = refl

moved_text : (n : ℕ) (e : Exchange) → (moved_on n e).text ≡ e.text
moved_text n e = by (bound_of e)
  where
    by : (o : Option Bound) → (elim o as (λ c. Exchange) [ None ↦ e | Some b ↦ record e { body = Joining (record b { next = b.next + n }) } ]).text ≡ e.text
    by None = refl
    by (Some b) = refl

join_bound-kept : {but : List ℕ} (e : Exchange) (bytes : Bytes) (s : State) → Kept but s → Kept but (join_bound e bytes s)
unfolding join_bound
join_bound-kept e bytes s h = each_of (bound_of e) h (λ b. on_exchange-kept e.number (moved_on (length bytes)) _ (λ x. same_exchange _ x (moved_number (length bytes) x) (moved_place (length bytes) x) (moved_asked (length bytes) x) (moved_text (length bytes) x)) (join-kept b bytes s h))

deliver-kept : {but : List ℕ} (e : Exchange) (a : Answer) (at : ℕ) (bytes : Bytes) (s : State) → Kept but s → Kept but (deliver e a at bytes s)
unfolding deliver
deliver-kept e a at bytes s h = pour-kept e (poured bytes) _ (join_bound-kept e bytes _ (note_sent-kept e a at bytes s h))

-- the connections are as they were
deliver-conns : (e : Exchange) (a : Answer) (at : ℕ) (bytes : Bytes) (s : State) → (deliver e a at bytes s).conns ≡ s.conns
unfolding deliver pour on_client_of join_bound join note_use on_exchange note_sent note_own
deliver-conns e a at bytes s = grind arith

covers_as : (k : Conn) (s t : State) → t.conns ≡ s.conns → Covers k s → Covers k t
covers_as k s t is all j n i number l = all j n (subst (λ ks. IsIn j ks) is i) number l

body_piece_by : (k : Conn) (a : Answer) (e : Exchange) (bytes : Bytes) (t : State) (outcome : Outcome) → Covers k t → Kept [] t
    → Kept [] (elim outcome as (λ c. Piece) [
      | Going ↦ record { state = on_conn k.number (λ i. record i { answer = Some (record a { raw = a.raw ++ bytes }) }) t; rest = [] }
      | Bad ↦ record { state = bad_response k t; rest = [] }
      | Done rest ↦ record { state = finish k e a t; rest = rest }
    ]).state
body_piece_by k a e bytes t Going all h = on_conn-kept k.number (λ i. record i { answer = Some (record a { raw = a.raw ++ bytes }) }) t (λ i. record { number = refl; host = refl; port = refl; line = refl; closing = refl }) h
body_piece_by k a e bytes t Bad all h = bad_response-kept k t all h
body_piece_by k a e bytes t (Done rest) all h = finish-kept k e a t h

body_piece-kept : (k : Conn) (a : Answer) (bytes : Bytes) (s : State) → Covers k s → Kept [] s → Kept [] (body_piece k a bytes s).state
body_piece-kept k a bytes s all h = by (front_of_line s k)
  where
    by : (front : Option Exchange) → Kept [] (elim front as (λ c. Piece) [ None ↦ record { state = close_conn false k s; rest = [] } | Some e ↦ body_piece_of k a e bytes s ]).state
    by None = close_conn-kept false k s all h
    by (Some e) =
        let at : ℕ = length (payload_of a) in
        let fresh : Bytes = drop at (body_of a.rule (a.raw ++ bytes)).payload in
        body_piece_by k a e bytes (deliver e a at fresh s) (body_of a.rule (a.raw ++ bytes)).outcome (covers_as k s (deliver e a at fresh s) (deliver-conns e a at fresh s) all) (deliver-kept e a at fresh s h)

pub next_piece-kept : (k : Conn) (bytes : Bytes) (s : State) → Covers k s → Kept [] s → Kept [] (next_piece k bytes s).state
next_piece-kept k bytes s all h = by k.answer
  where
    by : (answer : Option Answer) → Kept [] (elim answer as (λ c. Piece) [ Some a ↦ body_piece k a bytes s | None ↦ head_piece k bytes s ]).state
    by None = head_piece-kept k bytes s all h
    by (Some a) = body_piece-kept k a bytes s all h

pub got-kept : (more n : ℕ) (bytes : Bytes) (s : State) → Kept [] s → Kept [] (got more n bytes s)
unfolding got
got-kept zero n bytes s h = h
got-kept (suc more) n bytes s h =
    each_so (conn s n) (λ isnt. h)
    (λ k found. when (k.is_closing || is_empty bytes) h (got-kept more n (next_piece k bytes s).rest (next_piece k bytes s).state (next_piece-kept k bytes s (covers k s (in_find (is_conn n) k s.conns found).0 h) h)))

-- ---- the end of a connection

finish_first-kept : (k : Conn) (a : Answer) (s : State) → Kept [] s → Kept [] (finish_first k a s)
unfolding finish_first
finish_first-kept k a s h = each_of (front_of_line s k) h (λ e. finish-kept k e a s h)

pub ended-kept : (is_clean : Bool) (k : Conn) (s : State) → IsIn k s.conns → Kept [] s → Kept [] (ended is_clean k s)
unfolding ended
ended-kept is_clean k s there h =
    each_of k.answer (close_conn-kept true k s (covers k s there h) h)
    (λ a. when (is_clean && is_whole_at_end a) (close_this-kept k.number _ (finish_first-kept k a s h)) (close_conn-kept true k s (covers k s there h) h))
