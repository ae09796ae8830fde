-- What one read brings, response by response, leaves the numbers of clients and of connections, and begins no exchange.
use Rattle.std.proofs.Common.{refl, ℕ, zero, suc, ◌+◌, Bool, true, false, ◌||◌, [], ◌++◌, drop, length, Option, Some, None, Result, Ok, Err}
use Rattle.pp_framing.specs.Body.{Outcome, Done, Going, Bad}
use Rattle.pp_framing.specs.Framing.{rule_of}
use Rattle.pp_framing.specs.Rules.{body_of}
use Rattle.pp_framing.specs.declared.body.BodyRule.{BodyRule}
use Rattle.pp_framing.specs.declared.framing.ResponseFault.{ResponseFault}
use Rattle.pp_head.specs.Read.{Read, Whole, TooLong, Bad as NoHead, More}
use Rattle.pp_head.specs.Response.{Response, response_at}
use Rattle.pp_pipe.specs.Front.{is_interim}
use Rattle.pp_text.specs.Bytes.{is_empty}
use Rattle.pp_law.specs.Chunks.{note_use}
use Rattle.pp_law.specs.Connections.{conn, front_of_line, on_conn, close_conn}
use Rattle.pp_law.specs.Lists.{Bytes}
use Rattle.pp_law.specs.OwnHeads.{is_wrong_head, join, joined_one, join_bound, moved_on, note_own, note_sent}
use Rattle.pp_law.specs.Passing.{poured}
use Rattle.pp_law.specs.Responses.{bad_head, bad_response, finish, asks_head, answer_with, end_if_empty, begin_answer, answer_for, head_came, Piece, is_early, with_unread, head_piece, deliver, payload_of, body_piece_of, body_piece, next_piece, got}
use Rattle.pp_law.specs.Stages.{bound_of}
use Rattle.pp_law.specs.State.{State, Joining, Answer, Bound, Conn, Exchange}
use Rattle.pp_law.specs.Table.{instance}
use Rattle.pp_laws_pool.proofs.View.{Holds, holds, facts_of, SameAsk}
use Rattle.pp_laws_pool.proofs.WalkCases.{by_aim_of, by_outcome, each_of, each_so, when}
use Rattle.pp_laws_pool.proofs.WalkClients.{pour-keeps}
use Rattle.pp_laws_pool.proofs.WalkClosings.{close_conn-keeps}
use Rattle.pp_laws_pool.proofs.WalkExchanges.{on_exchange-keeps, same_ask}
use Rattle.pp_laws_pool.proofs.WalkHeads.{bring_row-keeps, by_aim-keeps}
use Rattle.pp_laws_pool.proofs.WalkPieces.{bad_head-keeps, bad_response-keeps, finish-keeps}
use Rattle.pp_laws_sides.proofs.Names.{Named, Names, named_walk, on_conn-named}

end_if_empty-named : {o : Names} {m : ℕ} (k : Conn) (e : Exchange) (a : Answer) (s : State) → Holds (Named o m) s → Holds (Named o m) (end_if_empty k e a s)
unfolding end_if_empty
end_if_empty-named k e a s h = by_outcome (body_of a.rule []).outcome (λ rest. finish-keeps (named_walk _ _) k e a s h) h h

begin_answer-named : {o : Names} {m : ℕ} (k : Conn) (e : Exchange) (head : Response) (rule : BodyRule) (s : State) → Holds (Named o m) s → Holds (Named o m) (begin_answer k e head rule s)
unfolding begin_answer
begin_answer-named k e head rule s h = end_if_empty-named k e (answer_with e head rule) _ (by_aim-keeps (named_walk _ _) e head rule _ (on_conn-named k.number _ s (λ j. refl) h))

answer_for-named : {o : Names} {m : ℕ} (k : Conn) (e : Exchange) (head : Response) (s : State) → Holds (Named o m) s → Holds (Named o m) (answer_for k e head s)
unfolding answer_for
answer_for-named {o} {m} k e head s h = when (is_wrong_head e head) (bad_head-keeps (named_walk _ _) k s h) (by_rule (rule_of (asks_head e) head.status head.fields))
  where
    by_rule : (read : Result BodyRule ResponseFault) → Holds (Named o m) (elim read as (λ c. State) [ Ok rule ↦ begin_answer k e head rule s | Err fault ↦ bad_head k s ])
    by_rule (Ok rule) = begin_answer-named k e head rule s h
    by_rule (Err fault) = bad_head-keeps (named_walk _ _) k s h

head_came-named : {o : Names} {m : ℕ} (k : Conn) (head : Response) (s : State) → Holds (Named o m) s → Holds (Named o m) (head_came k head s)
unfolding head_came
head_came-named k head s h = each_so (front_of_line s k) (λ none. close_conn-keeps (named_walk _ _) false k s h) (λ e first. answer_for-named k e head _ (bring_row-keeps (named_walk _ _) e head s h))

piece_when : {o : Names} {m : ℕ} (t : Bool) (p q : Piece) → Holds (Named o m) p.state → Holds (Named o m) q.state → Holds (Named o m) (elim t as (λ c. Piece) [ true ↦ p | false ↦ q ]).state
piece_when true p q hp hq = hp
piece_when false p q hp hq = hq

with_unread-named : {o : Names} {m : ℕ} (k : Conn) (bytes : Bytes) (s : State) → Holds (Named o m) s → Holds (Named o m) (on_conn k.number (with_unread bytes) s)
with_unread-named k bytes s h = on_conn-named k.number (with_unread bytes) s (λ j. refl) h

head_piece_by : {o : Names} {m : ℕ} (k : Conn) (bytes : Bytes) (s : State) (read : Read Response) → Holds (Named o m) s
    → Holds (Named o m) (elim read as (λ c. Piece) [
      | More ↦ record { state = on_conn k.number (with_unread bytes) s; rest = [] }
      | TooLong ↦ record { state = bad_head k s; rest = [] }
      | NoHead ↦ record { state = bad_head k s; rest = [] }
      | Whole head ↦ elim (is_interim head.status) as (λ c. Piece) [
        | true ↦ record { state = on_conn k.number (with_unread []) s; rest = drop head.length bytes }
        | false ↦ record { state = head_came k head s; rest = drop head.length bytes }
      ]
    ]).state
head_piece_by k bytes s More h = with_unread-named k bytes s h
head_piece_by k bytes s TooLong h = bad_head-keeps (named_walk _ _) k s h
head_piece_by k bytes s NoHead h = bad_head-keeps (named_walk _ _) k s h
head_piece_by k bytes s (Whole head) h = piece_when (is_interim head.status) _ _ (with_unread-named k [] s h) (head_came-named k head s h)

head_piece-named : {o : Names} {m : ℕ} (k : Conn) (bytes : Bytes) (s : State) → Holds (Named o m) s → Holds (Named o m) (head_piece k bytes s).state
head_piece-named k bytes s h = piece_when (is_early s k) _ _ (close_conn-keeps (named_walk _ _) true k s h) (head_piece_by k (k.unread ++ bytes) s (response_at (k.unread ++ bytes)) h)

-- ---- bodies

note_own-named : {o : Names} {m : ℕ} (e : Exchange) (a : Answer) (at : ℕ) (bytes : Bytes) (s : State) → Holds (Named o m) s → Holds (Named o m) (note_own e a at bytes s)
unfolding note_own
note_own-named e a at bytes s h = when (is_empty bytes) h (holds (facts_of h))

note_sent-named : {o : Names} {m : ℕ} (e : Exchange) (a : Answer) (at : ℕ) (bytes : Bytes) (s : State) → Holds (Named o m) s → Holds (Named o m) (note_sent e a at bytes s)
unfolding note_sent
note_sent-named e a at bytes s h = by_aim_of e.aim h (note_own-named e a at bytes s h) (λ v from to. note_own-named e a at bytes s h)

join-named : {o : Names} {m : ℕ} (b : Bound) (bytes : Bytes) (s : State) → Holds (Named o m) s → Holds (Named o m) (join b bytes s)
unfolding join note_use
join-named b bytes s h = each_of (joined_one b bytes s) h (λ x. holds (facts_of h))

moved_same : (m : ℕ) (e : Exchange) → SameAsk (moved_on m e) e
moved_same m e = by (bound_of e)
  where
    by : (o : Option Bound) → SameAsk (elim o as (λ c. Exchange) [ None ↦ e | Some b ↦ record e { body = Joining (record b { next = b.next + m }) } ]) e
    by None = same_ask e e refl refl refl refl refl refl
    by (Some b) = same_ask _ e refl refl refl refl refl refl

join_bound-named : {o : Names} {m : ℕ} (e : Exchange) (bytes : Bytes) (s : State) → Holds (Named o m) s → Holds (Named o m) (join_bound e bytes s)
unfolding join_bound
join_bound-named e bytes s h = each_of (bound_of e) h (λ b. on_exchange-keeps (named_walk _ _) e.number (moved_on (length bytes)) _ (moved_same (length bytes)) (join-named b bytes s h))

deliver-named : {o : Names} {m : ℕ} (e : Exchange) (a : Answer) (at : ℕ) (bytes : Bytes) (s : State) → Holds (Named o m) s → Holds (Named o m) (deliver e a at bytes s)
unfolding deliver
deliver-named e a at bytes s h = pour-keeps (named_walk _ _) e (poured bytes) _ (join_bound-named e bytes _ (note_sent-named e a at bytes s h))

body_piece_by : {o : Names} {m : ℕ} (k : Conn) (a : Answer) (e : Exchange) (bytes : Bytes) (t : State) (outcome : Outcome) → Holds (Named o m) t
    → Holds (Named o m) (elim outcome as (λ c. Piece) [
      | Going ↦ record { state = on_conn k.number (λ i. record i { answer = Some (record a { raw = a.raw ++ bytes }) }) t; rest = [] }
      | Bad ↦ record { state = bad_response k t; rest = [] }
      | Done rest ↦ record { state = finish k e a t; rest = rest }
    ]).state
body_piece_by k a e bytes t Going h = on_conn-named k.number _ t (λ j. refl) h
body_piece_by k a e bytes t Bad h = bad_response-keeps (named_walk _ _) k t h
body_piece_by k a e bytes t (Done rest) h = finish-keeps (named_walk _ _) k e a t h

body_piece-named : {o : Names} {m : ℕ} (k : Conn) (a : Answer) (bytes : Bytes) (s : State) → Holds (Named o m) s → Holds (Named o m) (body_piece k a bytes s).state
body_piece-named {o} {m} k a bytes s h = by (front_of_line s k)
  where
    by : (front : Option Exchange) → Holds (Named o m) (elim front as (λ c. Piece) [ None ↦ record { state = close_conn false k s; rest = [] } | Some e ↦ body_piece_of k a e bytes s ]).state
    by None = close_conn-keeps (named_walk _ _) false k s h
    by (Some e) =
        let at : ℕ = length (payload_of a) in
        let fresh : Bytes = drop at (body_of a.rule (a.raw ++ bytes)).payload in
        body_piece_by k a e bytes (deliver e a at fresh s) (body_of a.rule (a.raw ++ bytes)).outcome (deliver-named e a at fresh s h)

next_piece-named : {o : Names} {m : ℕ} (k : Conn) (bytes : Bytes) (s : State) → Holds (Named o m) s → Holds (Named o m) (next_piece k bytes s).state
next_piece-named {o} {m} k bytes s h = by k.answer
  where
    by : (answer : Option Answer) → Holds (Named o m) (elim answer as (λ c. Piece) [ Some a ↦ body_piece k a bytes s | None ↦ head_piece k bytes s ]).state
    by None = head_piece-named k bytes s h
    by (Some a) = body_piece-named k a bytes s h

-- ---- the read

pub got-named : {o : Names} {m : ℕ} (more n : ℕ) (bytes : Bytes) (s : State) → Holds (Named o m) s → Holds (Named o m) (got more n bytes s)
unfolding got
got-named zero n bytes s h = h
got-named (suc more) n bytes s h = each_of (conn s n) h (λ k. when (k.is_closing || is_empty bytes) h (got-named more n (next_piece k bytes s).rest (next_piece k bytes s).state (next_piece-named k bytes s h)))
