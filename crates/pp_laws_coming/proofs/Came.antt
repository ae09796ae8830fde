-- The head of a response that came on a connection keeps it.
use Rattle.std.proofs.Common.{◌≡◌, Bool, true, false, drop, [], ◌++◌, Some, None, Result, Ok, Err}
use Rattle.pp_framing.specs.Framing.{rule_of}
use Rattle.pp_framing.specs.Rules.{body_of}
use Rattle.pp_framing.specs.declared.body.BodyRule.{BodyRule}
use Rattle.pp_head.specs.Read.{Read, Whole, TooLong, Bad as NoHead, More}
use Rattle.pp_head.specs.Response.{Response, response_at}
use Rattle.pp_pipe.specs.Front.{is_interim}
use Rattle.pp_law.specs.Connections.{front_of_line, on_conn}
use Rattle.pp_law.specs.Lists.{Bytes}
use Rattle.pp_law.specs.OwnHeads.{is_wrong_head, key_of}
use Rattle.pp_law.specs.Responses.{Piece, answer_for, answer_with, answered_by, asks_head, bad_head, begin_answer, bring_row, by_aim, end_if_empty, head_came, head_piece, is_early, is_readable, with_unread}
use Rattle.pp_law.specs.State.{State, Conn, Exchange}
use Rattle.pp_laws_turn.proofs.Cases.{by_outcome, each_so, when}
use Rattle.pp_laws_turn.proofs.Heads.{by_aim-keeps}
use Rattle.pp_laws_turn.proofs.Rows.{enter-keeps}
use Rattle.pp_laws_turn.proofs.View.{Holds, facts_of, holds, view}
use Rattle.pp_laws_coming.proofs.Pieces.{bad_head-comes, finish-comes, front_in}
use Rattle.pp_laws_coming.proofs.Facts.{Early}
use Rattle.pp_laws_coming.proofs.Heads.{by_aim-comes}
use Rattle.pp_laws_coming.proofs.Its.{Its, its_walk, only_its}
use Rattle.pp_laws_coming.proofs.Lost.{close_conn-early, on_conn-comes}
use Rattle.pp_laws_coming.proofs.Ready.{OfKey, Ready, ready_rows}

-- ---- heads

-- a response begins
begun-comes : (k : Conn) (e : Exchange) (head : Response) (rule : BodyRule) (s : State) → Holds (Ready e) s → Holds Early (begin_answer k e head rule s)
unfolding begin_answer end_if_empty on_conn
begun-comes k e head rule s h =
    let w = facts_of h in
    let only : Holds (Its e) s = only_its {late = false} e s w.there (holds w.facts) in
    let t : State = on_conn k.number (answered_by (answer_with e head rule)) s in
    let came : Holds Early (by_aim e head rule t) = by_aim-comes e head rule t (holds (record { facts = w.facts; there = w.there; placed = w.placed; keyed = w.keyed })) in
    by_outcome (body_of rule []).outcome (λ rest. finish-comes k e (answer_with e head rule) (by_aim e head rule t) (by_aim-keeps (its_walk e) e head rule t (holds (facts_of only))) came) came came

answer_for-comes : (k : Conn) (e : Exchange) (head : Response) (s : State) → Holds (Ready e) s → Holds Early (answer_for k e head s)
unfolding answer_for
answer_for-comes k e head s h = when (is_wrong_head e head) (bad_head-comes k s (holds (facts_of h).facts)) (by_rule (rule_of (asks_head e) head.status head.fields))
  where
    by_rule : {E : Type 0} (read : Result BodyRule E) → Holds Early (elim read as (λ c. State) [ Ok rule ↦ begin_answer k e head rule s | Err fault ↦ bad_head k s ])
    by_rule (Ok rule) = begun-comes k e head rule s h
    by_rule (Err fault) = bad_head-comes k s (holds (facts_of h).facts)

bring_row-ready : (e : Exchange) (head : Response) (s : State) → Holds (Ready e) s → Holds (Ready e) (bring_row e head s)
unfolding bring_row
bring_row-ready e head s h = when (is_readable e head) (enter-keeps (ready_rows e) (key_of e) true s h) h

-- the first of a line has a place, and a head may come to it
abbrev pub FrontIsReady : Conn → State → Type 0
FrontIsReady k s = (e : Exchange) → front_of_line s k ≡ Some e → (e.place ≡ None → ⊥) × OfKey e (view s)

head_came-comes : (k : Conn) (head : Response) (s : State) → FrontIsReady k s → Holds Early s → Holds Early (head_came k head s)
unfolding head_came
head_came-comes k head s ready h =
    each_so (front_of_line s k) (λ none. close_conn-early false k s h)
    (λ e front. answer_for-comes k e head _ (bring_row-ready e head s (holds (record { facts = facts_of h; there = front_in s k e front; placed = (ready e front).0; keyed = (ready e front).1 }))))

piece_when : (t : Bool) (p q : Piece) → Holds Early p.state → Holds Early q.state → Holds Early (elim t as (λ c. Piece) [ true ↦ p | false ↦ q ]).state
piece_when true p q hp hq = hp
piece_when false p q hp hq = hq

head_piece_by : (k : Conn) (bytes : Bytes) (s : State) (read : Read Response) → FrontIsReady k s → Holds Early s
    → Holds Early (elim read as (λ c. Piece) [
      | More ↦ record { state = on_conn k.number (with_unread bytes) s; rest = [] }
      | TooLong ↦ record { state = bad_head k s; rest = [] }
      | NoHead ↦ record { state = bad_head k s; rest = [] }
      | Whole head ↦ elim (is_interim head.status) as (λ c. Piece) [
        | true ↦ record { state = on_conn k.number (with_unread []) s; rest = drop head.length bytes }
        | false ↦ record { state = head_came k head s; rest = drop head.length bytes }
      ]
    ]).state
head_piece_by k bytes s More placed h = on_conn-comes k.number (with_unread bytes) s h
head_piece_by k bytes s TooLong placed h = bad_head-comes k s h
head_piece_by k bytes s NoHead placed h = bad_head-comes k s h
head_piece_by k bytes s (Whole head) placed h = piece_when (is_interim head.status) _ _ (on_conn-comes k.number (with_unread []) s h) (head_came-comes k head s placed h)

pub head_piece-comes : (k : Conn) (bytes : Bytes) (s : State) → FrontIsReady k s → Holds Early s → Holds Early (head_piece k bytes s).state
head_piece-comes k bytes s placed h = piece_when (is_early s k) _ _ (close_conn-early true k s h) (head_piece_by k (k.unread ++ bytes) s (response_at (k.unread ++ bytes)) placed h)
