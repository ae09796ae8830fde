-- Each exchange was there before a read of an origin, with its aim, unanswered where it still is, and somebody's where it is passed: however much
-- is read.
use Rattle.std.proofs.Common.{ℕ, zero, suc, Bool, true, false, ◌||◌, List, [], ◌++◌, drop, length, Option, Some, None, Result, Ok, Err}
use Rattle.pp_framing.specs.Body.{Outcome, Done as IsDone, Going, Bad}
use Rattle.pp_framing.specs.Framing.{rule_of}
use Rattle.pp_framing.specs.Rules.{body_of}
use Rattle.pp_framing.specs.declared.body.BodyRule.{BodyRule}
use Rattle.pp_head.specs.Read.{Read, Whole, TooLong, Bad as NoHead, More}
use Rattle.pp_head.specs.Response.{Response, response_at}
use Rattle.pp_pipe.specs.Front.{is_interim}
use Rattle.pp_text.specs.Bytes.{is_empty}
use Rattle.pp_law.specs.Connections.{close_conn, conn, front_of_line, on_conn}
use Rattle.pp_law.specs.Lists.{Bytes}
use Rattle.pp_law.specs.OwnHeads.{is_wrong_head, key_of}
use Rattle.pp_law.specs.Responses.{Piece, answer_for, answer_with, answered_by, asks_head, bad_head, bad_response, begin_answer, body_piece, body_piece_of, bring_row, by_aim, deliver, end_if_empty, finish, got, head_came, head_piece, is_early, is_readable, next_piece, payload_of, with_unread}
use Rattle.pp_law.specs.State.{State, Answer, Conn, Exchange}
use Rattle.pp_laws.proofs.Pieces.{front_by}
use Rattle.pp_laws_coming.proofs.Facts.{AreApart}
use Rattle.pp_laws_turn.proofs.Cases.{by_outcome, each_of, each_so, when}
use Rattle.pp_laws_turn.proofs.Rows.{enter-keeps}
use Rattle.pp_laws_turn.proofs.View.{Holds, facts_of, holds, view}
use Rattle.pp_laws_left.proofs.Bodied.{bad_head-suits, bad_response-suits, close_conn-suits, deliver-suits, finish-suits, on_conn-suits}
use Rattle.pp_comes_law.proofs.LoneHeads.{AllWere, KnownIn, by_aim-were, suits}

piece_when : {P : _} (t : Bool) (p q : Piece) → Holds P p.state → Holds P q.state → Holds P (elim t as (λ c. Piece) [ true ↦ p | false ↦ q ]).state
piece_when true p q hp hq = hp
piece_when false p q hp hq = hq

module _ (es : List Exchange) (apart : AreApart es) where
  abbrev Keeps : State → Type 0
  Keeps s = Holds (AllWere es) s

  -- ---- a head

  begun_so : (k : Conn) (e : Exchange) (head : Response) (rule : BodyRule) (s : State) → KnownIn es e → Keeps s → Keeps (begin_answer k e head rule s)
  unfolding begin_answer end_if_empty on_conn
  begun_so k e head rule s known h =
      let came : Keeps (by_aim e head rule (on_conn k.number (answered_by (answer_with e head rule)) s)) = by_aim-were es apart e head rule _ known (holds (facts_of h)) in
      by_outcome (body_of rule []).outcome (λ rest. finish-suits (suits es apart) k e (answer_with e head rule) _ came) came came

  answer_so : (k : Conn) (e : Exchange) (head : Response) (s : State) → KnownIn es e → Keeps s → Keeps (answer_for k e head s)
  unfolding answer_for
  answer_so k e head s known h = when (is_wrong_head e head) (bad_head-suits (suits es apart) k s h) (by (rule_of (asks_head e) head.status head.fields))
    where
      by : {F : Type 0} (read : Result BodyRule F) → Keeps (elim read as (λ c. State) [ Ok rule ↦ begin_answer k e head rule s | Err fault ↦ bad_head k s ])
      by (Ok rule) = begun_so k e head rule s known h
      by (Err fault) = bad_head-suits (suits es apart) k s h

  brought_so : (e : Exchange) (head : Response) (s : State) → Keeps s → Keeps (bring_row e head s)
  unfolding bring_row
  brought_so e head s h = when (is_readable e head) (enter-keeps (λ xs next v from held. held) (key_of e) true s h) h

  came_so : (k : Conn) (head : Response) (s : State) → Keeps s → Keeps (head_came k head s)
  unfolding head_came
  came_so k head s h = each_so (front_of_line s k) (λ none. close_conn-suits (suits es apart) false k s h) (λ e found. answer_so k e head _ ((suits es apart).known e (view s) (front_by s k.line e found).0 (facts_of h)) (brought_so e head s h))

  head_so : (k : Conn) (bytes : Bytes) (s : State) → Keeps s → Keeps (head_piece k bytes s).state
  head_so k bytes s h = piece_when (is_early s k) _ _ (close_conn-suits (suits es apart) true k s h) (by (response_at (k.unread ++ bytes)))
    where
      unread : (left : Bytes) → Keeps (on_conn k.number (with_unread left) s)
      unread left = on_conn-suits (suits es apart) k.number (with_unread left) s h

      by : (read : Read Response) → Keeps (elim read as (λ c. Piece) [
        | More ↦ record { state = on_conn k.number (with_unread (k.unread ++ bytes)) s; rest = [] }
        | TooLong ↦ record { state = bad_head k s; rest = [] }
        | NoHead ↦ record { state = bad_head k s; rest = [] }
        | Whole head ↦ elim (is_interim head.status) as (λ c. Piece) [
          | true ↦ record { state = on_conn k.number (with_unread []) s; rest = drop head.length (k.unread ++ bytes) }
          | false ↦ record { state = head_came k head s; rest = drop head.length (k.unread ++ bytes) }
        ]
      ]).state
      by More = unread (k.unread ++ bytes)
      by TooLong = bad_head-suits (suits es apart) k s h
      by NoHead = bad_head-suits (suits es apart) k s h
      by (Whole head) = piece_when (is_interim head.status) _ _ (unread []) (came_so k head s h)

  -- ---- bytes of a body

  body_so : (k : Conn) (a : Answer) (bytes : Bytes) (s : State) → Keeps s → Keeps (body_piece k a bytes s).state
  body_so k a bytes s h = by (front_of_line s k)
    where
      of_first : (e : Exchange) → Keeps (body_piece_of k a e bytes s).state
      of_first e = at (body_of a.rule (a.raw ++ bytes)).outcome
        where
          t : State
          t = deliver e a (length (payload_of a)) (drop (length (payload_of a)) (body_of a.rule (a.raw ++ bytes)).payload) s

          now : Keeps t
          now = deliver-suits (suits es apart) e a (length (payload_of a)) (drop (length (payload_of a)) (body_of a.rule (a.raw ++ bytes)).payload) s h

          at : (outcome : Outcome) → Keeps (elim outcome as (λ c. Piece) [
            | Going ↦ record { state = on_conn k.number (λ c. record c { answer = Some (record a { raw = a.raw ++ bytes }) }) t; rest = [] }
            | Bad ↦ record { state = bad_response k t; rest = [] }
            | IsDone rest ↦ record { state = finish k e a t; rest = rest }
          ]).state
          at Going = on_conn-suits (suits es apart) k.number _ t now
          at Bad = bad_response-suits (suits es apart) k t now
          at (IsDone rest) = finish-suits (suits es apart) k e a t now

      by : (o : Option Exchange) → Keeps (elim o as (λ c. Piece) [ None ↦ record { state = close_conn false k s; rest = [] } | Some e ↦ body_piece_of k a e bytes s ]).state
      by None = close_conn-suits (suits es apart) false k s h
      by (Some e) = of_first e

  -- ---- one piece behind the other

  piece_so : (k : Conn) (bytes : Bytes) (s : State) → Keeps s → Keeps (next_piece k bytes s).state
  piece_so k bytes s h = by k.answer
    where
      by : (answer : Option Answer) → Keeps (elim answer as (λ c. Piece) [ Some a ↦ body_piece k a bytes s | None ↦ head_piece k bytes s ]).state
      by None = head_so k bytes s h
      by (Some a) = body_so k a bytes s h

  pub got-were : (more n : ℕ) (bytes : Bytes) (s : State) → Keeps s → Keeps (got more n bytes s)
  unfolding got
  got-were zero n bytes s h = h
  got-were (suc more) n bytes s h = each_of (conn s n) h (λ k. when (k.is_closing || is_empty bytes) h (got-were more n (next_piece k bytes s).rest (next_piece k bytes s).state (piece_so k bytes s h)))
