-- What one read of a connection to an origin brings: an exchange that has more of a body to ask is passed, and its response is awaited.
use Rattle.std.proofs.Common.{◌≡◌, refl, ℕ, zero, suc, Bool, true, false, not, ◌&&◌, ◌||◌, [], ◌++◌, drop, length, Option, Some, None, Result, Ok, Err, sym, subst, ap, ◌∙◌}
use Rattle.std.specs.List.{list_any}
use Rattle.pp_framing.specs.Body.{Outcome, Done as IsDone, Going, Bad}
use Rattle.pp_framing.specs.Framing.{rule_of}
use Rattle.pp_framing.specs.Rules.{body_of}
use Rattle.pp_framing.specs.declared.body.BodyRule.{BodyRule}
use Rattle.pp_head.specs.Read.{Read, Whole, TooLong, Bad as NoHead, More}
use Rattle.pp_head.specs.Response.{Response, response_at}
use Rattle.pp_pipe.specs.Front.{is_interim}
use Rattle.pp_text.specs.Bytes.{is_empty}
use Rattle.pp_law.specs.Connections.{close_conn, conn, front_of_line, is_conn, is_for, on_conn}
use Rattle.pp_law.specs.Lists.{Bytes}
use Rattle.pp_law.specs.OwnHeads.{is_asked_by, is_wrong_head, key_of}
use Rattle.pp_law.specs.Responses.{Piece, answer_for, answer_with, answered_by, asks_head, bad_head, bad_response, begin_answer, body_piece, body_piece_of, bring_row, by_aim, deliver, end_if_empty, finish, got, head_came, head_piece, is_early, is_readable, next_piece, payload_of, with_unread}
use Rattle.pp_law.specs.Stages.{is_begun, is_headed, is_through}
use Rattle.pp_law.specs.State.{State, Answer, Conn, Exchange}
use Rattle.pp_laws.specs.Runs.{IsIn}
use Rattle.pp_laws.proofs.Bodies.{in_first}
use Rattle.pp_laws.proofs.Lists.{in_find}
use Rattle.pp_laws.proofs.Pieces.{front_by}
use Rattle.pp_laws.proofs.Sound.{first_of}
use Rattle.pp_laws.proofs.Tests.{same_number}
use Rattle.pp_laws_ends.proofs.Wanted.{any_of}
use Rattle.pp_laws_turn.proofs.Cases.{by_outcome, each_so, when}
use Rattle.pp_laws_turn.proofs.Rows.{enter-keeps}
use Rattle.pp_laws_turn.proofs.View.{Holds, facts_of, holds}
use Rattle.pp_laws_left.proofs.Bodied.{bad_head-suits, bad_response-suits, close_conn-suits, deliver-suits, finish-suits, on_conn-suits}
use Rattle.pp_laws_left.proofs.BodiedHeads.{Asked, StrictOf, asked_rows, by_aim-strict, strict_suits}
use Rattle.pp_laws_left.proofs.Owned.{Owned, for_asker, no_test, none_but}
use Rattle.pp_laws_left.proofs.OwnedCame.{next_piece-got}
use Rattle.pp_laws_left.proofs.OwnedReads.{GotAt}

piece_kept : {P : _} (t : Bool) (p q : Piece) → Holds P p.state → Holds P q.state → Holds P (elim t as (λ c. Piece) [ true ↦ p | false ↦ q ]).state
piece_kept true p q hp hq = hp
piece_kept false p q hp hq = hq

module _ (T : ℕ → ℕ → Type 0) (U : ℕ → Type 0) where
  abbrev Keeps : State → Type 0
  Keeps s = Holds (StrictOf T U) s

  -- ---- a head

  begun_so : (k : Conn) (e : Exchange) (head : Response) (rule : BodyRule) (s : State) → ((m : ℕ) → T e.number m → is_through e ≡ true) → Holds (Asked T U e) s → Keeps (begin_answer k e head rule s)
  unfolding begin_answer end_if_empty on_conn
  begun_so k e head rule s passed h =
      let came : Keeps (by_aim e head rule (on_conn k.number (answered_by (answer_with e head rule)) s)) = by_aim-strict T U e head rule _ passed (holds (facts_of h)) in
      by_outcome (body_of rule []).outcome (λ rest. finish-suits (strict_suits T U) k e (answer_with e head rule) _ came) came came

  answer_so : (k : Conn) (e : Exchange) (head : Response) (s : State) → ((m : ℕ) → T e.number m → is_through e ≡ true) → Holds (Asked T U e) s → Keeps (answer_for k e head s)
  unfolding answer_for
  answer_so k e head s passed h = when (is_wrong_head e head) (bad_head-suits (strict_suits T U) k s (holds (facts_of h).0)) (by (rule_of (asks_head e) head.status head.fields))
    where
      by : {F : Type 0} (read : Result BodyRule F) → Keeps (elim read as (λ c. State) [ Ok rule ↦ begin_answer k e head rule s | Err fault ↦ bad_head k s ])
      by (Ok rule) = begun_so k e head rule s passed h
      by (Err fault) = bad_head-suits (strict_suits T U) k s (holds (facts_of h).0)

  brought_so : (e : Exchange) (head : Response) (s : State) → Holds (Asked T U e) s → Holds (Asked T U e) (bring_row e head s)
  unfolding bring_row
  brought_so e head s h = when (is_readable e head) (enter-keeps (asked_rows T U e) (key_of e) true s h) h

  came_so : {At : Type 0} (k : Conn) (head : Response) (s : State) → IsIn k s.conns → k.answer ≡ None → Holds (Owned none_but At) s → Keeps s → Keeps (head_came k head s)
  unfolding head_came
  came_so k head s there quiet o h = each_so (front_of_line s k) (λ none. close_conn-suits (strict_suits T U) false k s h) (λ e found. let w = front_by s k.line e found in answer_so k e head _ (λ m t. ((facts_of h).firm e w.0).through m t) (brought_so e head s (holds (facts_of h, λ m t. asked e w.0 w.1 m t))))
    where
      asked : (e : Exchange) → IsIn e s.exchanges → first_of k.line ≡ Some e.number → (m : ℕ) → T e.number m → list_any (is_asked_by e) s.clients ≡ true
      asked e i first m t =
          let unheaded : is_headed e ≡ false = no_test (is_headed e) (λ on. ((facts_of o).behind k e there i (in_first e.number k.line first) on).1 quiet) in
          let firm = (facts_of h).firm e i in
          let c = (facts_of h).clients m (firm.fresh m t unheaded) in
          let its : is_for e c.0 ≡ true = for_asker e c.0 (firm.asker m t ∙ ap (λ n. Some n) (sym c.2)) in
          any_of (is_asked_by e) c.0 s.clients c.1 (ap (λ b. b && not (is_begun c.0)) its ∙ ap not c.3)

  head_so : {At : Type 0} (k : Conn) (bytes : Bytes) (s : State) → IsIn k s.conns → k.answer ≡ None → Holds (Owned none_but At) s → Keeps s → Keeps (head_piece k bytes s).state
  head_so k bytes s there quiet o h = piece_kept (is_early s k) _ _ (close_conn-suits (strict_suits T U) true k s h) (by (response_at (k.unread ++ bytes)))
    where
      unread : (left : Bytes) → Keeps (on_conn k.number (with_unread left) s)
      unread left = on_conn-suits (strict_suits T U) k.number (with_unread left) s h

      by : (read : Read Response) → Keeps (elim read as (λ c. Piece) [
        | More ↦ record { state = on_conn k.number (with_unread (k.unread ++ bytes)) s; rest = [] }
        | TooLong ↦ record { state = bad_head k s; rest = [] }
        | NoHead ↦ record { state = bad_head k s; rest = [] }
        | Whole head ↦ elim (is_interim head.status) as (λ c. Piece) [
          | true ↦ record { state = on_conn k.number (with_unread []) s; rest = drop head.length (k.unread ++ bytes) }
          | false ↦ record { state = head_came k head s; rest = drop head.length (k.unread ++ bytes) }
        ]
      ]).state
      by More = unread (k.unread ++ bytes)
      by TooLong = bad_head-suits (strict_suits T U) k s h
      by NoHead = bad_head-suits (strict_suits T U) k s h
      by (Whole head) = piece_kept (is_interim head.status) _ _ (unread []) (came_so k head s there quiet o h)

  -- ---- bytes of a body

  body_so : (k : Conn) (a : Answer) (bytes : Bytes) (s : State) → Keeps s → Keeps (body_piece k a bytes s).state
  body_so k a bytes s h = by (front_of_line s k)
    where
      of_first : (e : Exchange) → Keeps (body_piece_of k a e bytes s).state
      of_first e = at (body_of a.rule (a.raw ++ bytes)).outcome
        where
          t : State
          t = deliver e a (length (payload_of a)) (drop (length (payload_of a)) (body_of a.rule (a.raw ++ bytes)).payload) s

          now : Keeps t
          now = deliver-suits (strict_suits T U) e a (length (payload_of a)) (drop (length (payload_of a)) (body_of a.rule (a.raw ++ bytes)).payload) s h

          at : (outcome : Outcome) → Keeps (elim outcome as (λ c. Piece) [
            | Going ↦ record { state = on_conn k.number (λ c. record c { answer = Some (record a { raw = a.raw ++ bytes }) }) t; rest = [] }
            | Bad ↦ record { state = bad_response k t; rest = [] }
            | IsDone rest ↦ record { state = finish k e a t; rest = rest }
          ]).state
          at Going = on_conn-suits (strict_suits T U) k.number _ t now
          at Bad = bad_response-suits (strict_suits T U) k t now
          at (IsDone rest) = finish-suits (strict_suits T U) k e a t now

      by : (o : Option Exchange) → Keeps (elim o as (λ c. Piece) [ None ↦ record { state = close_conn false k s; rest = [] } | Some e ↦ body_piece_of k a e bytes s ]).state
      by None = close_conn-suits (strict_suits T U) false k s h
      by (Some e) = of_first e

  -- ---- one piece behind the other

  piece_so : {At : Type 0} (n : ℕ) (k : Conn) (bytes : Bytes) (s : State) → IsIn k s.conns → k.number ≡ n → GotAt At n s → Keeps s → Keeps (next_piece k bytes s).state
  piece_so {At} n k bytes s there number g h = by k.answer refl
    where
      whole : k.answer ≡ None → (o : Option ℕ) → g.ask ≡ o → Holds (Owned none_but At) s
      whole quiet None is = subst (λ (o : Option ℕ). Holds (Owned (record { ask = o; conn = None; client = None }) At) s) is g.owned
      whole quiet (Some m) is = absurd (((g.half m is).line k there number).1 quiet)

      by : (answer : Option Answer) → k.answer ≡ answer → Keeps (elim answer as (λ c. Piece) [ Some a ↦ body_piece k a bytes s | None ↦ head_piece k bytes s ]).state
      by None quiet = head_so k bytes s there quiet (whole quiet g.ask refl) h
      by (Some a) is = body_so k a bytes s h

  pub got-strict : {At : Type 0} (more n : ℕ) (bytes : Bytes) (s : State) → At → GotAt At n s → Keeps s → Keeps (got more n bytes s)
  unfolding got
  got-strict zero n bytes s at g h = h
  got-strict (suc more) n bytes s at g h = each_so (conn s n) (λ none. h) (λ k found.
      let w = in_find (is_conn n) k s.conns found in
      let number : k.number ≡ n = same_number k.number n w.1 in
      when (k.is_closing || is_empty bytes) h (got-strict more n (next_piece k bytes s).rest (next_piece k bytes s).state at (next_piece-got n k bytes s at w.0 number g) (piece_so n k bytes s w.0 number g h)))
