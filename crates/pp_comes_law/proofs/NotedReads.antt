-- What one read of an origin leaves of rows and of those that left memory: each final head that it brings answers one of the line, so that there are
-- few of them, and each adds two at most (RFC 2616, section 8.1.2.2).
use Rattle.std.proofs.Common.{◌≡◌, ◌≤◌, refl, sym, subst, ap, ◌∙◌, ℕ, zero, suc, ◌+◌, ◌*◌, Bool, true, false, ◌==◌, ◌||◌, drop, length, List, [], ◌∷◌, ◌++◌, Option, Some, None, Result, Ok, Err, inl, le_refl, arith}
use Rattle.pp_framing.specs.Body.{Outcome, Done, Going, Bad}
use Rattle.pp_framing.specs.Framing.{rule_of}
use Rattle.pp_framing.specs.Rules.{body_of}
use Rattle.pp_framing.specs.declared.body.BodyRule.{BodyRule}
use Rattle.pp_head.specs.Read.{Read, Whole, TooLong, Bad as NoHead, More}
use Rattle.pp_head.specs.Response.{Response, response_at}
use Rattle.pp_law.specs.Connections.{close_conn, conn, front_of_line, is_conn, on_conn}
use Rattle.pp_law.specs.Lists.{Bytes}
use Rattle.pp_law.specs.OwnHeads.{is_wrong_head}
use Rattle.pp_law.specs.Responses.{Piece, answer_for, answer_with, answered_by, asks_head, bad_head, bad_response, begin_answer, body_piece, body_piece_of, bring_row, by_aim, deliver, end_if_empty, finish, got, head_came, head_piece, is_early, next_piece, payload_of, with_unread}
use Rattle.pp_law.specs.State.{State, Answer, Conn, Exchange}
use Rattle.pp_laws.proofs.Heads.{bring_row-sound}
use Rattle.pp_laws.proofs.Lists.{From, in_find, in_map, one_of}
use Rattle.pp_laws.proofs.Pieces.{next_piece-sound}
use Rattle.pp_laws.proofs.Sound.{Since, Sound, conn_number, facts_of}
use Rattle.pp_laws.proofs.Tests.{number_same, same_number}
use Rattle.pp_laws.specs.Runs.{IsIn}
use Rattle.pp_pipe.specs.Front.{is_interim}
use Rattle.pp_text.specs.Bytes.{is_empty}
use Rattle.pp_comes_law.proofs.NotedRows.{AreOwn, Few, brought_few, by_aim_few, few_up}
use Rattle.pp_comes_law.proofs.NotedEnds.{AreAnswered, IsNoted, bad_head_noted, bad_noted, based, beside_noted, close_noted, delivered_beside, due_in, due_of, due_shrinks, finish_noted, first_in, noted_when, on_noted, paid_due, paid_of, paid_shrinks, piece_when}

-- ---- a head came

set_few : {l m : ℕ} {cs : List Conn} (n : ℕ) (g : Conn → Conn) (s : State) → Few l m cs s → Few l m (on_conn n g s).conns (on_conn n g s)
unfolding on_conn
set_few n g s f = record { same = refl; before = f.before; behind = f.behind; is = f.is; few = f.few; noted = f.noted; unnoted = f.unnoted }

set_own : (n : ℕ) (g : Conn → Conn) (s : State) → AreOwn s.instances → AreOwn (on_conn n g s).instances
unfolding on_conn
set_own n g s own = own

record WasSet (n : ℕ) (g : Conn → Conn) (s : State) (j : Conn) : Type 0 where
  was : Conn
  there : IsIn was s.conns
  number : was.number ≡ n
  is : j ≡ g was

set_was : (n : ℕ) (g : Conn → Conn) (s : State) (j : Conn) → ((k : Conn) → (g k).number ≡ k.number) → IsIn j (on_conn n g s).conns → j.number ≡ n → WasSet n g s j
unfolding on_conn
set_was n g s j number i its = by r.was r.there (is_conn n r.was) refl r.is
  where
    r : From (λ k. elim (is_conn n k) as (λ t. Conn) [ true ↦ g k | false ↦ k ]) s.conns j
    r = in_map (λ k. elim (is_conn n k) as (λ t. Conn) [ true ↦ g k | false ↦ k ]) j s.conns i

    by : (k : Conn) → IsIn k s.conns → (b : Bool) → is_conn n k ≡ b → j ≡ (elim b as (λ t. Conn) [ true ↦ g k | false ↦ k ]) → WasSet n g s j
    by k there true at is = record { was = k; there = there; number = same_number k.number n at; is = is }
    by k there false at is = let both : true ≡ false = sym (ap (λ (m : ℕ). m == n) (ap (λ (c : Conn). c.number) (sym is) ∙ its) ∙ number_same n) ∙ at in absurd (cc both)

own_of : {b : Since} (s : State) → Sound b s → AreOwn s.instances
own_of s so = record { differ = (facts_of so).rows.differ; keys = (facts_of so).rows.own_keys }

module _ {b : Since} {n : ℕ} (k : Conn) (s : State) (found : conn s n ≡ Some k) (so : Sound b s) (h : IsNoted due_of n s) where
  its_number : k.number ≡ n
  its_number = same_number k.number n (in_find (is_conn n) k s.conns found).1

  here : IsIn k s.conns
  here = (in_find (is_conn n) k s.conns found).0

  only : (j : Conn) → IsIn j s.conns → j.number ≡ n → j ≡ k
  only j i number = one_of conn_number s.conns j k (facts_of so).lines.rise i here (number ∙ sym its_number)

  module _ (quiet : k.answer ≡ None) (e : Exchange) (others : List ℕ) (line : k.line ≡ e.number ∷ others) (head : Response) where
    abbrev s1 : State
    s1 = bring_row e head s

    abbrev q : ℕ
    q = h.most

    brought : Few (q + 1) (q + 1) s.conns s1
    brought = brought_few e head s (own_of s so) h.few

    all_left : q + 2 * length k.line ≤ 16
    all_left = subst (λ (o : Option Answer). q + due_in o (length k.line) ≤ 16) quiet (h.left k here its_number)

    some : 1 ≤ length k.line
    some = subst (λ (ns : List ℕ). 1 ≤ length ns) (sym line) (omega arith)

    paid_left : (j : Conn) → IsIn j s.conns → j.number ≡ n → q + 1 + 1 + paid_of j ≤ 16
    paid_left j i number = subst (λ (c : Conn). q + 1 + 1 + paid_of c ≤ 16) (sym (only j i number)) (omega (arith, all_left, some))

    in_first : (j : Conn) → IsIn j s1.conns → IsIn j s.conns
    in_first j i = subst (λ (ks : List Conn). IsIn j ks) brought.same i

    paid : IsNoted paid_of n s1
    paid = record { most = q + 1 + 1; few = based s1 (few_up s1 brought); left = λ j i number. paid_left j (in_first j i) number }

    module _ (rule : BodyRule) where
      abbrev a : Answer
      a = answer_with e head rule

      abbrev s2 : State
      s2 = on_conn k.number (answered_by a) s1

      abbrev t : State
      t = by_aim e head rule s2

      behind : Few (q + 1 + 1) (q + 1 + 1) s2.conns t
      behind = by_aim_few e head rule s2 (set_own k.number (answered_by a) s1 (own_of s1 (bring_row-sound e head s so))) (set_few k.number (answered_by a) s1 brought)

      was_set : (j : Conn) → IsIn j t.conns → j.number ≡ n → WasSet k.number (answered_by a) s1 j
      was_set j i number = set_was k.number (answered_by a) s1 j (λ c. refl) (subst (λ (ks : List Conn). IsIn j ks) behind.same i) (number ∙ sym its_number)

      begun : IsNoted due_of n t
      begun = record {
        most = q + 1 + 1;
        few = based t behind;
        left = λ j i number. let w = was_set j i number in subst (λ (c : Conn). q + 1 + 1 + due_of c ≤ 16) (sym w.is) (paid_left w.was (in_first w.was w.there) (w.number ∙ its_number));
      }

      answered : AreAnswered e.number n t
      answered j i number =
          let w = was_set j i number in
          let is_it : w.was ≡ k = only w.was (in_first w.was w.there) (w.number ∙ its_number) in
          record {
            answer = a;
            is = ap (λ (c : Conn). c.answer) w.is;
            here = subst (λ (ns : List ℕ). IsIn e.number ns) (sym (ap (λ (c : Conn). c.line) w.is ∙ ap (λ (c : Conn). c.line) is_it ∙ line)) (inl refl);
          }

      begins : IsNoted due_of n (begin_answer k e head rule s1)
      unfolding begin_answer end_if_empty
      begins = by (body_of rule []).outcome
        where
          by : (o : Outcome) → IsNoted due_of n (elim o as (λ c. State) [ Done rest ↦ finish k e a t | Going ↦ t | Bad ↦ t ])
          by (Done rest) = finish_noted k e a t its_number answered begun
          by Going = begun
          by Bad = begun

    answers : IsNoted due_of n (answer_for k e head s1)
    unfolding answer_for
    answers = noted_when (is_wrong_head e head) (bad_head_noted k s1 paid_shrinks its_number paid) (by (rule_of (asks_head e) head.status head.fields))
      where
        by : {E : Type 0} (read : Result BodyRule E) → IsNoted due_of n (elim read as (λ c. State) [ Ok rule ↦ begin_answer k e head rule s1 | Err fault ↦ bad_head k s1 ])
        by (Ok rule) = begins rule
        by (Err fault) = bad_head_noted k s1 paid_shrinks its_number paid

  came : k.answer ≡ None → (head : Response) → IsNoted due_of n (head_came k head s)
  unfolding head_came
  came quiet head = by (front_of_line s k) refl
    where
      by : (o : Option Exchange) → front_of_line s k ≡ o → IsNoted due_of n (elim o as (λ c. State) [ None ↦ close_conn false k s | Some e ↦ answer_for k e head (bring_row e head s) ])
      by None none = close_noted false k s its_number h
      by (Some e) front = let w = first_in s k.line e front in answers quiet e w.0 w.1 head

  cleared : (bytes : Bytes) → IsNoted due_of n (on_conn k.number (with_unread bytes) s)
  cleared bytes = subst (λ (m : ℕ). IsNoted due_of n (on_conn m (with_unread bytes) s)) (sym its_number) (on_noted {due = due_of} {later = due_of} (with_unread bytes) s (λ j. refl) (λ j i number. le_refl (due_of j)) h)

  head_noted : k.answer ≡ None → (bytes : Bytes) → IsNoted due_of n (head_piece k bytes s).state
  head_noted quiet bytes = piece_when (is_early s k) _ _ (close_noted true k s its_number h) (by (response_at (k.unread ++ bytes)))
    where
      by : (read : Read Response)
          → IsNoted due_of n (elim read as (λ c. Piece) [
            | More ↦ record { state = on_conn k.number (with_unread (k.unread ++ bytes)) s; rest = [] }
            | TooLong ↦ record { state = bad_head k s; rest = [] }
            | NoHead ↦ record { state = bad_head k s; rest = [] }
            | Whole head ↦ elim (is_interim head.status) as (λ c. Piece) [
              | true ↦ record { state = on_conn k.number (with_unread []) s; rest = drop head.length (k.unread ++ bytes) }
              | false ↦ record { state = head_came k head s; rest = drop head.length (k.unread ++ bytes) }
            ]
          ]).state
      by More = cleared (k.unread ++ bytes)
      by TooLong = bad_head_noted k s due_shrinks its_number h
      by NoHead = bad_head_noted k s due_shrinks its_number h
      by (Whole head) = piece_when (is_interim head.status) _ _ (cleared []) (came quiet head)

  -- ---- a body goes on

  module _ (a : Answer) (has : k.answer ≡ Some a) (e : Exchange) (others : List ℕ) (line : k.line ≡ e.number ∷ others) (at : ℕ) (fresh : Bytes) where
    abbrev d : State
    d = deliver e a at fresh s

    given : IsNoted due_of n d
    given = beside_noted s d (delivered_beside e a at fresh s) h

    its : AreAnswered e.number n d
    its j i number =
        let is_it : j ≡ k = only j (subst (λ (ks : List Conn). IsIn j ks) (delivered_beside e a at fresh s).conns i) number in
        record { answer = a; is = ap (λ (c : Conn). c.answer) is_it ∙ has; here = subst (λ (ns : List ℕ). IsIn e.number ns) (sym (ap (λ (c : Conn). c.line) is_it ∙ line)) (inl refl) }

    goes : (raw : Bytes) → IsNoted due_of n (on_conn k.number (λ i. record i { answer = Some (record a { raw = raw }) }) d)
    goes raw =
        subst (λ (m : ℕ). IsNoted due_of n (on_conn m (λ i. record i { answer = Some (record a { raw = raw }) }) d)) (sym its_number)
        (on_noted {due = due_of} {later = due_of} (λ i. record i { answer = Some (record a { raw = raw }) }) d (λ j. refl) (λ j i number. paid_due j.answer (length j.line)) given)

  body_noted : (a : Answer) → k.answer ≡ Some a → (bytes : Bytes) → IsNoted due_of n (body_piece k a bytes s).state
  body_noted a has bytes = by (front_of_line s k) refl
    where
      at : ℕ
      at = length (payload_of a)

      fresh : Bytes
      fresh = drop at (body_of a.rule (a.raw ++ bytes)).payload

      ends : (e : Exchange) (others : List ℕ) → k.line ≡ e.number ∷ others → (o : Outcome)
          → IsNoted due_of n (elim o as (λ c. Piece) [
            | Going ↦ record { state = on_conn k.number (λ i. record i { answer = Some (record a { raw = a.raw ++ bytes }) }) (deliver e a at fresh s); rest = [] }
            | Bad ↦ record { state = bad_response k (deliver e a at fresh s); rest = [] }
            | Done rest ↦ record { state = finish k e a (deliver e a at fresh s); rest = rest }
          ]).state
      ends e others line Going = goes a has e others line at fresh (a.raw ++ bytes)
      ends e others line Bad = bad_noted k (deliver e a at fresh s) due_shrinks its_number (given a has e others line at fresh)
      ends e others line (Done rest) = finish_noted k e a (deliver e a at fresh s) its_number (its a has e others line at fresh) (given a has e others line at fresh)

      by : (o : Option Exchange) → front_of_line s k ≡ o → IsNoted due_of n (elim o as (λ c. Piece) [ None ↦ record { state = close_conn false k s; rest = [] } | Some e ↦ body_piece_of k a e bytes s ]).state
      by None none = close_noted false k s its_number h
      by (Some e) front = let w = first_in s k.line e front in ends e w.0 w.1 (body_of a.rule (a.raw ++ bytes)).outcome

  piece_noted : (bytes : Bytes) → IsNoted due_of n (next_piece k bytes s).state
  piece_noted bytes = by k.answer refl
    where
      by : (o : Option Answer) → k.answer ≡ o → IsNoted due_of n (elim o as (λ c. Piece) [ Some a ↦ body_piece k a bytes s | None ↦ head_piece k bytes s ]).state
      by None quiet = head_noted quiet bytes
      by (Some a) has = body_noted a has bytes

-- ---- one piece behind the other

pub got_noted : {b : Since} (more n : ℕ) (bytes : Bytes) (s : State) → b.excepts ≡ None → Sound b s → IsNoted due_of n s → IsNoted due_of n (got more n bytes s)
unfolding got
got_noted zero n bytes s none so h = h
got_noted (suc more) n bytes s none so h = by (conn s n) refl (λ k found. got_noted more n (next_piece k bytes s).rest (next_piece k bytes s).state none (next_piece-sound k bytes s none (in_find (is_conn n) k s.conns found).0 so) (piece_noted k s found so h bytes))
  where
    by : (o : Option Conn) → conn s n ≡ o → ((k : Conn) → conn s n ≡ Some k → IsNoted due_of n (got more n (next_piece k bytes s).rest (next_piece k bytes s).state))
        → IsNoted due_of n (elim o as (λ c. State) [ None ↦ s | Some k ↦ elim (k.is_closing || is_empty bytes) as (λ c. State) [ true ↦ s | false ↦ got more n (next_piece k bytes s).rest (next_piece k bytes s).state ] ])
    by None isnt rest = h
    by (Some k) found rest = noted_when (k.is_closing || is_empty bytes) h (rest k found)
