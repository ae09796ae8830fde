-- Each exchange was there before a read of an origin, with the head of its request: however much is read.
use Rattle.std.proofs.Common.{◌≡◌, refl, ℕ, zero, suc, ◌+◌, Bool, true, false, not, ◌||◌, List, [], ◌++◌, drop, length, is_some, Option, Some, None, Result, Ok, Err, sym, ap, ◌∙◌}
use Rattle.pp_framing.specs.Body.{Outcome, Done as IsDone, Going, Bad}
use Rattle.pp_framing.specs.Framing.{rule_of}
use Rattle.pp_framing.specs.Rules.{body_of}
use Rattle.pp_framing.specs.declared.body.BodyRule.{BodyRule}
use Rattle.pp_head.specs.Read.{Read, Whole, TooLong, Bad as NoHead, More}
use Rattle.pp_head.specs.Response.{Response, response_at}
use Rattle.pp_pipe.specs.Front.{is_interim}
use Rattle.pp_text.specs.Bytes.{is_empty}
use Rattle.pp_law.specs.Connections.{close_conn, conn, front_of_line, on_conn, is_exchange, on_exchange, unplaced}
use Rattle.pp_law.specs.Lists.{Bytes}
use Rattle.pp_law.specs.OwnHeads.{is_wrong_head, join, join_bound, joined_one, moved_on, note_own, note_sent}
use Rattle.pp_law.specs.Responses.{Piece, answer_for, answer_with, answered_by, asks_head, bad_head, bad_response, begin_answer, body_piece, body_piece_of, by_aim, deliver, end_if_empty, finish, got, head_came, head_piece, is_early, next_piece, payload_of, with_unread}
use Rattle.pp_law.specs.State.{State, Answer, Conn, Exchange, Aim, Through, Own, Filling, Bound, Joining}
use Rattle.pp_law.specs.Closing.{left_alone}
use Rattle.pp_law.specs.Chunks.{note_use}
use Rattle.pp_law.specs.Passing.{poured}
use Rattle.pp_law.specs.Stages.{bound_of, is_pending, is_through}
use Rattle.pp_laws.specs.Runs.{IsIn}
use Rattle.pp_laws.proofs.Lists.{Changed, in_change, in_filter, in_map, other, same}
use Rattle.pp_laws_coming.proofs.Facts.{AreApart}
use Rattle.pp_laws_turn.proofs.View.{facts_of as facts_of_turn, holds as holds_turn}
use Rattle.pp_comes_law.proofs.LoneGot.{got-were}
use Rattle.pp_comes_law.proofs.LoneHeads.{Was}
use Rattle.pp_comes_law.proofs.LoneLate.{AreOwned}
use Rattle.pp_comes_law.proofs.Lones.{alone_of, lone_by, pending_of, through_of}
use Rattle.pp_law.specs.Requests.{goes_alone}
use Rattle.pp_laws_pool.proofs.View.{Holds, View, Walk, SameAsk, facts_of, holds, view}
use Rattle.pp_laws_pool.proofs.WalkCases.{by_aim_of, by_outcome, each_of, when}
use Rattle.pp_laws_pool.proofs.WalkClients.{pour-keeps}
use Rattle.pp_laws_pool.proofs.WalkClosings.{close_conn-keeps}
use Rattle.pp_laws_pool.proofs.WalkExchanges.{on_exchange-keeps, same_ask}
use Rattle.pp_laws_pool.proofs.WalkHeads.{bring_row-keeps, by_aim-keeps}
use Rattle.pp_laws_pool.proofs.WalkPieces.{bad_head-keeps, bad_response-keeps, finish-keeps}

-- ---- what is kept

-- one of these has its number, and its head
pub record HasHead (es : List Exchange) (e : Exchange) : Type 0 where
  pub was : Exchange
  pub there : IsIn was es
  pub number : was.number ≡ e.number
  pub head : was.head ≡ e.head

abbrev pub AllHaveHeads : List Exchange → View → Type 0
AllHaveHeads es v = (e : Exchange) → IsIn e v.exchanges → HasHead es e

set_head : (es : List Exchange) (d x : Exchange) → HasHead es x → d.number ≡ x.number → d.head ≡ x.head → HasHead es d
set_head es d x w number head = record { was = w.was; there = w.there; number = w.number ∙ sym number; head = w.head ∙ sym head }

unplaced_heads : (es : List Exchange) (n : ℕ) (s : State) → AllHaveHeads es (view s) → AllHaveHeads es (view (on_exchange n unplaced s))
unfolding on_exchange
unplaced_heads es n s h d i = by d (in_change (is_exchange n) unplaced d s.exchanges i)
  where
    by : (d : Exchange) → Changed (is_exchange n) unplaced s.exchanges d → HasHead es d
    by d (same j isnt) = h d j
    by d (other x j hit eq) = set_head es d x (h x j) (ap (λ (y : Exchange). y.number) eq) (ap (λ (y : Exchange). y.head) eq)

heads_walk : (es : List Exchange) → Walk (AllHaveHeads es)
heads_walk es = record {
  clients = λ f same_ v h. h;
  asks = λ f same_ v h d i. (let r = in_map f d v.exchanges i in let w = h r.was r.there in set_head es d r.was w (ap (λ (x : Exchange). x.number) r.is ∙ (same_ r.was).number) (ap (λ (x : Exchange). x.head) r.is ∙ (same_ r.was).head));
  left = λ test v h d i. left d v (in_change test left_alone d v.exchanges i) h;
  over = λ test v h d i. h d (in_filter test d v.exchanges i).0;
  conns = λ f lesser v h. h;
  chunks = λ test v h. h;
  again = λ n s may h. unplaced_heads es n s h;
}
  where
    left : {test : Exchange → Bool} (d : Exchange) (v : View) → Changed test left_alone v.exchanges d → AllHaveHeads es v → HasHead es d
    left d v (same j isnt) h = h d j
    left d v (other x j hit eq) h = set_head es d x (h x j) (ap (λ (y : Exchange). y.number) eq) (ap (λ (y : Exchange). y.head) eq)

moved_same : (m : ℕ) (e : Exchange) → SameAsk (moved_on m e) e
moved_same m e = by (bound_of e)
  where
    by : (o : Option Bound) → SameAsk (elim o as (λ c. Exchange) [ None ↦ e | Some b ↦ record e { body = Joining (record b { next = b.next + m }) } ]) e
    by None = same_ask e e refl refl refl refl refl refl
    by (Some b) = same_ask _ e refl refl refl refl refl refl

piece_when : {P : _} (t : Bool) (p q : Piece) → Holds P p.state → Holds P q.state → Holds P (elim t as (λ c. Piece) [ true ↦ p | false ↦ q ]).state
piece_when true p q hp hq = hp
piece_when false p q hp hq = hq

module _ (es : List Exchange) where
  abbrev Keeps : State → Type 0
  Keeps s = Holds (AllHaveHeads es) s

  -- of connections this says nothing
  set_conn : (n : ℕ) (f : Conn → Conn) (s : State) → Keeps s → Keeps (on_conn n f s)
  unfolding on_conn
  set_conn n f s h = holds (facts_of h)

  -- ---- a head

  begun_so : (k : Conn) (e : Exchange) (head : Response) (rule : BodyRule) (s : State) → Keeps s → Keeps (begin_answer k e head rule s)
  unfolding begin_answer end_if_empty on_conn
  begun_so k e head rule s h =
      let came : Keeps (by_aim e head rule (on_conn k.number (answered_by (answer_with e head rule)) s)) = by_aim-keeps (heads_walk es) e head rule _ (holds (facts_of h)) in
      by_outcome (body_of rule []).outcome (λ rest. finish-keeps (heads_walk es) k e (answer_with e head rule) _ came) came came

  answer_so : (k : Conn) (e : Exchange) (head : Response) (s : State) → Keeps s → Keeps (answer_for k e head s)
  unfolding answer_for
  answer_so k e head s h = when (is_wrong_head e head) (bad_head-keeps (heads_walk es) k s h) (by (rule_of (asks_head e) head.status head.fields))
    where
      by : {F : Type 0} (read : Result BodyRule F) → Keeps (elim read as (λ c. State) [ Ok rule ↦ begin_answer k e head rule s | Err fault ↦ bad_head k s ])
      by (Ok rule) = begun_so k e head rule s h
      by (Err fault) = bad_head-keeps (heads_walk es) k s h

  came_so : (k : Conn) (head : Response) (s : State) → Keeps s → Keeps (head_came k head s)
  unfolding head_came
  came_so k head s h = each_of (front_of_line s k) (close_conn-keeps (heads_walk es) false k s h) (λ e. answer_so k e head _ (bring_row-keeps (heads_walk es) e head s h))

  head_so : (k : Conn) (bytes : Bytes) (s : State) → Keeps s → Keeps (head_piece k bytes s).state
  head_so k bytes s h = piece_when (is_early s k) _ _ (close_conn-keeps (heads_walk es) true k s h) (by (response_at (k.unread ++ bytes)))
    where
      unread : (left : Bytes) → Keeps (on_conn k.number (with_unread left) s)
      unread left = set_conn k.number (with_unread left) s h

      by : (read : Read Response) → Keeps (elim read as (λ c. Piece) [
        | More ↦ record { state = on_conn k.number (with_unread (k.unread ++ bytes)) s; rest = [] }
        | TooLong ↦ record { state = bad_head k s; rest = [] }
        | NoHead ↦ record { state = bad_head k s; rest = [] }
        | Whole head ↦ elim (is_interim head.status) as (λ c. Piece) [
          | true ↦ record { state = on_conn k.number (with_unread []) s; rest = drop head.length (k.unread ++ bytes) }
          | false ↦ record { state = head_came k head s; rest = drop head.length (k.unread ++ bytes) }
        ]
      ]).state
      by More = unread (k.unread ++ bytes)
      by TooLong = bad_head-keeps (heads_walk es) k s h
      by NoHead = bad_head-keeps (heads_walk es) k s h
      by (Whole head) = piece_when (is_interim head.status) _ _ (unread []) (came_so k head s h)

  -- ---- bytes of a body

  joined_so : (b : Bound) (bytes : Bytes) (s : State) → Keeps s → Keeps (join b bytes s)
  unfolding join note_use
  joined_so b bytes s h = each_of (joined_one b bytes s) h (λ x. holds (facts_of h))

  noted_so : (e : Exchange) (a : Answer) (at : ℕ) (bytes : Bytes) (s : State) → Keeps s → Keeps (note_sent e a at bytes s)
  unfolding note_sent note_own
  noted_so e a at bytes s h = by_aim_of e.aim h (when (is_empty bytes) h (holds (facts_of h))) (λ v from to. when (is_empty bytes) h (holds (facts_of h)))

  deliver_so : (e : Exchange) (a : Answer) (at : ℕ) (bytes : Bytes) (s : State) → Keeps s → Keeps (deliver e a at bytes s)
  unfolding deliver join_bound
  deliver_so e a at bytes s h = pour-keeps (heads_walk es) e (poured bytes) _ (each_of (bound_of e) (noted_so e a at bytes s h) (λ b. on_exchange-keeps (heads_walk es) e.number (moved_on (length bytes)) _ (moved_same (length bytes)) (joined_so b bytes _ (noted_so e a at bytes s h))))

  body_so : (k : Conn) (a : Answer) (bytes : Bytes) (s : State) → Keeps s → Keeps (body_piece k a bytes s).state
  body_so k a bytes s h = by (front_of_line s k)
    where
      of_first : (e : Exchange) → Keeps (body_piece_of k a e bytes s).state
      of_first e = at (body_of a.rule (a.raw ++ bytes)).outcome
        where
          t : State
          t = deliver e a (length (payload_of a)) (drop (length (payload_of a)) (body_of a.rule (a.raw ++ bytes)).payload) s

          now : Keeps t
          now = deliver_so e a (length (payload_of a)) (drop (length (payload_of a)) (body_of a.rule (a.raw ++ bytes)).payload) s h

          at : (outcome : Outcome) → Keeps (elim outcome as (λ c. Piece) [
            | Going ↦ record { state = on_conn k.number (λ c. record c { answer = Some (record a { raw = a.raw ++ bytes }) }) t; rest = [] }
            | Bad ↦ record { state = bad_response k t; rest = [] }
            | IsDone rest ↦ record { state = finish k e a t; rest = rest }
          ]).state
          at Going = set_conn k.number _ t now
          at Bad = bad_response-keeps (heads_walk es) k t now
          at (IsDone rest) = finish-keeps (heads_walk es) k e a t now

      by : (o : Option Exchange) → Keeps (elim o as (λ c. Piece) [ None ↦ record { state = close_conn false k s; rest = [] } | Some e ↦ body_piece_of k a e bytes s ]).state
      by None = close_conn-keeps (heads_walk es) false k s h
      by (Some e) = of_first e

  -- ---- one piece behind the other

  piece_so : (k : Conn) (bytes : Bytes) (s : State) → Keeps s → Keeps (next_piece k bytes s).state
  piece_so k bytes s h = by k.answer
    where
      by : (answer : Option Answer) → Keeps (elim answer as (λ c. Piece) [ Some a ↦ body_piece k a bytes s | None ↦ head_piece k bytes s ]).state
      by None = head_so k bytes s h
      by (Some a) = body_so k a bytes s h

  pub got-heads : (more n : ℕ) (bytes : Bytes) (s : State) → Keeps s → Keeps (got more n bytes s)
  unfolding got
  got-heads zero n bytes s h = h
  got-heads (suc more) n bytes s h = each_of (conn s n) h (λ k. when (k.is_closing || is_empty bytes) h (got-heads more n (next_piece k bytes s).rest (next_piece k bytes s).state (piece_so k bytes s h)))

-- ---- so what goes alone and is not answered yet was so before

pub got-whose : (more n : ℕ) (bytes : Bytes) (s : State) → AreApart s.exchanges → AreOwned s.exchanges → AreOwned (got more n bytes s).exchanges
got-whose more n bytes s apart h e i lone =
    let a : HasHead s.exchanges e = facts_of (got-heads s.exchanges more n bytes s (holds (λ d j. record { was = d; there = j; number = refl; head = refl }))) e i in
    let b : Was s.exchanges e = facts_of_turn (got-were s.exchanges apart more n bytes s (holds_turn (λ d j. record { was = d; there = j; number = refl; aim = refl; unheaded = λ off. off; asker = λ through. refl }))) e i in
    let one : a.was ≡ b.was = apart a.was b.was a.there b.there (a.number ∙ sym b.number) in
    let alone : goes_alone b.was.head ≡ true = ap (λ (d : Exchange). goes_alone d.head) (sym one) ∙ ap goes_alone a.head ∙ alone_of e lone in
    let through : is_through b.was ≡ true = ap (λ (x : Aim). elim x as (λ y. Bool) [ Through ↦ true | Own ↦ false | Filling v from to ↦ false ]) b.aim ∙ through_of e lone in
    let pending : is_pending b.was.body ≡ true = off_pending (is_pending b.was.body) (b.unheaded (ap not (pending_of e lone))) in
    ap (λ (o : Option ℕ). is_some o) (b.asker (through_of e lone)) ∙ h b.was b.there (lone_by b.was alone through pending)
  where
    off_pending : (t : Bool) → not t ≡ false → t ≡ true
    off_pending true is = refl
    off_pending false is = absurd (cc is)
