-- While a connection is read, each exchange of a line stood there before, for the same client.
use Rattle.std.proofs.Common.{◌≡◌, refl, ℕ, Bool, true, false, not, ◌==◌, ◌&&◌, ◌||◌, List, [], ◌∷◌, ◌++◌, map, filter, drop, length, Option, Some, None, Result, Ok, Err, sym, subst, ap, ◌∙◌}
use Rattle.pp_framing.specs.Body.{Outcome, Done, Going, Bad}
use Rattle.pp_framing.specs.Framing.{rule_of}
use Rattle.pp_framing.specs.Rules.{body_of}
use Rattle.pp_framing.specs.declared.body.BodyRule.{BodyRule}
use Rattle.pp_framing.specs.declared.framing.ResponseFault.{ResponseFault}
use Rattle.pp_head.specs.Read.{Read, Whole, TooLong, Bad as NoHead, More}
use Rattle.pp_head.specs.Response.{Response, response_at}
use Rattle.pp_pipe.specs.Front.{is_interim}
use Rattle.pp_text.specs.Bytes.{is_empty}
use Rattle.pp_law.specs.Closing.{left_alone}
use Rattle.pp_law.specs.Connections.{is_conn, is_exchange, on_conn, on_exchange, front_of_line, close_conn, unplaced}
use Rattle.pp_law.specs.Lists.{Bytes, change}
use Rattle.pp_law.specs.OwnHeads.{is_wrong_head, note_own, note_sent}
use Rattle.pp_law.specs.Passing.{poured}
use Rattle.pp_law.specs.Responses.{rested, finish, bad_response, bad_head, by_aim, asks_head, answer_with, answered_by, end_if_empty, begin_answer, answer_for, head_came, Piece, is_early, with_unread, head_piece_of, head_piece, deliver, payload_of, body_piece_of, body_piece, next_piece, bring_row}
use Rattle.pp_law.specs.State.{State, Answer, Conn, Exchange}
use Rattle.pp_laws.specs.Runs.{IsIn}
use Rattle.pp_laws.proofs.Lists.{Changed, in_change, in_filter, in_map, other, same}
use Rattle.pp_laws_pool.proofs.View.{View, Walk, Holds, holds, facts_of, view}
use Rattle.pp_laws_pool.proofs.WalkCases.{by_aim_of, each_of, when}
use Rattle.pp_laws_pool.proofs.WalkClients.{pour-keeps}
use Rattle.pp_laws_pool.proofs.WalkClosings.{close_conn-keeps}
use Rattle.pp_laws_pool.proofs.WalkHeads.{bring_row-keeps, by_aim-keeps}
use Rattle.pp_laws_pool.proofs.WalkPieces.{bad_head-keeps, bad_response-keeps, finish-keeps}
use Rattle.pp_laws_sent.proofs.Pieces.{join_bound-keeps}

-- an exchange of that number, for that client, in the line of that connection
pub record Stood (o : State) (number n client : ℕ) : Type 0 where
  pub was : Exchange
  pub there : IsIn was o.exchanges
  pub numbered : was.number ≡ n
  pub asker : was.asker ≡ Some client
  pub conn : Conn
  pub conn_there : IsIn conn o.conns
  pub conn_numbered : conn.number ≡ number
  pub line : IsIn was.number conn.line

abbrev pub Ours : State → View → Type 0
Ours o v = (k : Conn) (e : Exchange) (client : ℕ) → IsIn k v.conns → IsIn e v.exchanges → IsIn e.number k.line → e.asker ≡ Some client → Stood o k.number e.number client

pub ours_now : (o : State) → Holds (Ours o) o
ours_now o = holds (λ k e client i j l asks. record { was = e; there = j; numbered = refl; asker = asks; conn = k; conn_there = i; conn_numbered = refl; line = l })

module _ (o : State) where
  -- the same exchange, for the same client or nobody
  of_exchange : (v : View) (k : Conn) (e d : Exchange) (client : ℕ) → e.number ≡ d.number → (e.asker ≡ Some client → d.asker ≡ Some client) → IsIn d v.exchanges → Ours o v → IsIn k v.conns → IsIn e.number k.line → e.asker ≡ Some client → Stood o k.number e.number client
  of_exchange v k e d client number asker j h i l asks = subst (λ n. Stood o k.number n client) (sym number) (h k d client i j (subst (λ n. IsIn n k.line) number l) (asker asks))

  of_conn : (v : View) (k j : Conn) (e : Exchange) (client : ℕ) → k.number ≡ j.number → (IsIn e.number k.line → IsIn e.number j.line) → IsIn j v.conns → Ours o v → IsIn e v.exchanges → IsIn e.number k.line → e.asker ≡ Some client → Stood o k.number e.number client
  of_conn v k j e client number line i h at l asks = subst (λ n. Stood o n e.number client) (sym number) (h j e client i at (line l) asks)

  pub ours_walk : Walk (Ours o)
  unfolding on_exchange
  ours_walk = record {
    clients = λ f kept v h. h;
    asks = λ f kept v h k e client i j l asks.
        let r = in_map f e v.exchanges j in
        of_exchange v k e r.was client (ap (λ (x : Exchange). x.number) r.is ∙ (kept r.was).number) (λ is. sym (ap (λ (x : Exchange). x.asker) r.is ∙ (kept r.was).asker) ∙ is) r.there h i l asks;
    left = λ test v h k e client i j l asks. by_change v k e client test left_alone (λ d. refl) (λ d is. absurd (cc is)) (in_change test left_alone e v.exchanges j) h i l asks;
    over = λ test v h k e client i j l asks. h k e client i (in_filter (λ x. test x) e v.exchanges j).0 l asks;
    conns = λ f lesser v h k e client i j l asks.
        let r = in_map f k v.conns i in
        of_conn v k r.was e client (ap (λ (x : Conn). x.number) r.is ∙ (lesser r.was).number) (λ at. (lesser r.was).within e.number (subst (λ (x : Conn). IsIn e.number x.line) r.is at)) r.there h j l asks;
    chunks = λ test v h. h;
    again = λ n s may h k e client i j l asks. by_change (view s) k e client (is_exchange n) unplaced (λ d. refl) (λ d is. is) (in_change (is_exchange n) unplaced e s.exchanges j) h i l asks;
  }
    where
      by_change : (v : View) (k : Conn) (e : Exchange) (client : ℕ) (test : Exchange → Bool) (f : Exchange → Exchange) → ((d : Exchange) → (f d).number ≡ d.number) → ((d : Exchange) → (f d).asker ≡ Some client → d.asker ≡ Some client) → Changed test f v.exchanges e
          → Ours o v → IsIn k v.conns → IsIn e.number k.line → e.asker ≡ Some client → Stood o k.number e.number client
      by_change v k e client test f number asker (same j isnt) h i l asks = h k e client i j l asks
      by_change v k e client test f number asker (other d j hit eq) h i l asks =
          of_exchange v k e d client (ap (λ (x : Exchange). x.number) eq ∙ number d) (λ is. asker d (sym (ap (λ (x : Exchange). x.asker) eq) ∙ is)) j h i l asks

  -- a connection with the same line
  on_conn-ours : (n : ℕ) (f : Conn → Conn) (s : State) → ((k : Conn) → (f k).number ≡ k.number) → ((k : Conn) → (f k).line ≡ k.line) → Holds (Ours o) s → Holds (Ours o) (on_conn n f s)
  unfolding on_conn
  on_conn-ours n f s number line h = holds (λ k e client i j l asks. by k e client (in_change (is_conn n) f k s.conns i) j l asks)
    where
      by : (k : Conn) (e : Exchange) (client : ℕ) → Changed (is_conn n) f s.conns k → IsIn e s.exchanges → IsIn e.number k.line → e.asker ≡ Some client → Stood o k.number e.number client
      by k e client (same i isnt) j l asks = facts_of h k e client i j l asks
      by k e client (other g i hit eq) j l asks =
          of_conn (view s) k g e client (ap (λ (x : Conn). x.number) eq ∙ number g) (λ at. subst (λ ns. IsIn e.number ns) (ap (λ (x : Conn). x.line) eq ∙ line g) at) i (facts_of h) j l asks

  -- ---- a head

  begin_answer-ours : (k : Conn) (e : Exchange) (head : Response) (rule : BodyRule) (s : State) → Holds (Ours o) s → Holds (Ours o) (begin_answer k e head rule s)
  unfolding begin_answer end_if_empty
  begin_answer-ours k e head rule s h = by (body_of rule []).outcome
    where
      u : State
      u = by_aim e head rule (on_conn k.number (answered_by (answer_with e head rule)) s)

      hu : Holds (Ours o) u
      hu = by_aim-keeps ours_walk e head rule _ (on_conn-ours k.number (answered_by (answer_with e head rule)) s (λ j. refl) (λ j. refl) h)

      by : (outcome : Outcome) → Holds (Ours o) (elim outcome as (λ c. State) [ Done left ↦ finish k e (answer_with e head rule) u | Going ↦ u | Bad ↦ u ])
      by (Done left) = finish-keeps ours_walk k e (answer_with e head rule) u hu
      by Going = hu
      by Bad = hu

  answer_for-ours : (k : Conn) (e : Exchange) (head : Response) (s : State) → Holds (Ours o) s → Holds (Ours o) (answer_for k e head s)
  unfolding answer_for
  answer_for-ours k e head s h = when (is_wrong_head e head) (bad_head-keeps ours_walk k s h) (by (rule_of (asks_head e) head.status head.fields))
    where
      by : (r : Result BodyRule ResponseFault) → Holds (Ours o) (elim r as (λ c. State) [ Ok rule ↦ begin_answer k e head rule s | Err fault ↦ bad_head k s ])
      by (Ok rule) = begin_answer-ours k e head rule s h
      by (Err fault) = bad_head-keeps ours_walk k s h

  head_came-ours : (k : Conn) (head : Response) (s : State) → Holds (Ours o) s → Holds (Ours o) (head_came k head s)
  unfolding head_came
  head_came-ours k head s h = each_of (front_of_line s k) (close_conn-keeps ours_walk false k s h) (λ e. answer_for-ours k e head _ (bring_row-keeps ours_walk e head s h))

  piece_by : (t : Bool) (p q : Piece) → Holds (Ours o) p.state → Holds (Ours o) q.state → Holds (Ours o) (elim t as (λ c. Piece) [ true ↦ p | false ↦ q ]).state
  piece_by true p q hp hq = hp
  piece_by false p q hp hq = hq

  head_piece_of-ours : (k : Conn) (bytes : Bytes) (s : State) (read : Read Response) → Holds (Ours o) s
      → Holds (Ours o) (elim read as (λ c. Piece) [
        | More ↦ record { state = on_conn k.number (with_unread bytes) s; rest = [] }
        | TooLong ↦ record { state = bad_head k s; rest = [] }
        | NoHead ↦ record { state = bad_head k s; rest = [] }
        | Whole head ↦ elim (is_interim head.status) as (λ c. Piece) [
          | true ↦ record { state = on_conn k.number (with_unread []) s; rest = drop head.length bytes }
          | false ↦ record { state = head_came k head s; rest = drop head.length bytes }
        ]
      ]).state
  head_piece_of-ours k bytes s More h = on_conn-ours k.number (with_unread bytes) s (λ j. refl) (λ j. refl) h
  head_piece_of-ours k bytes s TooLong h = bad_head-keeps ours_walk k s h
  head_piece_of-ours k bytes s NoHead h = bad_head-keeps ours_walk k s h
  head_piece_of-ours k bytes s (Whole head) h = piece_by (is_interim head.status) _ _ (on_conn-ours k.number (with_unread []) s (λ j. refl) (λ j. refl) h) (head_came-ours k head s h)

  head_piece-ours : (k : Conn) (bytes : Bytes) (s : State) → Holds (Ours o) s → Holds (Ours o) (head_piece k bytes s).state
  head_piece-ours k bytes s h = piece_by (is_early s k) _ _ (close_conn-keeps ours_walk true k s h) (head_piece_of-ours k (k.unread ++ bytes) s (response_at (k.unread ++ bytes)) h)

  -- ---- a body

  note_own-ours : (e : Exchange) (a : Answer) (at : ℕ) (bytes : Bytes) (s : State) → Holds (Ours o) s → Holds (Ours o) (note_own e a at bytes s)
  unfolding note_own
  note_own-ours e a at bytes s h = when (is_empty bytes) h (holds (facts_of h))

  note_sent-ours : (e : Exchange) (a : Answer) (at : ℕ) (bytes : Bytes) (s : State) → Holds (Ours o) s → Holds (Ours o) (note_sent e a at bytes s)
  unfolding note_sent
  note_sent-ours e a at bytes s h = by_aim_of e.aim h (note_own-ours e a at bytes s h) (λ v from to. note_own-ours e a at bytes s h)

  deliver-ours : (e : Exchange) (a : Answer) (at : ℕ) (bytes : Bytes) (s : State) → Holds (Ours o) s → Holds (Ours o) (deliver e a at bytes s)
  unfolding deliver
  deliver-ours e a at bytes s h = pour-keeps ours_walk e (poured bytes) _ (join_bound-keeps ours_walk e bytes _ (λ v is_evicting chunks g. g) (note_sent-ours e a at bytes s h))

  body_piece-ours : (k : Conn) (a : Answer) (bytes : Bytes) (s : State) → Holds (Ours o) s → Holds (Ours o) (body_piece k a bytes s).state
  body_piece-ours k a bytes s h = by (front_of_line s k)
    where
      of : (e : Exchange) (outcome : Outcome) (t : State) → Holds (Ours o) t → Holds (Ours o) (elim outcome as (λ c. Piece) [
        | Going ↦ record { state = on_conn k.number (λ i. record i { answer = Some (record a { raw = a.raw ++ bytes }) }) t; rest = [] }
        | Bad ↦ record { state = bad_response k t; rest = [] }
        | Done rest ↦ record { state = finish k e a t; rest = rest }
      ]).state
      of e Going t g = on_conn-ours k.number (λ i. record i { answer = Some (record a { raw = a.raw ++ bytes }) }) t (λ j. refl) (λ j. refl) g
      of e Bad t g = bad_response-keeps ours_walk k t g
      of e (Done rest) t g = finish-keeps ours_walk k e a t g

      by : (found : Option Exchange) → Holds (Ours o) (elim found as (λ c. Piece) [ None ↦ record { state = close_conn false k s; rest = [] } | Some e ↦ body_piece_of k a e bytes s ]).state
      by None = close_conn-keeps ours_walk false k s h
      by (Some e) = of e (body_of a.rule (a.raw ++ bytes)).outcome _ (deliver-ours e a (length (payload_of a)) (drop (length (payload_of a)) (body_of a.rule (a.raw ++ bytes)).payload) s h)

  pub next_piece-ours : (k : Conn) (bytes : Bytes) (s : State) → Holds (Ours o) s → Holds (Ours o) (next_piece k bytes s).state
  next_piece-ours k bytes s h = by k.answer
    where
      by : (answer : Option Answer) → Holds (Ours o) (elim answer as (λ c. Piece) [ Some a ↦ body_piece k a bytes s | None ↦ head_piece k bytes s ]).state
      by None = head_piece-ours k bytes s h
      by (Some a) = body_piece-ours k a bytes s h
