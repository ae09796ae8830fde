-- As one read goes on, each exchange in the line of its connection is for one of these keys; so the rows that it brings late have these.
use Rattle.std.proofs.Common.{◌≡◌, inl, ℕ, zero, suc, ◌+◌, Bool, true, false, ◌||◌, List, [], ◌∷◌, ◌++◌, drop, length, Option, Some, None, refl, sym, subst, ap, ◌∙◌}
use Rattle.pp_framing.specs.Body.{Outcome, Done, Going, Bad}
use Rattle.pp_framing.specs.Framing.{rule_of}
use Rattle.pp_framing.specs.Rules.{body_of}
use Rattle.pp_framing.specs.declared.body.BodyRule.{BodyRule}
use Rattle.pp_head.specs.Read.{Read, Whole, TooLong, Bad as NoHead, More}
use Rattle.pp_head.specs.Response.{Response, response_at}
use Rattle.pp_law.specs.Chunks.{note_use}
use Rattle.pp_law.specs.Closing.{left_alone}
use Rattle.pp_law.specs.Connections.{conn, exchange, front_of_line, is_conn, is_exchange, on_conn, on_exchange, close_conn, unplaced}
use Rattle.pp_law.specs.Lists.{Bytes, change}
use Rattle.pp_law.specs.OwnHeads.{is_wrong_head, join, joined_one, join_bound, key_of, moved_on, note_own, note_sent}
use Rattle.pp_law.specs.Responses.{Piece, answer_for, answer_with, asks_head, bad_head, bad_response, begin_answer, body_piece, body_piece_of, deliver, end_if_empty, finish, got, head_came, head_piece, is_early, next_piece, payload_of, with_unread}
use Rattle.pp_law.specs.Stages.{bound_of}
use Rattle.pp_law.specs.State.{State, Answer, Bound, Conn, Exchange, Joining}
use Rattle.pp_law.specs.Table.{instance}
use Rattle.pp_laws.proofs.Lists.{Changed, From, in_change, in_filter, in_find, in_map, other, same}
use Rattle.pp_laws.proofs.Tests.{same_number}
use Rattle.pp_laws.specs.Runs.{IsIn}
use Rattle.pp_laws_pool.proofs.View.{Holds, SameAsk, View, Walk, facts_of, holds, view}
use Rattle.pp_laws_pool.proofs.WalkCases.{by_aim_of, by_outcome, by_result, each_of, when}
use Rattle.pp_laws_pool.proofs.WalkClients.{pour-keeps}
use Rattle.pp_laws_pool.proofs.WalkClosings.{close_conn-keeps}
use Rattle.pp_laws_pool.proofs.WalkExchanges.{on_exchange-keeps, same_ask}
use Rattle.pp_laws_pool.proofs.WalkHeads.{bring_row-keeps, by_aim-keeps}
use Rattle.pp_laws_pool.proofs.WalkPieces.{bad_head-keeps, bad_response-keeps, finish-keeps}
use Rattle.pp_pipe.specs.Front.{is_interim}
use Rattle.pp_target.specs.Key.{text_of}
use Rattle.pp_text.specs.Bytes.{is_empty}
use Rattle.pp_rests_law.proofs.LateCases.{each_so as rows_so, when as rows_when}
use Rattle.pp_rests_law.proofs.LateHeads.{next_piece-keeps as piece_late}
use Rattle.pp_rests_law.proofs.LateView.{Holds as AreLate, reading}

-- ---- the exchanges of a line

abbrev pub IsOfLine : List Bytes → ℕ → View → Type 0
IsOfLine ks n v = (k : Conn) → IsIn k v.conns → k.number ≡ n → (e : Exchange) → IsIn e v.exchanges → IsIn e.number k.line → IsIn (key_of e) ks

module _ (ks : List Bytes) (n : ℕ) where
  -- one that asks for the same
  alike : (v : View) (e d : Exchange) (k : Conn) → d.number ≡ e.number → d.key ≡ e.key → (IsIn e.number k.line → IsIn (key_of e) ks) → IsIn d.number k.line → IsIn (key_of d) ks
  alike v e d k number key its i = subst (λ (b : Bytes). IsIn b ks) (sym (ap text_of key)) (its (subst (λ (m : ℕ). IsIn m k.line) number i))

  changed_in : (p : Exchange → Bool) (f : Exchange → Exchange) → ((e : Exchange) → (f e).number ≡ e.number) → ((e : Exchange) → (f e).key ≡ e.key) → (v : View) (es : List Exchange) → ((k : Conn) → IsIn k v.conns → k.number ≡ n → (e : Exchange) → IsIn e es → IsIn e.number k.line → IsIn (key_of e) ks)
      → (k : Conn) → IsIn k v.conns → k.number ≡ n → (d : Exchange) → IsIn d (change p f es) → IsIn d.number k.line → IsIn (key_of d) ks
  changed_in p f number key v es h k ik is d id = by (in_change p f d es id)
    where
      by : Changed p f es d → IsIn d.number k.line → IsIn (key_of d) ks
      by (same j isnt) = h k ik is d j
      by (other e j hit eq) = alike v e d k (ap (λ (x : Exchange). x.number) eq ∙ number e) (ap (λ (x : Exchange). x.key) eq ∙ key e) (h k ik is e j)

  walk : Walk (IsOfLine ks n)
  unfolding on_exchange
  walk = record {
    clients = λ f number v h. h;
    asks = λ f alike_ v h k ik is d id i.
        let r : From f v.exchanges d = in_map f d v.exchanges id in
        alike v r.was d k (ap (λ (x : Exchange). x.number) r.is ∙ (alike_ r.was).number) (ap (λ (x : Exchange). x.key) r.is ∙ (alike_ r.was).key) (h k ik is r.was r.there) i;
    left = λ test v h. changed_in test left_alone (λ e. refl) (λ e. refl) v v.exchanges h;
    over = λ test v h k ik is e ie. h k ik is e (in_filter test e v.exchanges ie).0;
    conns = λ f lesser v h j ij is e ie i.
        let r : From f v.conns j = in_map f j v.conns ij in
        h r.was r.there (sym (lesser r.was).number ∙ ap (λ (x : Conn). x.number) (sym r.is) ∙ is) e ie ((lesser r.was).within e.number (subst (λ (x : Conn). IsIn e.number x.line) r.is i));
    chunks = λ test v h. h;
    again = λ m s may h. changed_in (is_exchange m) unplaced (λ e. refl) (λ e. refl) (view s) s.exchanges h;
  }

  abbrev Lined : State → Type 0
  Lined s = Holds (IsOfLine ks n) s

  -- its line is the same
  on_line : (m : ℕ) (f : Conn → Conn) → ((k : Conn) → (f k).number ≡ k.number) → ((k : Conn) → (f k).line ≡ k.line) → (s : State) → Lined s → Lined (on_conn m f s)
  unfolding on_conn
  on_line m f number line s h = holds (λ j ij is e ie i. by j e ie is i (in_change (is_conn m) f j s.conns ij))
    where
      by : (j : Conn) (e : Exchange) → IsIn e s.exchanges → j.number ≡ n → IsIn e.number j.line → Changed (is_conn m) f s.conns j → IsIn (key_of e) ks
      by j e ie is i (same ij isnt) = facts_of h j ij is e ie i
      by j e ie is i (other k ik hit eq) = facts_of h k ik (sym (number k) ∙ ap (λ (x : Conn). x.number) (sym eq) ∙ is) e ie (subst (λ (ms : List ℕ). IsIn e.number ms) (ap (λ (x : Conn). x.line) eq ∙ line k) i)

  moved_same : (m : ℕ) (e : Exchange) → SameAsk (moved_on m e) e
  moved_same m e = by (bound_of e)
    where
      by : (o : Option Bound) → SameAsk (elim o as (λ x. Exchange) [ None ↦ e | Some b ↦ record e { body = Joining (record b { next = b.next + m }) } ]) e
      by None = same_ask e e refl refl refl refl refl refl
      by (Some b) = same_ask _ e refl refl refl refl refl refl

  -- ---- heads

  end_if_empty-keeps : (k : Conn) (e : Exchange) (a : Answer) (s : State) → Lined s → Lined (end_if_empty k e a s)
  unfolding end_if_empty
  end_if_empty-keeps k e a s h = by_outcome (body_of a.rule []).outcome (λ rest. finish-keeps walk k e a s h) h h

  begin_answer-keeps : (k : Conn) (e : Exchange) (head : Response) (rule : BodyRule) (s : State) → Lined s → Lined (begin_answer k e head rule s)
  unfolding begin_answer
  begin_answer-keeps k e head rule s h = end_if_empty-keeps k e (answer_with e head rule) _ (by_aim-keeps walk e head rule _ (on_line k.number _ (λ j. refl) (λ j. refl) s h))

  answer_for-keeps : (k : Conn) (e : Exchange) (head : Response) (s : State) → Lined s → Lined (answer_for k e head s)
  unfolding answer_for
  answer_for-keeps k e head s h =
      when (is_wrong_head e head) (bad_head-keeps walk k s h) (by_result (rule_of (asks_head e) head.status head.fields) (λ rule. begin_answer-keeps k e head rule s h) (λ fault. bad_head-keeps walk k s h))

  head_came-keeps : (k : Conn) (head : Response) (s : State) → Lined s → Lined (head_came k head s)
  unfolding head_came
  head_came-keeps k head s h = each_of (front_of_line s k) (close_conn-keeps walk false k s h) (λ e. answer_for-keeps k e head _ (bring_row-keeps walk e head s h))

  -- ---- bytes

  piece_when : (t : Bool) (p q : Piece) → Lined p.state → Lined q.state → Lined (elim t as (λ c. Piece) [ true ↦ p | false ↦ q ]).state
  piece_when true p q hp hq = hp
  piece_when false p q hp hq = hq

  head_piece_by : (k : Conn) (bytes : Bytes) (s : State) (read : Read Response) → Lined s
      → Lined (elim read as (λ c. Piece) [
        | More ↦ record { state = on_conn k.number (with_unread bytes) s; rest = [] }
        | TooLong ↦ record { state = bad_head k s; rest = [] }
        | NoHead ↦ record { state = bad_head k s; rest = [] }
        | Whole head ↦ elim (is_interim head.status) as (λ c. Piece) [
          | true ↦ record { state = on_conn k.number (with_unread []) s; rest = drop head.length bytes }
          | false ↦ record { state = head_came k head s; rest = drop head.length bytes }
        ]
      ]).state
  head_piece_by k bytes s More h = on_line k.number _ (λ j. refl) (λ j. refl) s h
  head_piece_by k bytes s TooLong h = bad_head-keeps walk k s h
  head_piece_by k bytes s NoHead h = bad_head-keeps walk k s h
  head_piece_by k bytes s (Whole head) h = piece_when (is_interim head.status) _ _ (on_line k.number _ (λ j. refl) (λ j. refl) s h) (head_came-keeps k head s h)

  head_piece-keeps : (k : Conn) (bytes : Bytes) (s : State) → Lined s → Lined (head_piece k bytes s).state
  head_piece-keeps k bytes s h = piece_when (is_early s k) _ _ (close_conn-keeps walk true k s h) (head_piece_by k (k.unread ++ bytes) s (response_at (k.unread ++ bytes)) h)

  note_own-keeps : (e : Exchange) (a : Answer) (at : ℕ) (bytes : Bytes) (s : State) → Lined s → Lined (note_own e a at bytes s)
  unfolding note_own
  note_own-keeps e a at bytes s h = when (is_empty bytes) h (holds (facts_of h))

  pub note_sent-keeps : (e : Exchange) (a : Answer) (at : ℕ) (bytes : Bytes) (s : State) → Lined s → Lined (note_sent e a at bytes s)
  unfolding note_sent
  note_sent-keeps e a at bytes s h = by_aim_of e.aim h (note_own-keeps e a at bytes s h) (λ v from to. note_own-keeps e a at bytes s h)

  join-keeps : (b : Bound) (bytes : Bytes) (s : State) → Lined s → Lined (join b bytes s)
  unfolding join note_use
  join-keeps b bytes s h = each_of (joined_one b bytes s) h (λ x. holds (facts_of h))

  pub join_bound-keeps : (e : Exchange) (bytes : Bytes) (s : State) → Lined s → Lined (join_bound e bytes s)
  unfolding join_bound
  join_bound-keeps e bytes s h = each_of (bound_of e) h (λ b. on_exchange-keeps walk e.number _ _ (moved_same (length bytes)) (join-keeps b bytes s h))

  deliver-keeps : (e : Exchange) (a : Answer) (at : ℕ) (bytes : Bytes) (s : State) → Lined s → Lined (deliver e a at bytes s)
  unfolding deliver
  deliver-keeps e a at bytes s h = pour-keeps walk e _ _ (join_bound-keeps e bytes _ (note_sent-keeps e a at bytes s h))

  body_piece_by : (k : Conn) (a : Answer) (e : Exchange) (bytes : Bytes) (t : State) (outcome : Outcome) → Lined t
      → Lined (elim outcome as (λ c. Piece) [
        | Going ↦ record { state = on_conn k.number (λ i. record i { answer = Some (record a { raw = a.raw ++ bytes }) }) t; rest = [] }
        | Bad ↦ record { state = bad_response k t; rest = [] }
        | Done rest ↦ record { state = finish k e a t; rest = rest }
      ]).state
  body_piece_by k a e bytes t Going h = on_line k.number _ (λ j. refl) (λ j. refl) t h
  body_piece_by k a e bytes t Bad h = bad_response-keeps walk k t h
  body_piece_by k a e bytes t (Done rest) h = finish-keeps walk k e a t h

  body_piece-keeps : (k : Conn) (a : Answer) (bytes : Bytes) (s : State) → Lined s → Lined (body_piece k a bytes s).state
  body_piece-keeps k a bytes s h = by (front_of_line s k)
    where
      by : (front : Option Exchange) → Lined (elim front as (λ c. Piece) [ None ↦ record { state = close_conn false k s; rest = [] } | Some e ↦ body_piece_of k a e bytes s ]).state
      by None = close_conn-keeps walk false k s h
      by (Some e) = body_piece_by k a e bytes _ (body_of a.rule (a.raw ++ bytes)).outcome (deliver-keeps e a (length (payload_of a)) (drop (length (payload_of a)) (body_of a.rule (a.raw ++ bytes)).payload) s h)

  pub next_piece-keeps : (k : Conn) (bytes : Bytes) (s : State) → Lined s → Lined (next_piece k bytes s).state
  next_piece-keeps k bytes s h = by k.answer
    where
      by : (answer : Option Answer) → Lined (elim answer as (λ c. Piece) [ Some a ↦ body_piece k a bytes s | None ↦ head_piece k bytes s ]).state
      by None = head_piece-keeps k bytes s h
      by (Some a) = body_piece-keeps k a bytes s h

-- ---- one read

front_key : (ks : List Bytes) (n : ℕ) (s : State) (k : Conn) → conn s n ≡ Some k → Holds (IsOfLine ks n) s → (e : Exchange) → front_of_line s k ≡ Some e → IsIn (key_of e) ks
front_key ks n s k found h e = by k.line refl
  where
    its : IsIn k s.conns × (is_conn n k ≡ true)
    its = in_find (is_conn n) k s.conns found

    by : (line : List ℕ) → k.line ≡ line → (elim line as (λ t. Option Exchange) [ [] ↦ None | m ∷ rest ↦ exchange s m ]) ≡ Some e → IsIn (key_of e) ks
    by [] is at = absurd (cc at)
    by (m ∷ rest) is at =
        let w : IsIn e s.exchanges × (is_exchange m e ≡ true) = in_find (is_exchange m) e s.exchanges at in
        facts_of h k its.0 (same_number k.number n its.1) e w.0 (subst (λ (ms : List ℕ). IsIn e.number ms) (sym is) (inl (same_number e.number m w.1)))

pub got_late : (ks : List Bytes) (more n : ℕ) (bytes : Bytes) (s : State) → AreLate (reading ks) s → Holds (IsOfLine ks n) s → AreLate (reading ks) (got more n bytes s)
unfolding got
got_late ks zero n bytes s h lined = h
got_late ks (suc more) n bytes s h lined =
    rows_so (conn s n) (λ none. h)
    (λ k found. rows_when (k.is_closing || is_empty bytes) h
    (got_late ks more n (next_piece k bytes s).rest (next_piece k bytes s).state (piece_late k bytes s (front_key ks n s k found lined) h) (next_piece-keeps ks n k bytes s lined)))
