-- What a head or a piece of a body leaves: its connection has no answer under way, or the pipe of whoever the response is passed to is as bare as before;
-- and no exchange comes into the line of the connection, nor to another client.
use Rattle.std.proofs.Common.{◌≡◌, ◌⊎◌, refl, sym, subst, ap, ◌∙◌, ℕ, Bool, true, false, ◌==◌, ◌++◌, map, drop, length, List, [], Option, Some, None, Result, Ok, Err, inl, inr}
use Rattle.pp_framing.specs.Body.{Outcome, Done, Going, Bad}
use Rattle.pp_framing.specs.Framing.{rule_of}
use Rattle.pp_framing.specs.Rules.{body_of}
use Rattle.pp_framing.specs.declared.body.BodyRule.{BodyRule}
use Rattle.pp_head.specs.Response.{Response}
use Rattle.pp_law.specs.Closing.{left_alone}
use Rattle.pp_law.specs.Connections.{close_conn, end_exchange, front_of_line, is_conn, is_exchange, on_conn, on_exchange, unplaced}
use Rattle.pp_law.specs.Lists.{Bytes}
use Rattle.pp_law.specs.OwnHeads.{is_wrong_head}
use Rattle.pp_law.specs.Passing.{pour}
use Rattle.pp_law.specs.Responses.{Piece, answer_for, answer_with, answered_by, asks_head, bad_head, bad_response, begin_answer, body_piece, body_piece_of, bring_row, deliver, end_if_empty, finish, head_came, may_go_on, payload_of, rested, skip_body}
use Rattle.pp_law.specs.State.{State, Answer, Conn, Exchange}
use Rattle.pp_laws.proofs.Lists.{Changed, From, in_change, in_filter, in_map, other, same}
use Rattle.pp_laws.proofs.Tests.{number_same}
use Rattle.pp_laws.specs.Runs.{IsIn}
use Rattle.pp_laws_pool.proofs.View.{Holds, View, Walk, facts_of, holds}
use Rattle.pp_laws_pool.proofs.WalkCases.{by_outcome, by_result, each_of, when}
use Rattle.pp_laws_pool.proofs.WalkClosings.{close_conn-keeps}
use Rattle.pp_laws_pool.proofs.WalkHeads.{bring_row-keeps, by_aim-keeps}
use Rattle.pp_laws_pool.proofs.WalkPieces.{bad_head-keeps, close_this-keeps, finish-keeps}
use Rattle.pp_pass.specs.Pipe.{finished}
use Rattle.pp_comes_law.proofs.BareHeads.{bare_as, brought_bare, by_aim_bare}
use Rattle.pp_comes_law.proofs.NotedEnds.{number_at}
use Rattle.pp_comes_law.specs.Bare.{AreBare}

-- ---- no answer is under way

abbrev pub AreQuiet : ℕ → List Conn → Type 0
AreQuiet n ks = (k : Conn) → IsIn k ks → k.number ≡ n → k.answer ≡ None

-- each connection of that number
abbrev pub Quiet : ℕ → View → Type 0
Quiet n v = AreQuiet n v.conns

pub quiet_there : (n : ℕ) (s : State) → ((k : Conn) → IsIn k s.conns → k.number ≡ n → k.answer ≡ None) → Holds (Quiet n) s
quiet_there n s all = holds all

pub none_under_way : {n : ℕ} {s : State} → Holds (Quiet n) s → (k : Conn) → IsIn k s.conns → k.number ≡ n → k.answer ≡ None
none_under_way h = facts_of h

quiet_map : (n : ℕ) (g : Conn → Conn) (ks : List Conn) → ((k : Conn) → (g k).number ≡ k.number) → ((k : Conn) → k.number ≡ n → ((g k).answer ≡ k.answer) ⊎ ((g k).answer ≡ None)) → AreQuiet n ks → AreQuiet n (map g ks)
quiet_map n g ks number answer all k i its = ap (λ (j : Conn). j.answer) r.is ∙ by (answer r.was number_was)
  where
    r : From g ks k
    r = in_map g k ks i

    number_was : r.was.number ≡ n
    number_was = sym (ap (λ (j : Conn). j.number) r.is ∙ number r.was) ∙ its

    by : ((g r.was).answer ≡ r.was.answer) ⊎ ((g r.was).answer ≡ None) → (g r.was).answer ≡ None
    by (inl as_it_was) = as_it_was ∙ all r.was r.there number_was
    by (inr none) = none

quiet_walk : (n : ℕ) → Walk (Quiet n)
unfolding on_exchange
quiet_walk n = record {
  clients = λ f kept v h. h;
  asks = λ f kept v h. h;
  left = λ test v h. h;
  over = λ test v h. h;
  conns = λ f lesser v h. quiet_map n f v.conns (λ k. (lesser k).number) (λ k its. (lesser k).answer) h;
  chunks = λ test v h. h;
  again = λ m s may h. h;
}

abbrev set_at : ℕ → (Conn → Conn) → Conn → Conn
set_at m f k = elim (is_conn m k) as (λ t. Conn) [ true ↦ f k | false ↦ k ]

-- what is changed has its answer as it was
pub set_quiet : (n m : ℕ) (f : Conn → Conn) (s : State) → ((k : Conn) → (f k).number ≡ k.number) → ((k : Conn) → (f k).answer ≡ k.answer) → Holds (Quiet n) s → Holds (Quiet n) (on_conn m f s)
unfolding on_conn
set_quiet n m f s number answer h = holds (quiet_map n (set_at m f) s.conns (λ k. number_at m f k (is_conn m k) (number k)) (λ k its. by k (is_conn m k)) (facts_of h))
  where
    by : (k : Conn) (b : Bool) → (let j : Conn = elim b as (λ t. Conn) [ true ↦ f k | false ↦ k ] in (j.answer ≡ k.answer) ⊎ (j.answer ≡ None))
    by k true = inl (answer k)
    by k false = inl refl

-- a response is whole
rested_quiet : (n : ℕ) (head : Response) (s : State) → Holds (Quiet n) (on_conn n (rested head) s)
unfolding on_conn
rested_quiet n head s = holds (λ k i its. let r : From (set_at n (rested head)) s.conns k = in_map (set_at n (rested head)) k s.conns i in
    ap (λ (j : Conn). j.answer) r.is ∙ by r.was (is_conn n r.was) refl (sym (ap (λ (j : Conn). j.number) r.is ∙ number_at n (rested head) r.was (is_conn n r.was) refl) ∙ its))
  where
    by : (j : Conn) (b : Bool) → is_conn n j ≡ b → j.number ≡ n → (elim b as (λ t. Conn) [ true ↦ rested head j | false ↦ j ]).answer ≡ None
    by j true is its = refl
    by j false is its = let both : true ≡ false = sym (ap (λ (m : ℕ). m == n) its ∙ number_same n) ∙ is in absurd (cc both)

finish_quiet : (n : ℕ) (k : Conn) (e : Exchange) (a : Answer) (s : State) → k.number ≡ n → Holds (Quiet n) (finish k e a s)
unfolding finish
finish_quiet n k e a s its = when (may_go_on e a.head) done (close_this-keeps (quiet_walk n) k.number _ done)
  where
    over : State
    over = end_exchange e.number (skip_body e (pour e finished s))

    done : Holds (Quiet n) (on_conn k.number (rested a.head) over)
    done = subst (λ (m : ℕ). Holds (Quiet n) (on_conn m (rested a.head) over)) (sym its) (rested_quiet n a.head over)

-- ---- behind a head

-- none is under way on the one, or nothing stands in the pipe of the other
abbrev pub Ends : ℕ → ℕ → State → Type 0
Ends n m s = Holds (Quiet n) s ⊎ AreBare m s

module _ (n m : ℕ) where
  empty_ends : (k : Conn) (e : Exchange) (a : Answer) (s : State) → k.number ≡ n → AreBare m s → Ends n m (end_if_empty k e a s)
  unfolding end_if_empty
  empty_ends k e a s its bare = by (body_of a.rule []).outcome
    where
      by : (o : Outcome) → Ends n m (elim o as (λ t. State) [ Done rest ↦ finish k e a s | Going ↦ s | Bad ↦ s ])
      by (Done rest) = inl (finish_quiet n k e a s its)
      by Going = inr bare
      by Bad = inr bare

  answered_bare : (k : Conn) (a : Answer) (s : State) → AreBare m s → AreBare m (on_conn k.number (answered_by a) s)
  unfolding on_conn
  answered_bare k a s all = bare_as m s (on_conn k.number (answered_by a) s) refl all

  begun_ends : (k : Conn) (e : Exchange) (head : Response) (rule : BodyRule) (s : State) → k.number ≡ n → AreBare m s → Ends n m (begin_answer k e head rule s)
  unfolding begin_answer
  begun_ends k e head rule s its bare = empty_ends k e (answer_with e head rule) _ its (by_aim_bare m e head rule _ (answered_bare k (answer_with e head rule) s bare))

  answered_ends : (k : Conn) (e : Exchange) (head : Response) (s : State) → k.number ≡ n → Holds (Quiet n) s → AreBare m s → Ends n m (answer_for k e head s)
  unfolding answer_for
  answered_ends k e head s its quiet bare = by (is_wrong_head e head)
    where
      bad : Ends n m (bad_head k s)
      bad = inl (bad_head-keeps (quiet_walk n) k s quiet)

      at : {F : Type 0} (read : Result BodyRule F) → Ends n m (elim read as (λ c. State) [ Ok rule ↦ begin_answer k e head rule s | Err fault ↦ bad_head k s ])
      at (Ok rule) = begun_ends k e head rule s its bare
      at (Err fault) = bad

      by : (b : Bool) → Ends n m (elim b as (λ c. State) [ true ↦ bad_head k s | false ↦ elim (rule_of (asks_head e) head.status head.fields) as (λ c. State) [ Ok rule ↦ begin_answer k e head rule s | Err fault ↦ bad_head k s ] ])
      by true = bad
      by false = at (rule_of (asks_head e) head.status head.fields)

  pub head_ends : (k : Conn) (head : Response) (s : State) → k.number ≡ n → Holds (Quiet n) s → AreBare m s → Ends n m (head_came k head s)
  unfolding head_came
  head_ends k head s its quiet bare = by (front_of_line s k)
    where
      by : (o : Option Exchange) → Ends n m (elim o as (λ c. State) [ None ↦ close_conn false k s | Some e ↦ answer_for k e head (bring_row e head s) ])
      by None = inl (close_conn-keeps (quiet_walk n) false k s quiet)
      by (Some e) = answered_ends k e head (bring_row e head s) its (bring_row-keeps (quiet_walk n) e head s quiet) (brought_bare m e head s bare)

-- ---- behind a piece of a body nothing is left, or its response is whole

pub piece_ends : (n : ℕ) (k : Conn) (a : Answer) (bytes : Bytes) (s : State) → k.number ≡ n → ((body_piece k a bytes s).rest ≡ []) ⊎ Holds (Quiet n) (body_piece k a bytes s).state
piece_ends n k a bytes s its = by (front_of_line s k)
  where
    Over : Piece → Type 0
    Over p = (p.rest ≡ []) ⊎ Holds (Quiet n) p.state

    at : (e : Exchange) (t : State) (o : Outcome)
        → Over (elim o as (λ c. Piece) [
          | Going ↦ record { state = on_conn k.number (λ i. record i { answer = Some (record a { raw = a.raw ++ bytes }) }) t; rest = [] }
          | Bad ↦ record { state = bad_response k t; rest = [] }
          | Done rest ↦ record { state = finish k e a t; rest = rest }
        ])
    at e t Going = inl refl
    at e t Bad = inl refl
    at e t (Done rest) = inr (finish_quiet n k e a t its)

    by : (o : Option Exchange) → Over (elim o as (λ c. Piece) [ None ↦ record { state = close_conn false k s; rest = [] } | Some e ↦ body_piece_of k a e bytes s ])
    by None = inl refl
    by (Some e) = at e (deliver e a (length (payload_of a)) (drop (length (payload_of a)) (body_of a.rule (a.raw ++ bytes)).payload) s) (body_of a.rule (a.raw ++ bytes)).outcome

-- ---- whose exchanges stand in the line

-- one that is that client's was that client's
pub record Was (es : List Exchange) (e : Exchange) (m : ℕ) : Type 0 where
  pub was : Exchange
  pub there : IsIn was es
  pub number : was.number ≡ e.number
  pub asker : was.asker ≡ Some m

abbrev pub AllWere : List Exchange → List Exchange → Type 0
AllWere es xs = (e : Exchange) (m : ℕ) → IsIn e xs → e.asker ≡ Some m → Was es e m

-- the line of that connection has none but these
pub record Stood (n : ℕ) (line : List ℕ) (es : List Exchange) (v : View) : Type 0 where
  pub within : (k : Conn) → IsIn k v.conns → k.number ≡ n → (i : ℕ) → IsIn i k.line → IsIn i line
  pub asked : AllWere es v.exchanges

was_as : (es : List Exchange) (d e : Exchange) (m : ℕ) → d.number ≡ e.number → d.asker ≡ e.asker → (e.asker ≡ Some m → Was es e m) → d.asker ≡ Some m → Was es d m
was_as es d e m number asker all its = let w = all (sym asker ∙ its) in record { was = w.was; there = w.there; number = w.number ∙ sym number; asker = w.asker }

within_map : (n : ℕ) (line : List ℕ) (g : Conn → Conn) (ks : List Conn) → ((k : Conn) → (g k).number ≡ k.number) → ((k : Conn) (i : ℕ) → IsIn i (g k).line → IsIn i k.line) → ((k : Conn) → IsIn k ks → k.number ≡ n → (i : ℕ) → IsIn i k.line → IsIn i line)
    → (k : Conn) → IsIn k (map g ks) → k.number ≡ n → (i : ℕ) → IsIn i k.line → IsIn i line
within_map n line g ks number lesser all k there its i lined =
    let r : From g ks k = in_map g k ks there in
    all r.was r.there (sym (ap (λ (j : Conn). j.number) r.is ∙ number r.was) ∙ its) i (lesser r.was i (subst (λ (j : Conn). IsIn i j.line) r.is lined))

changed_were : (es : List Exchange) (p : Exchange → Bool) (f : Exchange → Exchange) (xs : List Exchange) → ((e : Exchange) (m : ℕ) → (f e).asker ≡ Some m → (e.asker ≡ Some m → Was es e m) → Was es (f e) m) → AllWere es xs
    → (e : Exchange) (m : ℕ) → Changed p f xs e → e.asker ≡ Some m → Was es e m
changed_were es p f xs kept all e m (same i isnt) its = all e m i its
changed_were es p f xs kept all e m (other x i hit eq) its = subst (λ (y : Exchange). Was es y m) (sym eq) (kept x m (sym (ap (λ (y : Exchange). y.asker) eq) ∙ its) (λ was. all x m i was))

stood_walk : (n : ℕ) (line : List ℕ) (es : List Exchange) → Walk (Stood n line es)
unfolding on_exchange
stood_walk n line es = record {
  clients = λ f kept v h. record { within = h.within; asked = h.asked };
  asks = λ f kept v h. record {
    within = h.within;
    asked = λ e m i its. (
        let r : From f v.exchanges e = in_map f e v.exchanges i in
        subst (λ (x : Exchange). Was es x m) (sym r.is) (was_as es (f r.was) r.was m (kept r.was).number (kept r.was).asker (λ was. h.asked r.was m r.there was) (sym (ap (λ (x : Exchange). x.asker) r.is) ∙ its)));
  };
  left = λ test v h. record { within = h.within; asked = λ e m i its. changed_were es test left_alone v.exchanges (λ x j alone was. absurd (none_asks j alone)) h.asked e m (in_change test left_alone e v.exchanges i) its };
  over = λ test v h. record { within = h.within; asked = λ e m i its. h.asked e m (in_filter test e v.exchanges i).0 its };
  conns = λ f lesser v h. record { within = within_map n line f v.conns (λ k. (lesser k).number) (λ k i lined. (lesser k).within i lined) h.within; asked = h.asked };
  chunks = λ test v h. record { within = h.within; asked = h.asked };
  again = λ j s may h. record { within = h.within; asked = λ e m i its. changed_were es (is_exchange j) unplaced s.exchanges (λ x l asks was. was_as es (unplaced x) x l refl refl was asks) h.asked e m (in_change (is_exchange j) unplaced e s.exchanges i) its };
}
  where
    none_asks : (m : ℕ) → None ≡ Some m → ⊥
    none_asks m both = cc both

pub stood_there : (n : ℕ) (line : List ℕ) (s : State) → ((k : Conn) → IsIn k s.conns → k.number ≡ n → (i : ℕ) → IsIn i k.line → IsIn i line) → Holds (Stood n line s.exchanges) s
stood_there n line s within = holds (record { within = within; asked = λ e m i its. record { was = e; there = i; number = refl; asker = its } })

pub set_stood : {n : ℕ} {line : List ℕ} {es : List Exchange} (m : ℕ) (f : Conn → Conn) (s : State) → ((k : Conn) → (f k).number ≡ k.number) → ((k : Conn) → (f k).line ≡ k.line) → Holds (Stood n line es) s → Holds (Stood n line es) (on_conn m f s)
unfolding on_conn
set_stood {n} {line} {es} m f s number line_as h = holds (record { within = within_map n line (set_at m f) s.conns (λ k. number_at m f k (is_conn m k) (number k)) (λ k i lined. by k i (is_conn m k) lined) (facts_of h).within; asked = (facts_of h).asked })
  where
    by : (k : Conn) (i : ℕ) (b : Bool) → IsIn i (elim b as (λ t. Conn) [ true ↦ f k | false ↦ k ]).line → IsIn i k.line
    by k i true lined = subst (λ (ns : List ℕ). IsIn i ns) (line_as k) lined
    by k i false lined = lined

module _ (n : ℕ) (line : List ℕ) (es : List Exchange) where
  abbrev w : Walk (Stood n line es)
  w = stood_walk n line es

  empty_stood : (k : Conn) (e : Exchange) (a : Answer) (s : State) → Holds (Stood n line es) s → Holds (Stood n line es) (end_if_empty k e a s)
  unfolding end_if_empty
  empty_stood k e a s h = by_outcome (body_of a.rule []).outcome (λ rest. finish-keeps w k e a s h) h h

  begun_stood : (k : Conn) (e : Exchange) (head : Response) (rule : BodyRule) (s : State) → Holds (Stood n line es) s → Holds (Stood n line es) (begin_answer k e head rule s)
  unfolding begin_answer
  begun_stood k e head rule s h = empty_stood k e (answer_with e head rule) _ (by_aim-keeps w e head rule _ (set_stood k.number (answered_by (answer_with e head rule)) s (λ j. refl) (λ j. refl) h))

  answered_stood : (k : Conn) (e : Exchange) (head : Response) (s : State) → Holds (Stood n line es) s → Holds (Stood n line es) (answer_for k e head s)
  unfolding answer_for
  answered_stood k e head s h = when (is_wrong_head e head) (bad_head-keeps w k s h) (by_result (rule_of (asks_head e) head.status head.fields) (λ rule. begun_stood k e head rule s h) (λ fault. bad_head-keeps w k s h))

  pub head_stood : (k : Conn) (head : Response) (s : State) → Holds (Stood n line es) s → Holds (Stood n line es) (head_came k head s)
  unfolding head_came
  head_stood k head s h = each_of (front_of_line s k) (close_conn-keeps w false k s h) (λ e. answered_stood k e head _ (bring_row-keeps w e head s h))

pub in_line : {n : ℕ} {line : List ℕ} {es : List Exchange} {s : State} → Holds (Stood n line es) s → (k : Conn) → IsIn k s.conns → k.number ≡ n → (i : ℕ) → IsIn i k.line → IsIn i line
in_line h = (facts_of h).within

pub whose : {n : ℕ} {line : List ℕ} {es : List Exchange} {s : State} → Holds (Stood n line es) s → (e : Exchange) (m : ℕ) → IsIn e s.exchanges → e.asker ≡ Some m → Was es e m
whose h = (facts_of h).asked
