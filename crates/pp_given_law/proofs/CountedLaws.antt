-- What came on each connection behind a head, and behind a piece of a body that ends it: what had come, nothing, or nothing is awaited any more.
use Rattle.std.proofs.Common.{◌≡◌, ◌⊎◌, inl, inr, refl, sym, ap, ◌∙◌, ℕ, Bool, true, false, ◌==◌, length, map, List, [], ◌∷◌, Option, None, Ok, Err, Result}
use Rattle.pp_cache_law.proofs.Numbers.{is_same}
use Rattle.pp_framing.specs.Framing.{rule_of}
use Rattle.pp_framing.specs.Rules.{body_of}
use Rattle.pp_framing.specs.declared.body.BodyRule.{BodyRule}
use Rattle.pp_framing.specs.declared.framing.ResponseFault.{ResponseFault}
use Rattle.pp_head.specs.Response.{Response}
use Rattle.pp_law.specs.Connections.{close_conn, end_exchange, fail, front_of_line, is_conn, lose_place, on_conn, on_exchange}
use Rattle.pp_law.specs.Lists.{change}
use Rattle.pp_law.specs.OwnHeads.{is_wrong_head}
use Rattle.pp_law.specs.Passing.{pour}
use Rattle.pp_law.specs.Responses.{answer_for, answer_with, answered_by, asks_head, bad_head, bad_response, begin_answer, bring_row, end_if_empty, finish, head_came, may_go_on, rested, skip_body}
use Rattle.pp_law.specs.State.{State, Answer, Conn, Exchange}
use Rattle.pp_law.specs.Unseen.{came_of}
use Rattle.pp_laws.proofs.Payloads.{payload-nothing}
use Rattle.pp_laws_pool.proofs.View.{Holds, Lesser, View, Walk, facts_of, holds}
use Rattle.pp_laws_pool.proofs.WalkCases.{by_outcome, each_of, when}
use Rattle.pp_laws_pool.proofs.WalkClosings.{close_conn-keeps, lose_place-keeps}
use Rattle.pp_laws_pool.proofs.WalkExchanges.{each_exchange-keeps}
use Rattle.pp_laws_pool.proofs.WalkHeads.{bring_row-keeps, by_aim-keeps}
use Rattle.pp_laws_pool.proofs.WalkPieces.{bad_head-keeps, bad_response-keeps, close_this-keeps, finish-keeps}
use Rattle.pp_pass.specs.Pipe.{finished}
use Rattle.pp_stays_law.proofs.Came.{AllConns}

-- ---- of each connection

-- it stays so as its line and its answer are left
abbrev pub IsLeft : (Conn → Type 0) → Type 0
IsLeft R = (j k : Conn) → Lesser j k → R k → R j

abbrev pub OnConns : (Conn → Type 0) → View → Type 0
OnConns R v = AllConns R v.conns

all_less : (R : Conn → Type 0) → IsLeft R → (f : Conn → Conn) (ks : List Conn) → ((k : Conn) → Lesser (f k) k) → AllConns R ks → AllConns R (map f ks)
all_less R left f [] less all = tt
all_less R left f (k ∷ ks) less all = (left (f k) k (less k) all.0, all_less R left f ks less all.1)

pub walk : (R : Conn → Type 0) → IsLeft R → Walk (OnConns R)
unfolding on_exchange
walk R left = record {
  clients = λ f is v h. h;
  asks = λ f is v h. h;
  left = λ test v h. h;
  over = λ test v h. h;
  conns = λ f less v h. all_less R left f v.conns less h;
  chunks = λ test v h. h;
  again = λ n s is h. h;
}

-- one is changed
pub set_all : (R : Conn → Type 0) (n : ℕ) (f : Conn → Conn) (ks : List Conn) → ((k : Conn) → is_conn n k ≡ true → R k → R (f k)) → AllConns R ks → AllConns R (change (is_conn n) f ks)
set_all R n f [] each all = tt
set_all R n f (k ∷ ks) each all = (by (is_conn n k) refl, set_all R n f ks each all.1)
  where
    by : (b : Bool) → is_conn n k ≡ b → R (elim b as (λ d. Conn) [ true ↦ f k | false ↦ k ])
    by true is = each k is all.0
    by false is = all.0

sets : (R : Conn → Type 0) (n : ℕ) (f : Conn → Conn) (s : State) → ((k : Conn) → is_conn n k ≡ true → R k → R (f k)) → Holds (OnConns R) s → Holds (OnConns R) (on_conn n f s)
unfolding on_conn
sets R n f s each h = holds (set_all R n f s.conns each (facts_of h))

-- ---- what came, where anything is awaited

abbrev pub HasCameStill : ℕ → ℕ → Conn → Type 0
HasCameStill m c j = (j.number == m) ≡ true → (came_of j ≡ c) ⊎ (j.answer ≡ None)

abbrev pub IsUnanswered : ℕ → Conn → Type 0
IsUnanswered m j = (j.number == m) ≡ true → j.answer ≡ None

came_left : (m c : ℕ) → IsLeft (HasCameStill m c)
came_left m c j k less its is = by less.answer (its (ap (λ (i : ℕ). i == m) (sym less.number) ∙ is))
  where
    by : (j.answer ≡ k.answer) ⊎ (j.answer ≡ None) → (came_of k ≡ c) ⊎ (k.answer ≡ None) → (came_of j ≡ c) ⊎ (j.answer ≡ None)
    by (inl same) (inl came) = inl (ap (λ (o : Option Answer). came_of (record k { answer = o })) same ∙ came)
    by (inl same) (inr none) = inr (same ∙ none)
    by (inr none) its = inr none

none_left : (m : ℕ) → IsLeft (IsUnanswered m)
none_left m j k less its is = by less.answer (its (ap (λ (i : ℕ). i == m) (sym less.number) ∙ is))
  where
    by : (j.answer ≡ k.answer) ⊎ (j.answer ≡ None) → k.answer ≡ None → j.answer ≡ None
    by (inl same) none = same ∙ none
    by (inr none) its = none

no : {A : Type 0} → true ≡ false → A
no both = absurd (cc both)

-- ---- its answer is over

clears : (n : ℕ) (f : Conn → Conn) (ks : List Conn) → ((k : Conn) → (f k).answer ≡ None) → AllConns (IsUnanswered n) (change (is_conn n) f ks)
clears n f [] none = tt
clears n f (k ∷ ks) none = (by (is_conn n k) refl, clears n f ks none)
  where
    by : (b : Bool) → is_conn n k ≡ b → IsUnanswered n (elim b as (λ d. Conn) [ true ↦ f k | false ↦ k ])
    by true is = λ its. none k
    by false isnt = λ its. no (sym its ∙ isnt)

cleared : (n : ℕ) (f : Conn → Conn) (s : State) → ((k : Conn) → (f k).answer ≡ None) → Holds (OnConns (IsUnanswered n)) (on_conn n f s)
unfolding on_conn
cleared n f s none = holds (clears n f s.conns none)

module _ (k : Conn) where
  abbrev w : Walk (OnConns (IsUnanswered k.number))
  w = walk (IsUnanswered k.number) (none_left k.number)

  pub closed : (counts : Bool) (s : State) → Holds (OnConns (IsUnanswered k.number)) (close_conn counts k s)
  unfolding close_conn
  closed counts s = each_exchange-keeps w (lose_place _) (λ e t h. lose_place-keeps w _ e t h) k.line _ (cleared k.number (λ j. record j { is_closing = true; line = []; answer = None; unread = [] }) s (λ j. refl))

  pub finished_none : (e : Exchange) (a : Answer) (s : State) → Holds (OnConns (IsUnanswered k.number)) (finish k e a s)
  unfolding finish
  finished_none e a s = when (may_go_on e a.head) done (close_this-keeps w k.number _ done)
    where
      done : Holds (OnConns (IsUnanswered k.number)) (on_conn k.number (rested a.head) (end_exchange e.number (skip_body e (pour e finished s))))
      done = cleared k.number (rested a.head) (end_exchange e.number (skip_body e (pour e finished s))) (λ j. refl)

  pub bad_none : (s : State) → Holds (OnConns (IsUnanswered k.number)) (bad_response k s)
  unfolding bad_response
  bad_none s = each_of (front_of_line s k) (closed false s) (λ e. closed false (end_exchange e.number (fail e s)))

pub finish_unanswered : (k : Conn) (e : Exchange) (a : Answer) (s : State) → AllConns (IsUnanswered k.number) (finish k e a s).conns
finish_unanswered k e a s = facts_of (finished_none k e a s)

pub bad_unanswered : (k : Conn) (s : State) → AllConns (IsUnanswered k.number) (bad_response k s).conns
bad_unanswered k s = facts_of (bad_none k s)

-- ---- of the others

module _ (m c : ℕ) where
  abbrev P : State → Type 0
  P s = Holds (OnConns (HasCameStill m c)) s

  abbrev v : Walk (OnConns (HasCameStill m c))
  v = walk (HasCameStill m c) (came_left m c)

  pub finish_came : (k : Conn) (e : Exchange) (a : Answer) (s : State) → AllConns (HasCameStill m c) s.conns → AllConns (HasCameStill m c) (finish k e a s).conns
  finish_came k e a s h = facts_of (finish-keeps v k e a s (holds h))

  pub bad_came : (k : Conn) (s : State) → AllConns (HasCameStill m c) s.conns → AllConns (HasCameStill m c) (bad_response k s).conns
  bad_came k s h = facts_of (bad_response-keeps v k s (holds h))

  -- ---- behind a head nothing came yet

  module _ (k : Conn) (head : Response) (fresh : (k.number == m) ≡ true → c ≡ 0) where
    is_answered : (e : Exchange) (rule : BodyRule) (s : State) → P s → P (on_conn k.number (answered_by (answer_with e head rule)) s)
    is_answered e rule s h = sets (HasCameStill m c) k.number (answered_by (answer_with e head rule)) s (λ j at its is. inl (ap (λ (bs : List ℕ). length bs) (payload-nothing rule) ∙ sym (fresh (own j at is)))) h
      where
        own : (j : Conn) → is_conn k.number j ≡ true → (j.number == m) ≡ true → (k.number == m) ≡ true
        own j at is = ap (λ (i : ℕ). i == m) (sym (is_same j.number k.number at)) ∙ is

    ends_empty : (e : Exchange) (a : Answer) (s : State) → P s → P (end_if_empty k e a s)
    unfolding end_if_empty
    ends_empty e a s h = by_outcome (body_of a.rule []).outcome (λ rest. finish-keeps v k e a s h) h h

    begins : (e : Exchange) (rule : BodyRule) (s : State) → P s → P (begin_answer k e head rule s)
    unfolding begin_answer
    begins e rule s h = ends_empty e (answer_with e head rule) _ (by_aim-keeps v e head rule _ (is_answered e rule s h))

    answers : (e : Exchange) (s : State) → P s → P (answer_for k e head s)
    unfolding answer_for
    answers e s h = by (is_wrong_head e head) (rule_of (asks_head e) head.status head.fields)
      where
        by : (b : Bool) (r : Result BodyRule ResponseFault) → P (elim b as (λ t. State) [ true ↦ bad_head k s | false ↦ elim r as (λ t. State) [ Ok rule ↦ begin_answer k e head rule s | Err fault ↦ bad_head k s ] ])
        by true r = bad_head-keeps v k s h
        by false (Ok rule) = begins e rule s h
        by false (Err fault) = bad_head-keeps v k s h

    comes : (s : State) → P s → P (head_came k head s)
    unfolding head_came
    comes s h = each_of (front_of_line s k) (close_conn-keeps v false k s h) (λ e. answers e (bring_row e head s) (bring_row-keeps v e head s h))

    pub head_leaves : (s : State) → AllConns (HasCameStill m c) s.conns → AllConns (HasCameStill m c) (head_came k head s).conns
    head_leaves s h = facts_of (comes s (holds h))
