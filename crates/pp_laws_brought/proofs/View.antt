-- What is kept of the exchanges whose bodies belong to an instance, and of the answers that are under way.
use Rattle.std.proofs.Common.{◌≡◌, ◌⊎◌, refl, ℕ, ◌+◌, ◌≤◌, ◌^◌, Bool, true, List, [], ◌∷◌, ◌++◌, map, filter, length, Option, Some, None, inl, inr, sym, subst, ap, ◌∙◌}
use Rattle.pp_framing.specs.Rules.{body_of}
use Rattle.pp_valid.specs.declared.version.Version.{Version}
use Rattle.pp_law.specs.Lists.{Bytes}
use Rattle.pp_law.specs.Responses.{payload_of}
use Rattle.pp_law.specs.Stages.{bound_of}
use Rattle.pp_law.specs.State.{State, Answer, Bound, Conn, Exchange}
use Rattle.pp_laws.specs.Runs.{IsIn}
use Rattle.pp_laws.proofs.Apart.{bound_by}
use Rattle.pp_laws.proofs.Lists.{in_filter, in_map, in_push}

-- ---- what holds

-- an exchange that is looked at apart while it is bound anew, its connection, the answer that it is bound by, and whether its connection
-- has that answer already
pub record Away : Type 0 where
  pub number : ℕ
  pub conn : ℕ
  pub answer : Answer
  pub is_there : Bool

abbrev pub Apart : Type 0
Apart = Option Away

abbrev pub number_in : Apart → Option ℕ
number_in None = None
number_in (Some p) = Some p.number

pub record IsSpan (next to : ℕ) : Type 0 where
  pub order : next ≤ to
  pub short : to ≤ 2 ^ 30

-- whatever follows of the answer, no more data come than are still to come; and none behind the end of its version
pub record Fits (a : Answer) (next to : ℕ) : Type 0 where
  pub span : IsSpan next to
  pub room : (more : Bytes) → next + length (body_of a.rule (a.raw ++ more)).payload ≤ to + length (payload_of a)
  pub ends : (v : Version) → a.version ≡ Some v → to ≤ v.length

pub record Facts (but : Apart) (conns : List Conn) (exchanges : List Exchange) : Type 0 where
  -- of the line of a connection that is answered
  pub lines : (k : Conn) (e : Exchange) (a : Answer) (b : Bound) → IsIn k conns → IsIn e exchanges → IsIn e.number k.line → k.answer ≡ Some a → bound_of e ≡ Some b → (number_in but ≡ Some e.number → ⊥) → Fits a b.next b.to
  -- of the one that is looked at apart
  pub its : (p : Away) (e : Exchange) (b : Bound) → but ≡ Some p → IsIn e exchanges → e.number ≡ p.number → bound_of e ≡ Some b → Fits p.answer b.next b.to
  pub others : (p : Away) (k : Conn) (e : Exchange) → but ≡ Some p → IsIn k conns → IsIn e exchanges → IsIn e.number k.line → k.number ≡ p.conn → (e.number ≡ p.number → ⊥) → bound_of e ≡ None
  pub only : (p : Away) (k : Conn) → but ≡ Some p → IsIn k conns → IsIn p.number k.line → k.number ≡ p.conn
  pub answers : (p : Away) (k : Conn) (a : Answer) → but ≡ Some p → p.is_there ≡ true → IsIn k conns → k.number ≡ p.conn → k.answer ≡ Some a → a ≡ p.answer
  pub within : (e : Exchange) (b : Bound) → IsIn e exchanges → bound_of e ≡ Some b → IsSpan b.next b.to

abbrev pub FactsOf : Apart → State → Type 0
FactsOf but s = Facts but s.conns s.exchanges

pub data Holds (but : Apart) (s : State) : Type 0 where
  holds : FactsOf but s → Holds but s

pub facts_of : {but : Apart} {s : State} → Holds but s → FactsOf but s
facts_of (holds facts) = facts

-- ---- changes

-- its line has no other exchange, and its answer is the same, or none
pub record Lesser (j k : Conn) : Type 0 where
  pub number : j.number ≡ k.number
  pub line : (n : ℕ) → IsIn n j.line → IsIn n k.line
  pub answer : (a : Answer) → j.answer ≡ Some a → k.answer ≡ Some a

-- the same of it is to come
pub record WasBound (e : Exchange) (b : Bound) : Type 0 where
  pub bound : Bound
  pub is : bound_of e ≡ Some bound
  pub next : b.next ≡ bound.next
  pub to : b.to ≡ bound.to

pub record SameBound (d e : Exchange) : Type 0 where
  pub number : d.number ≡ e.number
  pub bound : (b : Bound) → bound_of d ≡ Some b → WasBound e b

fits_as : (a : Answer) (e : Exchange) (b : Bound) (w : WasBound e b) → Fits a w.bound.next w.bound.to → Fits a b.next b.to
fits_as a e b w f = subst (λ n. Fits a n b.to) (sym w.next) (subst (λ n. Fits a w.bound.next n) (sym w.to) f)

span_as : (e : Exchange) (b : Bound) (w : WasBound e b) → IsSpan w.bound.next w.bound.to → IsSpan b.next b.to
span_as e b w f = subst (λ n. IsSpan n b.to) (sym w.next) (subst (λ n. IsSpan w.bound.next n) (sym w.to) f)

-- those of which each was there, or has no bound
pub from_asks : {but : Apart} (cs : List Conn) (es ds : List Exchange) → ((d : Exchange) (b : Bound) → IsIn d ds → bound_of d ≡ Some b → (e : Exchange) × IsIn e es × SameBound d e) → Facts but cs es → Facts but cs ds
from_asks cs es ds from h = record {
  lines = λ k d a b i j l is bound off.
      let w = from d b j bound in
      let v = w.2.bound b bound in
      fits_as a w.0 b v (h.lines k w.0 a v.bound i w.1 (subst (λ n. IsIn n k.line) w.2.number l) is v.is (λ hit. off (hit ∙ ap (λ n. Some n) (sym w.2.number))));
  its = λ p d b is j at bound.
      let w = from d b j bound in
      let v = w.2.bound b bound in
      fits_as p.answer w.0 b v (h.its p w.0 v.bound is w.1 (sym w.2.number ∙ at) v.is);
  others = λ p k d is i j l at off. bound_by (bound_of d) (λ b bound.
      let w = from d b j bound in
      let v = w.2.bound b bound in
      let none : bound_of w.0 ≡ None = h.others p k w.0 is i w.1 (subst (λ n. IsIn n k.line) w.2.number l) at (λ hit. off (w.2.number ∙ hit)) in
      let both : None ≡ Some v.bound = sym none ∙ v.is in
      cc both);
  only = h.only;
  answers = h.answers;
  within = λ d b j bound.
      let w = from d b j bound in
      let v = w.2.bound b bound in
      span_as w.0 b v (h.within w.0 v.bound w.1 v.is);
}

pub bound_same : (e : Exchange) → SameBound e e
bound_same e = record { number = refl; bound = λ b is. record { bound = b; is = is; next = refl; to = refl } }

pub asks_mapped : {but : Apart} (f : Exchange → Exchange) (cs : List Conn) (es : List Exchange) → ((e : Exchange) → SameBound (f e) e) → Facts but cs es → Facts but cs (map f es)
asks_mapped f cs es same_bound h = from_asks cs es (map f es) (λ d b j bound. let r = in_map f d es j in (r.was, r.there, subst (λ (x : Exchange). SameBound x r.was) (sym r.is) (same_bound r.was))) h

pub asks_filtered : {but : Apart} (p : Exchange → Bool) (cs : List Conn) (es : List Exchange) → Facts but cs es → Facts but cs (filter p es)
asks_filtered p cs es h = from_asks cs es (filter p es) (λ d b j bound. (d, (in_filter p d es j).0, bound_same d)) h

pub ask_pushed : {but : Apart} (x : Exchange) (cs : List Conn) (es : List Exchange) → bound_of x ≡ None → Facts but cs es → Facts but cs (es ++ x ∷ [])
ask_pushed x cs es none h = from_asks cs es (es ++ x ∷ []) (λ d b j bound. by d b bound (in_push d es x j)) h
  where
    by : (d : Exchange) (b : Bound) → bound_of d ≡ Some b → IsIn d es ⊎ (d ≡ x) → (e : Exchange) × IsIn e es × SameBound d e
    by d b bound (inl i) = (d, i, bound_same d)
    by d b bound (inr eq) = let both : None ≡ Some b = sym none ∙ ap bound_of (sym eq) ∙ bound in absurd (cc both)

pub conns_mapped : {but : Apart} (f : Conn → Conn) (cs : List Conn) (es : List Exchange) → ((k : Conn) → Lesser (f k) k) → Facts but cs es → Facts but (map f cs) es
conns_mapped f cs es lesser h = record {
  lines = λ k e a b i j l is bound off.
      let r = in_map f k cs i in
      let less : Lesser k r.was = subst (λ (x : Conn). Lesser x r.was) (sym r.is) (lesser r.was) in
      h.lines r.was e a b r.there j (less.line e.number l) (less.answer a is) bound off;
  its = h.its;
  others = λ p k e is i j l at off.
      let r = in_map f k cs i in
      let less : Lesser k r.was = subst (λ (x : Conn). Lesser x r.was) (sym r.is) (lesser r.was) in
      h.others p r.was e is r.there j (less.line e.number l) (sym less.number ∙ at) off;
  only = λ p k is i l.
      let r = in_map f k cs i in
      let less : Lesser k r.was = subst (λ (x : Conn). Lesser x r.was) (sym r.is) (lesser r.was) in
      less.number ∙ h.only p r.was is r.there (less.line p.number l);
  answers = λ p k a is said i at has.
      let r = in_map f k cs i in
      let less : Lesser k r.was = subst (λ (x : Conn). Lesser x r.was) (sym r.is) (lesser r.was) in
      h.answers p r.was a is said r.there (sym less.number ∙ at) (less.answer a has);
  within = h.within;
}

-- ---- where none is looked at apart

abbrev pub Plain : List Conn → List Exchange → Type 0
Plain cs es = Facts None cs es

never : {A : Type 0} (p : Away) → None ≡ Some p → A
never p is = absurd (cc is)

pub plain : (cs : List Conn) (es : List Exchange) → ((k : Conn) (e : Exchange) (a : Answer) (b : Bound) → IsIn k cs → IsIn e es → IsIn e.number k.line → k.answer ≡ Some a → bound_of e ≡ Some b → Fits a b.next b.to)
    → ((e : Exchange) (b : Bound) → IsIn e es → bound_of e ≡ Some b → IsSpan b.next b.to) → Plain cs es
plain cs es lines within = record {
  lines = λ k e a b i j l is bound off. lines k e a b i j l is bound;
  its = λ p e b is j at bound. never p is;
  others = λ p k e is i j l at off. never p is;
  only = λ p k is i l. never p is;
  answers = λ p k a is said i at has. never p is;
  within = within;
}

pub lines_of : (cs : List Conn) (es : List Exchange) → Plain cs es → (k : Conn) (e : Exchange) (a : Answer) (b : Bound) → IsIn k cs → IsIn e es → IsIn e.number k.line → k.answer ≡ Some a → bound_of e ≡ Some b → Fits a b.next b.to
lines_of cs es h k e a b i j l is bound = h.lines k e a b i j l is bound (λ off. cc off)

pub conns_filtered : (p : Conn → Bool) (cs : List Conn) (es : List Exchange) → Plain cs es → Plain (filter p cs) es
conns_filtered p cs es h = plain (filter p cs) es (λ k e a b i j l is bound. lines_of cs es h k e a b (in_filter p k cs i).0 j l is bound) h.within

-- one that has no answer
pub conn_pushed : (x : Conn) (cs : List Conn) (es : List Exchange) → x.answer ≡ None → Plain cs es → Plain (cs ++ x ∷ []) es
conn_pushed x cs es none h = plain (cs ++ x ∷ []) es (λ k e a b i j l is bound. by k e a b j l is bound (in_push k cs x i)) h.within
  where
    by : (k : Conn) (e : Exchange) (a : Answer) (b : Bound) → IsIn e es → IsIn e.number k.line → k.answer ≡ Some a → bound_of e ≡ Some b → IsIn k cs ⊎ (k ≡ x) → Fits a b.next b.to
    by k e a b j l is bound (inl i) = lines_of cs es h k e a b i j l is bound
    by k e a b j l is bound (inr eq) = let both : None ≡ Some a = sym none ∙ ap (λ (y : Conn). y.answer) (sym eq) ∙ is in absurd (cc both)
