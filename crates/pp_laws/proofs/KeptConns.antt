-- What is kept where connections are changed in what nothing here depends on, come or go.
use Rattle.std.proofs.Common.{◌≡◌, ◌⊎◌, refl, ℕ, ◌<◌, ◌≤◌, Bool, List, [], ◌∷◌, ◌++◌, map, filter, Some, inl, inr, sym, subst, ap, ◌∙◌, le_trans, le_of_lt, arith}
use Rattle.pp_law.specs.Lists.{change}
use Rattle.pp_law.specs.Stages.{bound_of}
use Rattle.pp_law.specs.State.{State, Client, Conn, Exchange, Instance, Bound}
use Rattle.pp_laws.specs.Numbers.{AreRising}
use Rattle.pp_laws.specs.Runs.{IsIn}
use Rattle.pp_laws.proofs.Lists.{Changed, in_change, in_filter, in_map, in_push, other, rise_change, rise_filter, rise_map, rise_push, same}
use Rattle.pp_laws.proofs.Sound.{Brings, Callers, FactsOf, Since, conn_number, first_of}

callers_raised : {clients : List Client} {top n : ℕ} {instances : List Instance} {next_instance : ℕ} → Callers clients top instances next_instance → top ≤ n → Callers clients n instances next_instance
callers_raised h le = record { rise = h.rise; given = λ c i. le_trans (h.given c i) le; follows = h.follows }

-- ---- connections

-- it was there, with at least that line, and with that answer where it has a line
pub record ConnFrom (conns : List Conn) (k : Conn) : Type 0 where
  pub was : Conn
  pub there : IsIn was conns
  pub number : k.number ≡ was.number
  pub line : (n : ℕ) → IsIn n k.line → IsIn n was.line
  pub front : (n : ℕ) → IsIn n k.line → first_of was.line ≡ Some n → first_of k.line ≡ Some n
  pub answer : (n : ℕ) → IsIn n k.line → k.answer ≡ was.answer

pub conns_kept : (b : Since) (s : State) (conns : List Conn) → AreRising (map conn_number conns) → ((k : Conn) → IsIn k conns → ConnFrom s.conns k) → FactsOf b s → FactsOf b (record s { conns = conns })
conns_kept b s conns rise from h = record {
  grew = h.grew;
  lines = record {
    rise = rise;
    given = λ k i. let f = from k i in subst (λ n. n ≤ s.top) (sym f.number) (h.lines.given f.was f.there);
    asked = λ k n i j. let f = from k i in h.lines.asked f.was n f.there (f.line n j);
  };
  asks = h.asks;
  rows = h.rows;
  placed = λ k e i j l. let f = from k i in h.placed f.was e f.there j (f.line e.number l) ∙ ap (λ n. Some n) (sym f.number);
  brings = λ k e to i j l is isnt. let f = from k i in let w = h.brings f.was e to f.there j (f.line e.number l) is isnt in
      record { front = f.front e.number l w.front; answer = w.answer; is = f.answer e.number l ∙ w.is; fits = w.fits };
  keyed = h.keyed;
  callers = h.callers;
  held = h.held;
}

-- a connection of which nothing that counts was changed
pub record SameConn (k j : Conn) : Type 0 where
  pub number : k.number ≡ j.number
  pub line : k.line ≡ j.line
  pub answer : k.answer ≡ j.answer

pub conn_from : (conns : List Conn) (k j : Conn) → IsIn j conns → SameConn k j → ConnFrom conns k
conn_from conns k j i e = record {
  was = j;
  there = i;
  number = e.number;
  line = λ n l. subst (λ ns. IsIn n ns) e.line l;
  front = λ n l is. ap first_of e.line ∙ is;
  answer = λ n l. e.answer;
}

pub conn_same : (k : Conn) → SameConn k k
conn_same k = record { number = refl; line = refl; answer = refl }

pub conns_mapped : (b : Since) (s : State) (f : Conn → Conn) → ((k : Conn) → SameConn (f k) k) → FactsOf b s → FactsOf b (record s { conns = map f s.conns })
conns_mapped b s f kept h = conns_kept b s (map f s.conns) (rise_map conn_number f (λ k. (kept k).number) s.conns h.lines.rise) from h
  where
    from : (k : Conn) → IsIn k (map f s.conns) → ConnFrom s.conns k
    from k i = let r = in_map f k s.conns i in conn_from s.conns k r.was r.there (subst (λ (j : Conn). SameConn j r.was) (sym r.is) (kept r.was))

pub conns_changed : (b : Since) (s : State) (p : Conn → Bool) (f : Conn → Conn) → ((k : Conn) → SameConn (f k) k) → FactsOf b s → FactsOf b (record s { conns = change p f s.conns })
conns_changed b s p f kept h = conns_kept b s (change p f s.conns) (rise_change conn_number p f (λ k. (kept k).number) s.conns h.lines.rise) (λ k i. from k (in_change p f k s.conns i)) h
  where
    from : (k : Conn) → Changed p f s.conns k → ConnFrom s.conns k
    from k (same i isnt) = conn_from s.conns k k i (conn_same k)
    from k (other j i is e) = conn_from s.conns k j i (subst (λ (l : Conn). SameConn l j) (sym e) (kept j))

pub conns_filtered : (b : Since) (s : State) (p : Conn → Bool) → FactsOf b s → FactsOf b (record s { conns = filter p s.conns })
conns_filtered b s p h = conns_kept b s (filter p s.conns) (rise_filter conn_number p s.conns h.lines.rise) (λ k i. conn_from s.conns k k (in_filter p k s.conns i).0 (conn_same k)) h

-- one whose line is empty, and whose number is above all that are there
pub conn_pushed : (b : Since) (s : State) (k : Conn) → s.top < k.number → k.line ≡ [] → FactsOf b s → FactsOf b (record s { conns = s.conns ++ k ∷ []; top = k.number })
conn_pushed b s k above none h = record {
  grew = h.grew;
  lines = record {
    rise = rise_push conn_number s.conns k h.lines.rise (λ j i. lower j (h.lines.given j i));
    given = λ j i. given_by j (in_push j s.conns k i);
    asked = λ j n i l. asked_by j n (in_push j s.conns k i) l;
  };
  asks = h.asks;
  rows = h.rows;
  placed = λ j e i m l. placed_by j e (in_push j s.conns k i) m l;
  brings = λ j e to i m l is isnt. brings_by j e to (in_push j s.conns k i) m l is isnt;
  keyed = h.keyed;
  callers = callers_raised h.callers (le_of_lt above);
  held = h.held;
}
  where
    lower : (j : Conn) → j.number ≤ s.top → j.number < k.number
    lower j le = omega arith

    given_by : (j : Conn) → IsIn j s.conns ⊎ (j ≡ k) → j.number ≤ k.number
    given_by j (inl i) = let le : j.number ≤ s.top = h.lines.given j i in omega arith
    given_by j (inr e) = let is : j.number ≡ k.number = ap conn_number e in omega arith

    not_in : (j : Conn) (n : ℕ) → j ≡ k → IsIn n j.line → ⊥
    not_in j n e l = subst (λ ns. IsIn n ns) (ap (λ (i : Conn). i.line) e ∙ none) l

    asked_by : (j : Conn) (n : ℕ) → IsIn j s.conns ⊎ (j ≡ k) → IsIn n j.line → n < s.next_exchange
    asked_by j n (inl i) l = h.lines.asked j n i l
    asked_by j n (inr e) l = absurd (not_in j n e l)

    placed_by : (j : Conn) (e : Exchange) → IsIn j s.conns ⊎ (j ≡ k) → IsIn e s.exchanges → IsIn e.number j.line → e.place ≡ Some j.number
    placed_by j e (inl i) m l = h.placed j e i m l
    placed_by j e (inr is) m l = absurd (not_in j e.number is l)

    brings_by : (j : Conn) (e : Exchange) (to : Bound) → IsIn j s.conns ⊎ (j ≡ k) → IsIn e s.exchanges → IsIn e.number j.line → bound_of e ≡ Some to → ¬ (b.excepts ≡ Some e.number) → Brings s.instances j e to
    brings_by j e to (inl i) m l is isnt = h.brings j e to i m l is isnt
    brings_by j e to (inr e_is) m l is isnt = absurd (not_in j e.number e_is l)

pub top_raised : (b : Since) (s : State) (n : ℕ) → s.top ≤ n → FactsOf b s → FactsOf b (record s { top = n })
top_raised b s n le h = record {
  grew = h.grew;
  lines = record { rise = h.lines.rise; given = λ k i. le_trans (h.lines.given k i) le; asked = h.lines.asked };
  asks = h.asks;
  rows = h.rows;
  placed = h.placed;
  brings = h.brings;
  keyed = h.keyed;
  callers = callers_raised h.callers le;
  held = h.held;
}
