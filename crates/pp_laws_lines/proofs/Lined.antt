-- The lines of connections: what keeps how each stands to what was asked there.
use Rattle.std.proofs.Common.{◌≡◌, ◌⊎◌, refl, ℕ, ◌+◌, ◌<◌, ◌≤◌, Bool, true, false, not, ◌==◌, List, [], ◌∷◌, ◌++◌, map, filter, cond, length, Option, Some, None, inl, inr, sym, subst, ap, ◌∙◌, arith}
use Rattle.pp_law.specs.Connections.{is_conn, is_exchange, without_ask}
use Rattle.pp_law.specs.Lists.{Bytes, change}
use Rattle.pp_law.specs.State.{State, Answer, Conn, Exchange}
use Rattle.pp_world.specs.Streams.{asked}
use Rattle.pp_laws.specs.Numbers.{AreDistinct, AreRising}
use Rattle.pp_laws.specs.Runs.{IsIn}
use Rattle.pp_laws.proofs.Lists.{Changed, From, changed_at, in_change, in_filter, in_map, in_push, one_of, other, rise_change, rise_filter, rise_map, rise_push, same}
use Rattle.pp_laws.proofs.Shrinks.{off}
use Rattle.pp_laws.proofs.Sound.{conn_number, exchange_number, first_of}
use Rattle.pp_laws.proofs.Tests.{number_same, same_number}
use Rattle.pp_laws_bounds.proofs.Counts.{in_filter_of}
use Rattle.pp_laws_passed.proofs.Same.{PartsOf, Same, facts_of as parts_of}
use Rattle.pp_laws_lines.specs.Hosts.{WasDialled}
use Rattle.pp_laws_lines.proofs.Hosts.{GoesTo, dialled_as, goes_as, goes_with}
use Rattle.pp_laws_lines.proofs.Stands.{Follows, MayGo, SameAsk, Since, Tells, WholeIn, ask_same, asked_whole, fresh_stands, others, stands_push, tells_by, tells_fewer, unasked}

-- a connection that is answered: all of the first of its line was asked, and the response is of that one
pub record Heads (expects : Option ℕ) (xs : List Exchange) (k : Conn) : Type 0 where
  pub number : ℕ
  pub expected : expects ≡ Some number
  pub first : first_of k.line ≡ Some number
  pub out : (e : Exchange) → IsIn e xs → e.number ≡ number → e.asked ≡ length e.text

pub record SameLeft (x w : Exchange) : Type 0 where
  pub asked : x.asked ≡ w.asked
  pub left : x.body_left ≡ w.body_left
  pub text : x.text ≡ w.text

pub record Facts (b : Since) (exchanges : List Exchange) (next_exchange : ℕ) (conns : List Conn) (top : ℕ) : Type 0 where
  pub low : b.low ≤ top
  pub apart : AreRising (map conn_number conns)
  pub known : (k : Conn) → IsIn k conns → k.number ≤ top
  pub rise : AreRising (map exchange_number exchanges)
  pub given : (e : Exchange) → IsIn e exchanges → e.number < next_exchange
  pub spelled : (e : Exchange) → IsIn e exchanges → 0 < length e.text
  pub lined : (k : Conn) (m : ℕ) → IsIn k conns → IsIn m k.line → m < next_exchange
  pub placed : (k : Conn) (e : Exchange) → IsIn k conns → IsIn e exchanges → IsIn e.number k.line → e.place ≡ Some k.number
  pub hosts : (k : Conn) (e : Exchange) → IsIn k conns → IsIn e exchanges → IsIn e.number k.line → GoesTo e k
  pub dialled : (k : Conn) → IsIn k conns → WasDialled b.log k.number k.host k.port
  pub distinct : (k : Conn) → IsIn k conns → AreDistinct k.line
  pub closed : (k : Conn) → IsIn k conns → k.is_closing ≡ true → (k.line ≡ []) × (k.answer ≡ None)
  pub streams : (k : Conn) → IsIn k conns → k.is_closing ≡ false → (b.gone ≡ Some k.number → ⊥) → Tells b.terms b.log k.number (asked k.number b.log) exchanges k.line
  pub answers : (k : Conn) (a : Answer) → IsIn k conns → k.answer ≡ Some a → (b.but ≡ Some k.number → ⊥) → Heads (b.firsts k.number) exchanges k
  pub kept : (w x : Exchange) → b.kept ≡ Some w → IsIn x exchanges → x.number ≡ w.number → SameLeft x w

abbrev pub FactsOf : Since → State → Type 0
FactsOf b s = Facts b s.exchanges s.next_exchange s.conns s.top

pub data Lined (b : Since) (s : State) : Type 0 where
  lined : FactsOf b s → Lined b s

pub facts_of : {b : Since} {s : State} → Lined b s → FactsOf b s
facts_of (lined facts) = facts

-- ---- exchanges

-- it comes from there, as much of it was asked; or it stands in no line
pub record FromAsk (xs : List Exchange) (conns : List Conn) (e : Exchange) : Type 0 where
  pub was : Exchange
  pub there : IsIn was xs
  pub number : e.number ≡ was.number
  pub text : e.text ≡ was.text
  pub same_ask : SameAsk e was ⊎ ((k : Conn) → IsIn k conns → IsIn e.number k.line → ⊥)

pub from_same : (xs : List Exchange) (conns : List Conn) (e d : Exchange) → IsIn d xs → SameAsk e d → FromAsk xs conns e
from_same xs conns e d i s = record { was = d; there = i; number = s.number; text = s.text; same_ask = inl s }

pub first_in : (line : List ℕ) (n : ℕ) → first_of line ≡ Some n → IsIn n line
first_in [] n is = absurd (cc is)
first_in (m ∷ line) n is = let e : n ≡ m = cc in inl e

pub exchanges_from : (b : Since) (s : State) (ys : List Exchange) → AreRising (map exchange_number ys) → ((e : Exchange) → IsIn e ys → FromAsk s.exchanges s.conns e)
    → ((k : Conn) (d : Exchange) → IsIn k s.conns → IsIn d s.exchanges → IsIn d.number k.line → 0 < d.asked → (e : Exchange) × IsIn e ys × SameAsk e d)
    → ((w x : Exchange) → b.kept ≡ Some w → IsIn x ys → x.number ≡ w.number → SameLeft x w) → FactsOf b s → FactsOf b (record s { exchanges = ys })
exchanges_from b s ys rise back forth kept h = record {
  low = h.low;
  apart = h.apart;
  known = h.known;
  rise = rise;
  given = λ e i. let f = back e i in subst (λ n. n < s.next_exchange) (sym f.number) (h.given f.was f.there);
  spelled = λ e i. let f = back e i in subst (λ (t : Bytes). 0 < length t) (sym f.text) (h.spelled f.was f.there);
  lined = h.lined;
  placed = λ k e i j l. let f = back e j in let g = in_line k e i j l in g.place ∙ h.placed k f.was i f.there (subst (λ n. IsIn n k.line) f.number l);
  hosts = λ k e i j l. let f = back e j in let g = in_line k e i j l in goes_as e f.was k g.key (h.hosts k f.was i f.there (subst (λ n. IsIn n k.line) f.number l));
  dialled = h.dialled;
  distinct = h.distinct;
  closed = h.closed;
  streams = λ k i isnt on. tells_by b.terms b.log k.number (asked k.number b.log) s.exchanges ys k.line (follows k i) (h.streams k i isnt on);
  answers = λ k a i is on. let w = h.answers k a i is on in record { number = w.number; expected = w.expected; first = w.first; out = λ e j at. out_by k i w e j at };
  kept = kept;
}
  where
    in_line : (k : Conn) (e : Exchange) → IsIn k s.conns → (j : IsIn e ys) → IsIn e.number k.line → SameAsk e (back e j).was
    in_line k e i j l = by (back e j).same_ask
      where
        by : SameAsk e (back e j).was ⊎ ((g : Conn) → IsIn g s.conns → IsIn e.number g.line → ⊥) → SameAsk e (back e j).was
        by (inl same_one) = same_one
        by (inr none) = absurd (none k i l)

    follows : (k : Conn) → IsIn k s.conns → Follows s.exchanges ys k.line
    follows k i = record {
      back = λ e j l. let f = back e j in (f.was, f.there, in_line k e i j l);
      forth = λ d j l lt. forth k d i j l lt;
    }

    out_by : (k : Conn) → IsIn k s.conns → (w : Heads (b.firsts k.number) s.exchanges k) → (e : Exchange) → IsIn e ys → e.number ≡ w.number → e.asked ≡ length e.text
    out_by k i w e j at =
        let f = back e j in
        let g = in_line k e i j (subst (λ n. IsIn n k.line) (sym at) (first_in k.line w.number w.first)) in
        g.asked ∙ w.out f.was f.there (sym f.number ∙ at) ∙ ap (λ (t : Bytes). length t) (sym f.text)

-- those that are changed stay as they were asked
left_by : (x d w : Exchange) → SameAsk x d → SameLeft d w → SameLeft x w
left_by x d w s l = record { asked = s.asked ∙ l.asked; left = s.left ∙ l.left; text = s.text ∙ l.text }

pub exchanges_mapped : (b : Since) (s : State) (f : Exchange → Exchange) → ((e : Exchange) → SameAsk (f e) e) → FactsOf b s → FactsOf b (record s { exchanges = map f s.exchanges })
exchanges_mapped b s f kept h = exchanges_from b s (map f s.exchanges) (rise_map exchange_number f (λ e. (kept e).number) s.exchanges h.rise) (λ e i. by e (in_map f e s.exchanges i)) (λ k d i j l lt. (f d, in_mapped d s.exchanges j, kept d)) (λ w x is i at. left w x is (in_map f x s.exchanges i) at) h
  where
    by : (e : Exchange) → From f s.exchanges e → FromAsk s.exchanges s.conns e
    by e r = from_same s.exchanges s.conns e r.was r.there (subst (λ (x : Exchange). SameAsk x r.was) (sym r.is) (kept r.was))

    in_mapped : (d : Exchange) (xs : List Exchange) → IsIn d xs → IsIn (f d) (map f xs)
    in_mapped d [] i = absurd i
    in_mapped d (x ∷ xs) (inl e) = inl (ap f e)
    in_mapped d (x ∷ xs) (inr i) = inr (in_mapped d xs i)

    left : (w x : Exchange) → b.kept ≡ Some w → From f s.exchanges x → x.number ≡ w.number → SameLeft x w
    left w x is r at =
        let s_is : SameAsk x r.was = subst (λ (y : Exchange). SameAsk y r.was) (sym r.is) (kept r.was) in
        left_by x r.was w s_is (h.kept w r.was is r.there (sym s_is.number ∙ at))

changed_same : (f : Exchange → Exchange) (e : Exchange) (t : Bool) → SameAsk (f e) e → SameAsk (elim t as (λ c. Exchange) [ true ↦ f e | false ↦ e ]) e
changed_same f e true s = s
changed_same f e false s = ask_same e

pub exchanges_changed : (b : Since) (s : State) (p : Exchange → Bool) (f : Exchange → Exchange) → ((e : Exchange) → SameAsk (f e) e) → FactsOf b s → FactsOf b (record s { exchanges = change p f s.exchanges })
exchanges_changed b s p f kept h = exchanges_mapped b s (changed_at p f) (λ e. changed_same f e (p e) (kept e)) h

-- those that go have no place
pub exchanges_fewer : (b : Since) (s : State) (p : Exchange → Bool) → ((e : Exchange) → p e ≡ false → e.place ≡ None) → FactsOf b s → FactsOf b (record s { exchanges = filter p s.exchanges })
exchanges_fewer b s p nowhere h =
    exchanges_from b s (filter p s.exchanges) (rise_filter exchange_number p s.exchanges h.rise) (λ e i. from_same s.exchanges s.conns e e (in_filter p e s.exchanges i).0 (ask_same e)) forth (λ w x is i at. h.kept w x is (in_filter p x s.exchanges i).0 at) h
  where
    forth : (k : Conn) (d : Exchange) → IsIn k s.conns → IsIn d s.exchanges → IsIn d.number k.line → 0 < d.asked → (e : Exchange) × IsIn e (filter p s.exchanges) × SameAsk e d
    forth k d i j l lt = by (p d) refl
      where
        by : (t : Bool) → p d ≡ t → (e : Exchange) × IsIn e (filter p s.exchanges) × SameAsk e d
        by true is = (d, in_filter_of p d s.exchanges j is, ask_same d)
        by false is = let both : None ≡ Some k.number = sym (nowhere d is) ∙ h.placed k d i j l in absurd (cc both)

-- one that stands in no line is changed
pub exchange_moved : (b : Since) (s : State) (n : ℕ) (f : Exchange → Exchange) → b.kept ≡ None → ((e : Exchange) → (f e).number ≡ e.number) → ((e : Exchange) → (f e).text ≡ e.text) → ((k : Conn) → IsIn k s.conns → IsIn n k.line → ⊥) → FactsOf b s
    → FactsOf b (record s { exchanges = change (is_exchange n) f s.exchanges })
exchange_moved b s n f none number text no_line h =
    exchanges_from b s (change (is_exchange n) f s.exchanges) (rise_change exchange_number (is_exchange n) f number s.exchanges h.rise) (λ e i. by e (in_change (is_exchange n) f e s.exchanges i)) (λ k d i j l lt. (d, stays k d i j l, ask_same d))
    (λ w x is i at. let both : None ≡ Some w = sym none ∙ is in absurd (cc both)) h
  where
    by : (e : Exchange) → Changed (is_exchange n) f s.exchanges e → FromAsk s.exchanges s.conns e
    by e (same i isnt) = from_same s.exchanges s.conns e e i (ask_same e)
    by e (other d i hit eq) = record {
      was = d;
      there = i;
      number = ap exchange_number eq ∙ number d;
      text = ap (λ (x : Exchange). x.text) eq ∙ text d;
      same_ask = inr (λ k j l. no_line k j (subst (λ m. IsIn m k.line) (ap exchange_number eq ∙ number d ∙ same_number d.number n hit) l));
    }

    stays : (k : Conn) (d : Exchange) → IsIn k s.conns → IsIn d s.exchanges → IsIn d.number k.line → IsIn d (change (is_exchange n) f s.exchanges)
    stays k d i j l = in_same d s.exchanges (differs (is_exchange n d) refl) j
      where
        differs : (t : Bool) → is_exchange n d ≡ t → is_exchange n d ≡ false
        differs true hit = absurd (no_line k i (subst (λ m. IsIn m k.line) (same_number d.number n hit) l))
        differs false isnt = isnt

        in_same : (x : Exchange) (xs : List Exchange) → is_exchange n x ≡ false → IsIn x xs → IsIn x (change (is_exchange n) f xs)
        in_same x [] isnt i2 = absurd i2
        in_same x (y ∷ ys) isnt (inl e) = inl (kept_at y (is_exchange n y) refl)
          where
            kept_at : (z : Exchange) (t : Bool) → is_exchange n y ≡ t → x ≡ (elim t as (λ c. Exchange) [ true ↦ f y | false ↦ y ])
            kept_at z true hit = let both : false ≡ true = sym isnt ∙ ap (is_exchange n) e ∙ hit in absurd (cc both)
            kept_at z false miss = e
        in_same x (y ∷ ys) isnt (inr i2) = inr (in_same x ys isnt i2)

-- one of which nothing was asked begins
pub exchange_added : (b : Since) (s : State) (e : Exchange) → b.kept ≡ None → e.number ≡ s.next_exchange → 0 < length e.text → FactsOf b s → FactsOf b (record s { exchanges = s.exchanges ++ e ∷ []; next_exchange = s.next_exchange + 1 })
exchange_added b s e none number spelled h = record {
  low = h.low;
  apart = h.apart;
  known = h.known;
  rise = rise_push exchange_number s.exchanges e h.rise (λ d i. subst (λ n. d.number < n) (sym number) (h.given d i));
  given = λ d i. given_by d (in_push d s.exchanges e i);
  spelled = λ d i. spelled_by d (in_push d s.exchanges e i);
  lined = λ k m i l. more m (h.lined k m i l);
  placed = λ k d i j l. placed_by k d i (in_push d s.exchanges e j) l;
  hosts = λ k d i j l. hosts_by k d i (in_push d s.exchanges e j) l;
  dialled = h.dialled;
  distinct = h.distinct;
  closed = h.closed;
  streams = λ k i isnt on. tells_by b.terms b.log k.number (asked k.number b.log) s.exchanges (s.exchanges ++ e ∷ []) k.line (follows k i) (h.streams k i isnt on);
  answers = λ k a i is on. let w = h.answers k a i is on in record { number = w.number; expected = w.expected; first = w.first; out = λ d j at. out_by k i w d (in_push d s.exchanges e j) at };
  kept = λ w x is i at. let both : None ≡ Some w = sym none ∙ is in absurd (cc both);
}
  where
    more : (n : ℕ) → n < s.next_exchange → n < s.next_exchange + 1
    more n lt = omega arith

    given_by : (d : Exchange) → IsIn d s.exchanges ⊎ (d ≡ e) → d.number < s.next_exchange + 1
    given_by d (inl i) = more d.number (h.given d i)
    given_by d (inr eq) = let is : d.number ≡ s.next_exchange = ap exchange_number eq ∙ number in omega arith

    spelled_by : (d : Exchange) → IsIn d s.exchanges ⊎ (d ≡ e) → 0 < length d.text
    spelled_by d (inl i) = h.spelled d i
    spelled_by d (inr eq) = subst (λ (x : Exchange). 0 < length x.text) (sym eq) spelled

    -- in no line yet
    never : (k : Conn) (d : Exchange) → IsIn k s.conns → d ≡ e → IsIn d.number k.line → ⊥
    never k d i eq l = let lt : d.number < s.next_exchange = h.lined k d.number i l in let is : d.number ≡ s.next_exchange = ap exchange_number eq ∙ number in omega arith

    placed_by : (k : Conn) (d : Exchange) → IsIn k s.conns → IsIn d s.exchanges ⊎ (d ≡ e) → IsIn d.number k.line → d.place ≡ Some k.number
    placed_by k d i (inl j) l = h.placed k d i j l
    placed_by k d i (inr eq) l = absurd (never k d i eq l)

    hosts_by : (k : Conn) (d : Exchange) → IsIn k s.conns → IsIn d s.exchanges ⊎ (d ≡ e) → IsIn d.number k.line → GoesTo d k
    hosts_by k d i (inl j) l = h.hosts k d i j l
    hosts_by k d i (inr eq) l = absurd (never k d i eq l)

    in_front_of : (d : Exchange) (xs : List Exchange) → IsIn d xs → IsIn d (xs ++ e ∷ [])
    in_front_of d [] i = absurd i
    in_front_of d (x ∷ xs) (inl eq) = inl eq
    in_front_of d (x ∷ xs) (inr i) = inr (in_front_of d xs i)

    follows : (k : Conn) → IsIn k s.conns → Follows s.exchanges (s.exchanges ++ e ∷ []) k.line
    follows k i = record {
      back = λ d j l. back_by d (in_push d s.exchanges e j) l;
      forth = λ d j l lt. (d, in_front_of d s.exchanges j, ask_same d);
    }
      where
        back_by : (d : Exchange) → IsIn d s.exchanges ⊎ (d ≡ e) → IsIn d.number k.line → (x : Exchange) × IsIn x s.exchanges × SameAsk d x
        back_by d (inl j) l = (d, j, ask_same d)
        back_by d (inr eq) l = absurd (never k d i eq l)

    out_by : (k : Conn) → IsIn k s.conns → (w : Heads (b.firsts k.number) s.exchanges k) → (d : Exchange) → IsIn d s.exchanges ⊎ (d ≡ e) → d.number ≡ w.number → d.asked ≡ length d.text
    out_by k i w d (inl j) at = w.out d j at
    out_by k i w d (inr eq) at = absurd (never k d i eq (subst (λ n. IsIn n k.line) (sym at) (first_in k.line w.number w.first)))

-- ---- connections

-- it was there, to the same host, with that line, and with that answer or none
pub record FromConn (conns : List Conn) (k : Conn) : Type 0 where
  pub was : Conn
  pub there : IsIn was conns
  pub number : k.number ≡ was.number
  pub host : k.host ≡ was.host
  pub port : k.port ≡ was.port
  pub line : k.line ≡ was.line
  pub answer : (k.answer ≡ was.answer) ⊎ (k.answer ≡ None)
  pub closing : k.is_closing ≡ was.is_closing

pub record SameConn (k j : Conn) : Type 0 where
  pub number : k.number ≡ j.number
  pub host : k.host ≡ j.host
  pub port : k.port ≡ j.port
  pub line : k.line ≡ j.line
  pub answer : (k.answer ≡ j.answer) ⊎ (k.answer ≡ None)
  pub closing : k.is_closing ≡ j.is_closing

conn_by : (conns : List Conn) (k j : Conn) → IsIn j conns → SameConn k j → FromConn conns k
conn_by conns k j i e = record { was = j; there = i; number = e.number; host = e.host; port = e.port; line = e.line; answer = e.answer; closing = e.closing }

conn_same : (k : Conn) → SameConn k k
conn_same k = record { number = refl; host = refl; port = refl; line = refl; answer = inl refl; closing = refl }

pub conns_from : (b : Since) (s : State) (conns : List Conn) → AreRising (map conn_number conns) → ((k : Conn) → IsIn k conns → FromConn s.conns k) → FactsOf b s → FactsOf b (record s { conns = conns })
conns_from b s conns apart from h = record {
  low = h.low;
  apart = apart;
  known = λ k i. let f = from k i in subst (λ n. n ≤ s.top) (sym f.number) (h.known f.was f.there);
  rise = h.rise;
  given = h.given;
  spelled = h.spelled;
  lined = λ k m i l. let f = from k i in h.lined f.was m f.there (subst (λ ns. IsIn m ns) f.line l);
  placed = λ k e i j l. let f = from k i in h.placed f.was e f.there j (subst (λ ns. IsIn e.number ns) f.line l) ∙ ap (λ n. Some n) (sym f.number);
  hosts = λ k e i j l. let f = from k i in goes_with e k f.was f.host f.port (h.hosts f.was e f.there j (subst (λ ns. IsIn e.number ns) f.line l));
  dialled = λ k i. let f = from k i in dialled_as b.log k f.was f.number f.host f.port (h.dialled f.was f.there);
  distinct = λ k i. let f = from k i in subst AreDistinct (sym f.line) (h.distinct f.was f.there);
  closed = λ k i is. let f = from k i in let w = h.closed f.was f.there (sym f.closing ∙ is) in (f.line ∙ w.0, none_by k f w.1);
  streams = λ k i isnt on. let f = from k i in
      subst (λ n. Tells b.terms b.log n (asked n b.log) s.exchanges k.line) (sym f.number) (subst (λ ns. Tells b.terms b.log f.was.number (asked f.was.number b.log) s.exchanges ns) (sym f.line) (h.streams f.was f.there (sym f.closing ∙ isnt) (λ is. on (is ∙ ap (λ n. Some n) (sym f.number)))));
  answers = λ k a i is on. let f = from k i in answer_by k a f (f.answer) is on;
  kept = h.kept;
}
  where
    none_by : (k : Conn) (f : FromConn s.conns k) → f.was.answer ≡ None → k.answer ≡ None
    none_by k f none = by f.answer
      where
        by : (k.answer ≡ f.was.answer) ⊎ (k.answer ≡ None) → k.answer ≡ None
        by (inl e) = e ∙ none
        by (inr e) = e

    answer_by : (k : Conn) (a : Answer) (f : FromConn s.conns k) → (k.answer ≡ f.was.answer) ⊎ (k.answer ≡ None) → k.answer ≡ Some a → (b.but ≡ Some k.number → ⊥) → Heads (b.firsts k.number) s.exchanges k
    answer_by k a f (inl e) is on = let w = h.answers f.was a f.there (sym e ∙ is) (λ eq. on (eq ∙ ap (λ n. Some n) (sym f.number))) in record { number = w.number; expected = ap b.firsts f.number ∙ w.expected; first = ap first_of f.line ∙ w.first; out = w.out }
    answer_by k a f (inr e) is on = let both : None ≡ Some a = sym e ∙ is in absurd (cc both)

pub conns_changed : (b : Since) (s : State) (p : Conn → Bool) (f : Conn → Conn) → ((k : Conn) → SameConn (f k) k) → FactsOf b s → FactsOf b (record s { conns = change p f s.conns })
conns_changed b s p f kept h = conns_from b s (change p f s.conns) (rise_change conn_number p f (λ k. (kept k).number) s.conns h.apart) (λ k i. by k (in_change p f k s.conns i)) h
  where
    by : (k : Conn) → Changed p f s.conns k → FromConn s.conns k
    by k (same i isnt) = conn_by s.conns k k i (conn_same k)
    by k (other j i hit eq) = subst (λ (x : Conn). FromConn s.conns x) (sym eq) (conn_by s.conns (f j) j i (kept j))

pub conns_mapped : (b : Since) (s : State) (f : Conn → Conn) → ((k : Conn) → SameConn (f k) k) → FactsOf b s → FactsOf b (record s { conns = map f s.conns })
conns_mapped b s f kept h = conns_from b s (map f s.conns) (rise_map conn_number f (λ k. (kept k).number) s.conns h.apart) (λ k i. by k (in_map f k s.conns i)) h
  where
    by : (k : Conn) → From f s.conns k → FromConn s.conns k
    by k r = subst (λ (x : Conn). FromConn s.conns x) (sym r.is) (conn_by s.conns (f r.was) r.was r.there (kept r.was))

pub conns_fewer : (b : Since) (s : State) (p : Conn → Bool) → FactsOf b s → FactsOf b (record s { conns = filter p s.conns })
conns_fewer b s p h = conns_from b s (filter p s.conns) (rise_filter conn_number p s.conns h.apart) (λ k i. conn_by s.conns k k (in_filter p k s.conns i).0 (conn_same k)) h

-- its line is emptied, as it is closed
pub conns_off : (b : Since) (s : State) (n : ℕ) → FactsOf b s → FactsOf b (record s { conns = change (is_conn n) off s.conns })
conns_off b s n h = record {
  low = h.low;
  apart = rise_change conn_number (is_conn n) off (λ k. refl) s.conns h.apart;
  known = λ k i. known_by k (at k i);
  rise = h.rise;
  given = h.given;
  spelled = h.spelled;
  lined = λ k m i l. lined_by k m (at k i) l;
  placed = λ k e i j l. placed_by k e (at k i) j l;
  hosts = λ k e i j l. hosts_by k e (at k i) j l;
  dialled = λ k i. dialled_by k (at k i);
  distinct = λ k i. distinct_by k (at k i);
  closed = λ k i is. closed_by k (at k i) is;
  streams = λ k i isnt on. streams_by k (at k i) isnt on;
  answers = λ k a i is on. answers_by k a (at k i) is on;
  kept = h.kept;
}
  where
    at : (k : Conn) → IsIn k (change (is_conn n) off s.conns) → Changed (is_conn n) off s.conns k
    at k i = in_change (is_conn n) off k s.conns i

    known_by : (k : Conn) → Changed (is_conn n) off s.conns k → k.number ≤ s.top
    known_by k (same i isnt) = h.known k i
    known_by k (other j i hit eq) = subst (λ (x : Conn). x.number ≤ s.top) (sym eq) (h.known j i)

    lined_by : (k : Conn) (m : ℕ) → Changed (is_conn n) off s.conns k → IsIn m k.line → m < s.next_exchange
    lined_by k m (same i isnt) l = h.lined k m i l
    lined_by k m (other j i hit eq) l = absurd (subst (λ (x : Conn). IsIn m x.line) eq l)

    placed_by : (k : Conn) (e : Exchange) → Changed (is_conn n) off s.conns k → IsIn e s.exchanges → IsIn e.number k.line → e.place ≡ Some k.number
    placed_by k e (same i isnt) j l = h.placed k e i j l
    placed_by k e (other g i hit eq) j l = absurd (subst (λ (x : Conn). IsIn e.number x.line) eq l)

    hosts_by : (k : Conn) (e : Exchange) → Changed (is_conn n) off s.conns k → IsIn e s.exchanges → IsIn e.number k.line → GoesTo e k
    hosts_by k e (same i isnt) j l = h.hosts k e i j l
    hosts_by k e (other g i hit eq) j l = absurd (subst (λ (x : Conn). IsIn e.number x.line) eq l)

    dialled_by : (k : Conn) → Changed (is_conn n) off s.conns k → WasDialled b.log k.number k.host k.port
    dialled_by k (same i isnt) = h.dialled k i
    dialled_by k (other j i hit eq) = subst (λ (x : Conn). WasDialled b.log x.number x.host x.port) (sym eq) (h.dialled j i)

    distinct_by : (k : Conn) → Changed (is_conn n) off s.conns k → AreDistinct k.line
    distinct_by k (same i isnt) = h.distinct k i
    distinct_by k (other j i hit eq) = subst (λ (x : Conn). AreDistinct x.line) (sym eq) tt

    closed_by : (k : Conn) → Changed (is_conn n) off s.conns k → k.is_closing ≡ true → (k.line ≡ []) × (k.answer ≡ None)
    closed_by k (same i isnt) is = h.closed k i is
    closed_by k (other j i hit eq) is = (ap (λ (x : Conn). x.line) eq, ap (λ (x : Conn). x.answer) eq)

    streams_by : (k : Conn) → Changed (is_conn n) off s.conns k → k.is_closing ≡ false → (b.gone ≡ Some k.number → ⊥) → Tells b.terms b.log k.number (asked k.number b.log) s.exchanges k.line
    streams_by k (same i isnt) open_one on = h.streams k i open_one on
    streams_by k (other j i hit eq) open_one on = let both : true ≡ false = sym (ap (λ (x : Conn). x.is_closing) eq) ∙ open_one in absurd (cc both)

    answers_by : (k : Conn) (a : Answer) → Changed (is_conn n) off s.conns k → k.answer ≡ Some a → (b.but ≡ Some k.number → ⊥) → Heads (b.firsts k.number) s.exchanges k
    answers_by k a (same i isnt) is on = h.answers k a i is on
    answers_by k a (other j i hit eq) is on = let both : None ≡ Some a = sym (ap (λ (x : Conn). x.answer) eq) ∙ is in absurd (cc both)

-- a head came for the first of its line, of which all was asked
pub conns_answered : (b : Since) (s : State) (n : ℕ) (f : Conn → Conn) → ((k : Conn) → (f k).number ≡ k.number) → ((k : Conn) → (f k).host ≡ k.host) → ((k : Conn) → (f k).port ≡ k.port) → ((k : Conn) → (f k).line ≡ k.line) → ((k : Conn) → (f k).is_closing ≡ k.is_closing)
    → ((k : Conn) → IsIn k s.conns → k.number ≡ n → (k.is_closing ≡ false) × Heads (b.firsts k.number) s.exchanges k) → FactsOf b s → FactsOf b (record s { conns = change (is_conn n) f s.conns })
conns_answered b s n f number host port line closing heads h = record {
  low = h.low;
  apart = rise_change conn_number (is_conn n) f number s.conns h.apart;
  known = λ k i. known_by k (at k i);
  rise = h.rise;
  given = h.given;
  spelled = h.spelled;
  lined = λ k m i l. lined_by k m (at k i) l;
  placed = λ k e i j l. placed_by k e (at k i) j l;
  hosts = λ k e i j l. hosts_by k e (at k i) j l;
  dialled = λ k i. dialled_by k (at k i);
  distinct = λ k i. distinct_by k (at k i);
  closed = λ k i is. closed_by k (at k i) is;
  streams = λ k i isnt on. streams_by k (at k i) isnt on;
  answers = λ k a i is on. answers_by k a (at k i) is on;
  kept = h.kept;
}
  where
    at : (k : Conn) → IsIn k (change (is_conn n) f s.conns) → Changed (is_conn n) f s.conns k
    at k i = in_change (is_conn n) f k s.conns i

    known_by : (k : Conn) → Changed (is_conn n) f s.conns k → k.number ≤ s.top
    known_by k (same i isnt) = h.known k i
    known_by k (other j i hit eq) = subst (λ m. m ≤ s.top) (sym (ap conn_number eq ∙ number j)) (h.known j i)

    lined_by : (k : Conn) (m : ℕ) → Changed (is_conn n) f s.conns k → IsIn m k.line → m < s.next_exchange
    lined_by k m (same i isnt) l = h.lined k m i l
    lined_by k m (other j i hit eq) l = h.lined j m i (subst (λ ns. IsIn m ns) (ap (λ (x : Conn). x.line) eq ∙ line j) l)

    placed_by : (k : Conn) (e : Exchange) → Changed (is_conn n) f s.conns k → IsIn e s.exchanges → IsIn e.number k.line → e.place ≡ Some k.number
    placed_by k e (same i isnt) j l = h.placed k e i j l
    placed_by k e (other q i hit eq) j l = h.placed q e i j (subst (λ ns. IsIn e.number ns) (ap (λ (x : Conn). x.line) eq ∙ line q) l) ∙ ap (λ m. Some m) (sym (ap conn_number eq ∙ number q))

    hosts_by : (k : Conn) (e : Exchange) → Changed (is_conn n) f s.conns k → IsIn e s.exchanges → IsIn e.number k.line → GoesTo e k
    hosts_by k e (same i isnt) j l = h.hosts k e i j l
    hosts_by k e (other q i hit eq) j l =
        goes_with e k q (ap (λ (x : Conn). x.host) eq ∙ host q) (ap (λ (x : Conn). x.port) eq ∙ port q) (h.hosts q e i j (subst (λ ns. IsIn e.number ns) (ap (λ (x : Conn). x.line) eq ∙ line q) l))

    dialled_by : (k : Conn) → Changed (is_conn n) f s.conns k → WasDialled b.log k.number k.host k.port
    dialled_by k (same i isnt) = h.dialled k i
    dialled_by k (other q i hit eq) = dialled_as b.log k q (ap conn_number eq ∙ number q) (ap (λ (x : Conn). x.host) eq ∙ host q) (ap (λ (x : Conn). x.port) eq ∙ port q) (h.dialled q i)

    distinct_by : (k : Conn) → Changed (is_conn n) f s.conns k → AreDistinct k.line
    distinct_by k (same i isnt) = h.distinct k i
    distinct_by k (other j i hit eq) = subst AreDistinct (sym (ap (λ (x : Conn). x.line) eq ∙ line j)) (h.distinct j i)

    closed_by : (k : Conn) → Changed (is_conn n) f s.conns k → k.is_closing ≡ true → (k.line ≡ []) × (k.answer ≡ None)
    closed_by k (same i isnt) is = h.closed k i is
    closed_by k (other j i hit eq) is =
        let both : false ≡ true = sym (heads j i (same_number j.number n hit)).0 ∙ sym (ap (λ (x : Conn). x.is_closing) eq ∙ closing j) ∙ is in absurd (cc both)

    streams_by : (k : Conn) → Changed (is_conn n) f s.conns k → k.is_closing ≡ false → (b.gone ≡ Some k.number → ⊥) → Tells b.terms b.log k.number (asked k.number b.log) s.exchanges k.line
    streams_by k (same i isnt) open_one on = h.streams k i open_one on
    streams_by k (other j i hit eq) open_one on =
        let m : k.number ≡ j.number = ap conn_number eq ∙ number j in
        let l : k.line ≡ j.line = ap (λ (x : Conn). x.line) eq ∙ line j in
        subst (λ r. Tells b.terms b.log r (asked r b.log) s.exchanges k.line) (sym m)
        (subst (λ ns. Tells b.terms b.log j.number (asked j.number b.log) s.exchanges ns) (sym l) (h.streams j i (heads j i (same_number j.number n hit)).0 (λ is. on (is ∙ ap (λ r. Some r) (sym m)))))

    answers_by : (k : Conn) (a : Answer) → Changed (is_conn n) f s.conns k → k.answer ≡ Some a → (b.but ≡ Some k.number → ⊥) → Heads (b.firsts k.number) s.exchanges k
    answers_by k a (same i isnt) is on = h.answers k a i is on
    answers_by k a (other j i hit eq) is on = let w = (heads j i (same_number j.number n hit)).1 in record { number = w.number; expected = ap b.firsts (ap conn_number eq ∙ number j) ∙ w.expected; first = ap first_of (ap (λ (x : Conn). x.line) eq ∙ line j) ∙ w.first; out = w.out }

-- ---- an exchange is over

distinct_others : (n : ℕ) (line : List ℕ) → AreDistinct line → AreDistinct (others n line)
distinct_others n [] d = tt
distinct_others n (m ∷ rest) d = by (m == n) (distinct_others n rest d.1)
  where
    by : (t : Bool) → AreDistinct (others n rest) → AreDistinct (cond (not t) (m ∷ others n rest) (others n rest))
    by true less = less
    by false less = ((λ i. d.0 (in_filter (λ k. not (k == n)) m rest i).0), less)

-- of a line that is looked at no more; or nothing of it was asked, or all, where the answer is not looked at
pub data MayEnd (b : Since) (n : ℕ) (xs : List Exchange) (k : Conn) : Type 0 where
  on_gone : b.gone ≡ Some k.number → b.but ≡ Some k.number → MayEnd b n xs k
  of_fresh : (e : Exchange) → IsIn e xs → e.number ≡ n → e.asked ≡ 0 → MayEnd b n xs k
  of_whole : WholeIn xs n → b.but ≡ Some k.number → MayEnd b n xs k

pub ended_facts : (b : Since) (n : ℕ) (s : State) → ((k : Conn) → IsIn k s.conns → IsIn n k.line → MayEnd b n s.exchanges k) → FactsOf b s → FactsOf b (record s { exchanges = filter (λ e. not (is_exchange n e)) s.exchanges; conns = map (without_ask n) s.conns })
ended_facts b n s may h = record {
  low = h.low;
  apart = rise_map conn_number (without_ask n) (λ k. refl) s.conns h.apart;
  known = λ k i. known_by k (at k i);
  rise = rise_filter exchange_number (λ e. not (is_exchange n e)) s.exchanges h.rise;
  given = λ e i. h.given e (was e i).0;
  spelled = λ e i. h.spelled e (was e i).0;
  lined = λ k m i l. lined_by k m (at k i) l;
  placed = λ k e i j l. placed_by k e (at k i) (was e j).0 l;
  hosts = λ k e i j l. hosts_by k e (at k i) (was e j).0 l;
  dialled = λ k i. dialled_by k (at k i);
  distinct = λ k i. distinct_by k (at k i);
  closed = λ k i is. closed_by k (at k i) is;
  streams = λ k i isnt on. streams_by k (at k i) isnt on;
  answers = λ k a i is on. answers_by k a (at k i) is on;
  kept = λ w x is i at_w. h.kept w x is (was x i).0 at_w;
}
  where
    ys : List Exchange
    ys = filter (λ e. not (is_exchange n e)) s.exchanges

    at : (k : Conn) → IsIn k (map (without_ask n) s.conns) → From (without_ask n) s.conns k
    at k i = in_map (without_ask n) k s.conns i

    was : (e : Exchange) → IsIn e (filter (λ x. not (is_exchange n x)) s.exchanges) → IsIn e s.exchanges × (not (is_exchange n e) ≡ true)
    was e i = in_filter (λ x. not (is_exchange n x)) e s.exchanges i

    number : (k : Conn) (r : From (without_ask n) s.conns k) → k.number ≡ r.was.number
    number k r = ap conn_number r.is

    line : (k : Conn) (r : From (without_ask n) s.conns k) → k.line ≡ others n r.was.line
    line k r = ap (λ (x : Conn). x.line) r.is

    in_was : (k : Conn) (r : From (without_ask n) s.conns k) (m : ℕ) → IsIn m k.line → IsIn m r.was.line × (not (m == n) ≡ true)
    in_was k r m l = in_filter (λ x. not (x == n)) m r.was.line (subst (λ ns. IsIn m ns) (line k r) l)

    known_by : (k : Conn) → From (without_ask n) s.conns k → k.number ≤ s.top
    known_by k r = subst (λ m. m ≤ s.top) (sym (number k r)) (h.known r.was r.there)

    lined_by : (k : Conn) (m : ℕ) → From (without_ask n) s.conns k → IsIn m k.line → m < s.next_exchange
    lined_by k m r l = h.lined r.was m r.there (in_was k r m l).0

    placed_by : (k : Conn) (e : Exchange) → From (without_ask n) s.conns k → IsIn e s.exchanges → IsIn e.number k.line → e.place ≡ Some k.number
    placed_by k e r j l = h.placed r.was e r.there j (in_was k r e.number l).0 ∙ ap (λ m. Some m) (sym (number k r))

    hosts_by : (k : Conn) (e : Exchange) → From (without_ask n) s.conns k → IsIn e s.exchanges → IsIn e.number k.line → GoesTo e k
    hosts_by k e r j l = goes_with e k r.was (ap (λ (x : Conn). x.host) r.is) (ap (λ (x : Conn). x.port) r.is) (h.hosts r.was e r.there j (in_was k r e.number l).0)

    dialled_by : (k : Conn) → From (without_ask n) s.conns k → WasDialled b.log k.number k.host k.port
    dialled_by k r = dialled_as b.log k r.was (number k r) (ap (λ (x : Conn). x.host) r.is) (ap (λ (x : Conn). x.port) r.is) (h.dialled r.was r.there)

    distinct_by : (k : Conn) → From (without_ask n) s.conns k → AreDistinct k.line
    distinct_by k r = subst AreDistinct (sym (line k r)) (distinct_others n r.was.line (h.distinct r.was r.there))

    closed_by : (k : Conn) → From (without_ask n) s.conns k → k.is_closing ≡ true → (k.line ≡ []) × (k.answer ≡ None)
    closed_by k r is =
        let w = h.closed r.was r.there (sym (ap (λ (x : Conn). x.is_closing) r.is) ∙ is) in
        (line k r ∙ ap (λ ns. others n ns) w.0, ap (λ (x : Conn). x.answer) r.is ∙ w.1)

    follows : (ns : List ℕ) → Follows s.exchanges ys (others n ns)
    follows ns = record {
      back = λ e i l. (e, (was e i).0, ask_same e);
      forth = λ d i l lt. (d, in_filter_of (λ e. not (is_exchange n e)) d s.exchanges i (in_filter (λ x. not (x == n)) d.number ns l).1, ask_same d);
    }

    goes : (k : Conn) → IsIn k s.conns → (b.gone ≡ Some k.number → ⊥) → IsIn n k.line → MayGo s.exchanges n
    goes k i on l = by (may k i l)
      where
        by : MayEnd b n s.exchanges k → MayGo s.exchanges n
        by (on_gone is but_is) = absurd (on is)
        by (of_fresh e j is none) = unasked (λ d m d_is. ap (λ (x : Exchange). x.asked) (one_of exchange_number s.exchanges d e h.rise m j (d_is ∙ sym is)) ∙ none)
        by (of_whole full but_is) = asked_whole full

    streams_by : (k : Conn) → From (without_ask n) s.conns k → k.is_closing ≡ false → (b.gone ≡ Some k.number → ⊥) → Tells b.terms b.log k.number (asked k.number b.log) ys k.line
    streams_by k r isnt on =
        let off_gone : b.gone ≡ Some r.was.number → ⊥ = λ is. on (is ∙ ap (λ m. Some m) (sym (number k r))) in
        let t = tells_fewer b.terms b.log r.was.number (asked r.was.number b.log) s.exchanges r.was.line n (goes r.was r.there off_gone) (h.streams r.was r.there (sym (ap (λ (x : Conn). x.is_closing) r.is) ∙ isnt) off_gone) in
        subst (λ m. Tells b.terms b.log m (asked m b.log) ys k.line) (sym (number k r))
        (subst (λ ns. Tells b.terms b.log r.was.number (asked r.was.number b.log) ys ns) (sym (line k r)) (tells_by b.terms b.log r.was.number (asked r.was.number b.log) s.exchanges ys (others n r.was.line) (follows r.was.line) t))

    first_others : (m : ℕ) (ns : List ℕ) → (m == n) ≡ false → first_of ns ≡ Some m → first_of (others n ns) ≡ Some m
    first_others m [] isnt is = absurd (cc is)
    first_others m (x ∷ ns) isnt is = let e : x ≡ m = cc in subst (λ t. first_of (cond (not t) (x ∷ others n ns) (others n ns)) ≡ Some m) (sym (ap (λ y. y == n) e ∙ isnt)) is

    answers_by : (k : Conn) (a : Answer) → From (without_ask n) s.conns k → k.answer ≡ Some a → (b.but ≡ Some k.number → ⊥) → Heads (b.firsts k.number) ys k
    answers_by k a r is on =
        let off_but : b.but ≡ Some r.was.number → ⊥ = λ eq. on (eq ∙ ap (λ m. Some m) (sym (number k r))) in
        by (h.answers r.was a r.there (sym (ap (λ (x : Conn). x.answer) r.is) ∙ is) off_but) off_but
      where
        by : Heads (b.firsts r.was.number) s.exchanges r.was → (b.but ≡ Some r.was.number → ⊥) → Heads (b.firsts k.number) ys k
        by w off_but = record { number = w.number; expected = ap b.firsts (number k r) ∙ w.expected; first = ap first_of (line k r) ∙ first_others w.number r.was.line (apart_from (w.number == n) refl) w.first; out = λ e i at_e. w.out e (was e i).0 at_e }
          where
            never : w.number ≡ n → MayEnd b n s.exchanges r.was → ⊥
            never eq (on_gone gone_is but_is) = off_but but_is
            never eq (of_fresh e j e_is none) =
                let out : e.asked ≡ length e.text = w.out e j (e_is ∙ sym eq) in
                let lt : 0 < length e.text = h.spelled e j in omega arith
            never eq (of_whole full but_is) = off_but but_is

            apart_from : (t : Bool) → (w.number == n) ≡ t → (w.number == n) ≡ false
            apart_from true hit =
                let eq : w.number ≡ n = same_number w.number n hit in
                absurd (never eq (may r.was r.there (subst (λ m. IsIn m r.was.line) eq (first_in r.was.line w.number w.first))))
            apart_from false miss = miss

-- ---- it comes into a line

first_push : (n m : ℕ) (ns : List ℕ) → first_of ns ≡ Some m → first_of (ns ++ n ∷ []) ≡ Some m
first_push n m [] is = absurd (cc is)
first_push n m (x ∷ ns) is = is

distinct_push : (n : ℕ) (ns : List ℕ) → (IsIn n ns → ⊥) → AreDistinct ns → AreDistinct (ns ++ n ∷ [])
distinct_push n [] none d = ((λ i. i), tt)
distinct_push n (x ∷ ns) none d = ((λ i. by (in_push x ns n i)), distinct_push n ns (λ i. none (inr i)) d.1)
  where
    by : IsIn x ns ⊎ (x ≡ n) → ⊥
    by (inl i) = d.0 i
    by (inr e) = none (inl (sym e))

-- one of which nothing was asked, of that place; each connection of the number is open, and none has it in its line
pub pushed_facts : (b : Since) (n k : ℕ) (s : State) → n < s.next_exchange → ((e : Exchange) → IsIn e s.exchanges → e.number ≡ n → (e.asked ≡ 0) × (e.place ≡ Some k)) → ((j : Conn) → IsIn j s.conns → j.number ≡ k → j.is_closing ≡ false)
    → ((j : Conn) → IsIn j s.conns → IsIn n j.line → ⊥) → ((e : Exchange) (j : Conn) → IsIn e s.exchanges → e.number ≡ n → IsIn j s.conns → j.number ≡ k → GoesTo e j) → FactsOf b s → FactsOf b (record s { conns = change (is_conn k) (λ j. record j { line = j.line ++ n ∷ [] }) s.conns })
pushed_facts b n k s given fresh_one open_one no_line goes h = record {
  low = h.low;
  apart = rise_change conn_number (is_conn k) longer (λ j. refl) s.conns h.apart;
  known = λ j i. known_by j (at j i);
  rise = h.rise;
  given = h.given;
  spelled = h.spelled;
  lined = λ j m i l. lined_by j m (at j i) l;
  placed = λ j e i x l. placed_by j e (at j i) x l;
  hosts = λ j e i x l. hosts_by j e (at j i) x l;
  dialled = λ j i. dialled_by j (at j i);
  distinct = λ j i. distinct_by j (at j i);
  closed = λ j i is. closed_by j (at j i) is;
  streams = λ j i isnt on. streams_by j (at j i) isnt on;
  answers = λ j a i is on. answers_by j a (at j i) is on;
  kept = h.kept;
}
  where
    longer : Conn → Conn
    longer j = record j { line = j.line ++ n ∷ [] }

    at : (j : Conn) → IsIn j (change (is_conn k) (λ g. record g { line = g.line ++ n ∷ [] }) s.conns) → Changed (is_conn k) (λ g. record g { line = g.line ++ n ∷ [] }) s.conns j
    at j i = in_change (is_conn k) (λ g. record g { line = g.line ++ n ∷ [] }) j s.conns i

    known_by : (j : Conn) → Changed (is_conn k) (λ g. record g { line = g.line ++ n ∷ [] }) s.conns j → j.number ≤ s.top
    known_by j (same i isnt) = h.known j i
    known_by j (other g i hit eq) = subst (λ (x : Conn). x.number ≤ s.top) (sym eq) (h.known g i)

    in_line : (j g : Conn) (m : ℕ) → j ≡ record g { line = g.line ++ n ∷ [] } → IsIn m j.line → IsIn m g.line ⊎ (m ≡ n)
    in_line j g m eq l = in_push m g.line n (subst (λ (x : Conn). IsIn m x.line) eq l)

    lined_by : (j : Conn) (m : ℕ) → Changed (is_conn k) (λ g. record g { line = g.line ++ n ∷ [] }) s.conns j → IsIn m j.line → m < s.next_exchange
    lined_by j m (same i isnt) l = h.lined j m i l
    lined_by j m (other g i hit eq) l = by (in_line j g m eq l)
      where
        by : IsIn m g.line ⊎ (m ≡ n) → m < s.next_exchange
        by (inl r) = h.lined g m i r
        by (inr e) = subst (λ x. x < s.next_exchange) (sym e) given

    placed_by : (j : Conn) (e : Exchange) → Changed (is_conn k) (λ g. record g { line = g.line ++ n ∷ [] }) s.conns j → IsIn e s.exchanges → IsIn e.number j.line → e.place ≡ Some j.number
    placed_by j e (same i isnt) x l = h.placed j e i x l
    placed_by j e (other g i hit eq) x l = by (in_line j g e.number eq l)
      where
        by : IsIn e.number g.line ⊎ (e.number ≡ n) → e.place ≡ Some j.number
        by (inl r) = h.placed g e i x r ∙ ap (λ m. Some m) (sym (ap conn_number eq))
        by (inr is) = (fresh_one e x is).1 ∙ ap (λ m. Some m) (sym (ap conn_number eq ∙ same_number g.number k hit))

    hosts_by : (j : Conn) (e : Exchange) → Changed (is_conn k) (λ g. record g { line = g.line ++ n ∷ [] }) s.conns j → IsIn e s.exchanges → IsIn e.number j.line → GoesTo e j
    hosts_by j e (same i isnt) x l = h.hosts j e i x l
    hosts_by j e (other g i hit eq) x l = goes_with e j g (ap (λ (y : Conn). y.host) eq) (ap (λ (y : Conn). y.port) eq) (by (in_line j g e.number eq l))
      where
        by : IsIn e.number g.line ⊎ (e.number ≡ n) → GoesTo e g
        by (inl r) = h.hosts g e i x r
        by (inr is) = goes e g x is i (same_number g.number k hit)

    dialled_by : (j : Conn) → Changed (is_conn k) (λ g. record g { line = g.line ++ n ∷ [] }) s.conns j → WasDialled b.log j.number j.host j.port
    dialled_by j (same i isnt) = h.dialled j i
    dialled_by j (other g i hit eq) = subst (λ (x : Conn). WasDialled b.log x.number x.host x.port) (sym eq) (h.dialled g i)

    distinct_by : (j : Conn) → Changed (is_conn k) (λ g. record g { line = g.line ++ n ∷ [] }) s.conns j → AreDistinct j.line
    distinct_by j (same i isnt) = h.distinct j i
    distinct_by j (other g i hit eq) = subst (λ (x : Conn). AreDistinct x.line) (sym eq) (distinct_push n g.line (no_line g i) (h.distinct g i))

    closed_by : (j : Conn) → Changed (is_conn k) (λ g. record g { line = g.line ++ n ∷ [] }) s.conns j → j.is_closing ≡ true → (j.line ≡ []) × (j.answer ≡ None)
    closed_by j (same i isnt) is = h.closed j i is
    closed_by j (other g i hit eq) is =
        let both : false ≡ true = sym (open_one g i (same_number g.number k hit)) ∙ sym (ap (λ (x : Conn). x.is_closing) eq) ∙ is in absurd (cc both)

    streams_by : (j : Conn) → Changed (is_conn k) (λ g. record g { line = g.line ++ n ∷ [] }) s.conns j → j.is_closing ≡ false → (b.gone ≡ Some j.number → ⊥) → Tells b.terms b.log j.number (asked j.number b.log) s.exchanges j.line
    streams_by j (same i isnt) is on = h.streams j i is on
    streams_by j (other g i hit eq) is on = subst (λ (x : Conn). Tells b.terms b.log x.number (asked x.number b.log) s.exchanges x.line) (sym eq) (later (h.streams g i (sym (ap (λ (x : Conn). x.is_closing) eq) ∙ is) (λ e. on (e ∙ ap (λ m. Some m) (sym (ap conn_number eq))))))
      where
        later : Tells b.terms b.log g.number (asked g.number b.log) s.exchanges g.line → Tells b.terms b.log g.number (asked g.number b.log) s.exchanges (g.line ++ n ∷ [])
        later t = record { asks = t.asks; are_whole = t.are_whole; last = t.last; all = t.all; stands = stands_push b.terms b.log g.number s.exchanges t.last g.line n (λ e x e_is. (fresh_one e x e_is).0) t.stands }

    answers_by : (j : Conn) (a : Answer) → Changed (is_conn k) (λ g. record g { line = g.line ++ n ∷ [] }) s.conns j → j.answer ≡ Some a → (b.but ≡ Some j.number → ⊥) → Heads (b.firsts j.number) s.exchanges j
    answers_by j a (same i isnt) is on = h.answers j a i is on
    answers_by j a (other g i hit eq) is on =
        let w = h.answers g a i (sym (ap (λ (x : Conn). x.answer) eq) ∙ is) (λ e. on (e ∙ ap (λ m. Some m) (sym (ap conn_number eq)))) in
        record { number = w.number; expected = ap (λ (x : Conn). b.firsts x.number) eq ∙ w.expected; first = ap (λ (x : Conn). first_of x.line) eq ∙ first_push n w.number g.line w.first; out = w.out }

-- a connection that is new, of which nothing was asked
pub conn_added : (b : Since) (s : State) (k : Conn) → s.top < k.number → k.line ≡ [] → k.answer ≡ None → asked k.number b.log ≡ [] → WasDialled b.log k.number k.host k.port → FactsOf b s → FactsOf b (record s { conns = s.conns ++ k ∷ []; top = k.number })
conn_added b s k above none no_answer silent now h = record {
  low = let a : b.low ≤ s.top = h.low in omega arith;
  apart = rise_push conn_number s.conns k h.apart (λ j i. let le : j.number ≤ s.top = h.known j i in omega arith);
  known = λ j i. known_by j (in_push j s.conns k i);
  rise = h.rise;
  given = h.given;
  spelled = h.spelled;
  lined = λ j m i l. lined_by j m (in_push j s.conns k i) l;
  placed = λ j e i x l. placed_by j e (in_push j s.conns k i) x l;
  hosts = λ j e i x l. hosts_by j e (in_push j s.conns k i) x l;
  dialled = λ j i. dialled_by j (in_push j s.conns k i);
  distinct = λ j i. distinct_by j (in_push j s.conns k i);
  closed = λ j i is. closed_by j (in_push j s.conns k i) is;
  streams = λ j i isnt on. streams_by j (in_push j s.conns k i) isnt on;
  answers = λ j a i is on. answers_by j a (in_push j s.conns k i) is on;
  kept = h.kept;
}
  where
    known_by : (j : Conn) → IsIn j s.conns ⊎ (j ≡ k) → j.number ≤ k.number
    known_by j (inl i) = let le : j.number ≤ s.top = h.known j i in omega arith
    known_by j (inr e) = let is : j.number ≡ k.number = ap conn_number e in omega arith

    not_in : (j : Conn) (m : ℕ) → j ≡ k → IsIn m j.line → ⊥
    not_in j m e l = subst (λ ns. IsIn m ns) (ap (λ (x : Conn). x.line) e ∙ none) l

    lined_by : (j : Conn) (m : ℕ) → IsIn j s.conns ⊎ (j ≡ k) → IsIn m j.line → m < s.next_exchange
    lined_by j m (inl i) l = h.lined j m i l
    lined_by j m (inr e) l = absurd (not_in j m e l)

    placed_by : (j : Conn) (e : Exchange) → IsIn j s.conns ⊎ (j ≡ k) → IsIn e s.exchanges → IsIn e.number j.line → e.place ≡ Some j.number
    placed_by j e (inl i) x l = h.placed j e i x l
    placed_by j e (inr is) x l = absurd (not_in j e.number is l)

    hosts_by : (j : Conn) (e : Exchange) → IsIn j s.conns ⊎ (j ≡ k) → IsIn e s.exchanges → IsIn e.number j.line → GoesTo e j
    hosts_by j e (inl i) x l = h.hosts j e i x l
    hosts_by j e (inr is) x l = absurd (not_in j e.number is l)

    dialled_by : (j : Conn) → IsIn j s.conns ⊎ (j ≡ k) → WasDialled b.log j.number j.host j.port
    dialled_by j (inl i) = h.dialled j i
    dialled_by j (inr is) = subst (λ (x : Conn). WasDialled b.log x.number x.host x.port) (sym is) now

    distinct_by : (j : Conn) → IsIn j s.conns ⊎ (j ≡ k) → AreDistinct j.line
    distinct_by j (inl i) = h.distinct j i
    distinct_by j (inr e) = subst AreDistinct (sym (ap (λ (x : Conn). x.line) e ∙ none)) tt

    closed_by : (j : Conn) → IsIn j s.conns ⊎ (j ≡ k) → j.is_closing ≡ true → (j.line ≡ []) × (j.answer ≡ None)
    closed_by j (inl i) is = h.closed j i is
    closed_by j (inr e) is = (ap (λ (x : Conn). x.line) e ∙ none, ap (λ (x : Conn). x.answer) e ∙ no_answer)

    streams_by : (j : Conn) → IsIn j s.conns ⊎ (j ≡ k) → j.is_closing ≡ false → (b.gone ≡ Some j.number → ⊥) → Tells b.terms b.log j.number (asked j.number b.log) s.exchanges j.line
    streams_by j (inl i) isnt on = h.streams j i isnt on
    streams_by j (inr e) isnt on = subst (λ (x : Conn). Tells b.terms b.log x.number (asked x.number b.log) s.exchanges x.line) (sym e) (record {
      asks = [];
      are_whole = tt;
      last = [];
      all = silent;
      stands = fresh_stands b.terms b.log k.number s.exchanges [] k.line refl (λ m d l i is. absurd (subst (λ ns. IsIn m ns) none l));
    })

    answers_by : (j : Conn) (a : Answer) → IsIn j s.conns ⊎ (j ≡ k) → j.answer ≡ Some a → (b.but ≡ Some j.number → ⊥) → Heads (b.firsts j.number) s.exchanges j
    answers_by j a (inl i) is on = h.answers j a i is on
    answers_by j a (inr e) is on = let both : None ≡ Some a = sym (ap (λ (x : Conn). x.answer) e ∙ no_answer) ∙ is in absurd (cc both)

-- ---- a state with the same

pub still : {b : Since} {o s : State} → Same o s → Lined b o → Lined b s
still {b} {o} {s} same_ h = lined (carry p.exchanges_same p.next_same p.conns_same p.top_same (facts_of h))
  where
    p : PartsOf o s
    p = parts_of same_

    carry : {xs ys : List Exchange} {m n : ℕ} {ks js : List Conn} {t u : ℕ} → ys ≡ xs → n ≡ m → js ≡ ks → u ≡ t → Facts b xs m ks t → Facts b ys n js u
    carry {xs} {ys} {m} {n} {ks} {js} {t} {u} one two three four f =
        subst (λ w. Facts b ys n js w) (sym four) (subst (λ w. Facts b ys n w t) (sym three) (subst (λ w. Facts b ys w ks t) (sym two) (subst (λ w. Facts b w m ks t) (sym one) f)))

-- ---- what is not looked at

-- all is looked at
pub record IsPlain (b : Since) : Type 0 where
  pub gone : b.gone ≡ None
  pub but : b.but ≡ None
  pub kept : b.kept ≡ None

never_none : {A : Type 0} {x : A} (o : Option A) → o ≡ None → o ≡ Some x → ⊥
never_none {A} {x} o none some = let both : None ≡ Some x = sym none ∙ some in cc both

-- neither a line nor its answer
abbrev pub set_apart : Since → ℕ → Since
set_apart b n = record b { gone = Some n; but = Some n; kept = None }

-- not the answer of a line, while nothing is asked of this exchange
abbrev pub watching : Since → ℕ → Exchange → Since
watching b n e = record b { gone = None; but = Some n; kept = Some e }

facts_so : (b c : Since) (s : State) → c.terms ≡ b.terms → c.log ≡ b.log → c.low ≡ b.low → ((k : Conn) → IsIn k s.conns → k.is_closing ≡ false → (c.gone ≡ Some k.number → ⊥) → Tells b.terms b.log k.number (asked k.number b.log) s.exchanges k.line)
    → ((k : Conn) (a : Answer) → IsIn k s.conns → k.answer ≡ Some a → (c.but ≡ Some k.number → ⊥) → Heads (c.firsts k.number) s.exchanges k) → ((w x : Exchange) → c.kept ≡ Some w → IsIn x s.exchanges → x.number ≡ w.number → SameLeft x w) → FactsOf b s → FactsOf c s
facts_so b c s terms log low streams answers kept f = record {
  low = subst (λ n. n ≤ s.top) (sym low) f.low;
  apart = f.apart;
  known = f.known;
  rise = f.rise;
  given = f.given;
  spelled = f.spelled;
  lined = f.lined;
  placed = f.placed;
  hosts = f.hosts;
  dialled = λ k i. subst (λ l. WasDialled l k.number k.host k.port) (sym log) (f.dialled k i);
  distinct = f.distinct;
  closed = f.closed;
  streams = λ k i isnt on. subst (λ t. Tells t c.log k.number (asked k.number c.log) s.exchanges k.line) (sym terms) (subst (λ l. Tells b.terms l k.number (asked k.number l) s.exchanges k.line) (sym log) (streams k i isnt on));
  answers = answers;
  kept = kept;
}

pub apart : {b : Since} (n : ℕ) (s : State) → IsPlain b → Lined b s → Lined (set_apart b n) s
apart {b} n s p h =
    lined (facts_so b (set_apart b n) s refl refl refl (λ k i isnt on. (facts_of h).streams k i isnt (never_none b.gone p.gone)) (λ k a i is on. (facts_of h).answers k a i is (never_none b.but p.but)) (λ w x is i at. absurd (cc is)) (facts_of h))

-- of what is closed nothing is to be looked at
pub together : {b : Since} (n : ℕ) (s : State) → IsPlain b → ((k : Conn) → IsIn k s.conns → k.number ≡ n → k.is_closing ≡ true) → Lined (set_apart b n) s → Lined b s
together {b} n s p shut h =
    lined (facts_so (set_apart b n) b s refl refl refl
    (λ k i isnt on. f.streams k i isnt (λ is. let eq : n ≡ k.number = cc in let both : true ≡ false = sym (shut k i (sym eq)) ∙ isnt in cc both))
    (λ k a i is on. f.answers k a i is (λ e. let eq : n ≡ k.number = cc in let both : None ≡ Some a = sym (f.closed k i (shut k i (sym eq))).1 ∙ is in cc both))
    (λ w x is i at. absurd (never_none b.kept p.kept is)) f)
  where
    f : FactsOf (set_apart b n) s
    f = facts_of h

pub watched : {b : Since} (n : ℕ) (e : Exchange) (s : State) → IsPlain b → IsIn e s.exchanges → Lined b s → Lined (watching b n e) s
watched {b} n e s p there h =
    lined (facts_so b (watching b n e) s refl refl refl (λ k i isnt on. f.streams k i isnt (never_none b.gone p.gone)) (λ k a i is on. f.answers k a i is (never_none b.but p.but)) kept f)
  where
    f : FactsOf b s
    f = facts_of h

    kept : (w x : Exchange) → Some e ≡ Some w → IsIn x s.exchanges → x.number ≡ w.number → SameLeft x w
    kept w x is i at =
        let one : e ≡ w = cc in
        let it : x ≡ w = one_of exchange_number s.exchanges x w f.rise i (subst (λ (y : Exchange). IsIn y s.exchanges) one there) at in
        record { asked = ap (λ (y : Exchange). y.asked) it; left = ap (λ (y : Exchange). y.body_left) it; text = ap (λ (y : Exchange). y.text) it }

-- where it has no answer any more, or one of the first of its line
pub unwatched : {b : Since} (n : ℕ) (e : Exchange) (s : State) → IsPlain b → ((k : Conn) (a : Answer) → IsIn k s.conns → k.number ≡ n → k.answer ≡ Some a → Heads (b.firsts k.number) s.exchanges k) → Lined (watching b n e) s → Lined b s
unwatched {b} n e s p heads h =
    lined (facts_so (watching b n e) b s refl refl refl (λ k i isnt on. f.streams k i isnt (λ is. cc is)) (λ k a i is on. by k a i is (k.number == n) refl) (λ w x is i at. absurd (never_none b.kept p.kept is)) f)
  where
    f : FactsOf (watching b n e) s
    f = facts_of h

    by : (k : Conn) (a : Answer) → IsIn k s.conns → k.answer ≡ Some a → (t : Bool) → (k.number == n) ≡ t → Heads (b.firsts k.number) s.exchanges k
    by k a i is true hit = heads k a i (same_number k.number n hit) is
    by k a i is false isnt = f.answers k a i is (λ e2. let eq : n ≡ k.number = cc in let both : true ≡ false = sym (number_same n) ∙ ap (λ m. m == n) eq ∙ isnt in cc both)

pub watched_apart : (b : Since) (n : ℕ) (e : Exchange) (s : State) → Lined (watching b n e) s → Lined (set_apart b n) s
watched_apart b n e s h = lined (facts_so (watching b n e) (set_apart b n) s refl refl refl (λ k i isnt on. (facts_of h).streams k i isnt (λ is. cc is)) (facts_of h).answers (λ w x is i at. absurd (cc is)) (facts_of h))

-- ---- whose response comes on a connection

abbrev pub naming : Since → ℕ → Option ℕ → Since
naming b n to = record b { firsts = λ m. elim (m == n) [ true ↦ to | false ↦ b.firsts m ] }

pub plain_named : {b : Since} (n : ℕ) (to : Option ℕ) → IsPlain b → IsPlain (naming b n to)
plain_named n to p = record { gone = p.gone; but = p.but; kept = p.kept }

pub named_here : (b : Since) (n : ℕ) (to : Option ℕ) → (naming b n to).firsts n ≡ to
named_here b n to = ap (λ (t : Bool). elim t as (λ c. Option ℕ) [ true ↦ to | false ↦ b.firsts n ]) (number_same n)

-- of one that is not answered
pub renamed : {b : Since} (n : ℕ) (to : Option ℕ) (s : State) → IsPlain b → ((k : Conn) (a : Answer) → IsIn k s.conns → k.number ≡ n → k.answer ≡ Some a → ⊥) → Lined b s → Lined (naming b n to) s
renamed {b} n to s p none h =
    lined (facts_so b (naming b n to) s refl refl refl (λ k i isnt on. (facts_of h).streams k i isnt (never_none b.gone p.gone)) (λ k a i is on. by k a i is (k.number == n) refl) (λ w x is. absurd (never_none b.kept p.kept is)) (facts_of h))
  where
    by : (k : Conn) (a : Answer) → IsIn k s.conns → k.answer ≡ Some a → (t : Bool) → (k.number == n) ≡ t → Heads ((naming b n to).firsts k.number) s.exchanges k
    by k a i is true hit = absurd (none k a i (same_number k.number n hit) is)
    by k a i is false isnt =
        let w = (facts_of h).answers k a i is (never_none b.but p.but) in
        record { number = w.number; expected = ap (λ (t : Bool). elim t as (λ c. Option ℕ) [ true ↦ to | false ↦ b.firsts k.number ]) isnt ∙ w.expected; first = w.first; out = w.out }

-- with other words on whose response it is
pub record Renamed (b : Since) (s : State) : Type 0 where
  pub firsts : ℕ → Option ℕ
  pub lines : Lined (record b { firsts = firsts }) s

pub same_names : {b : Since} (s : State) → IsPlain b → Lined b s → Lined (record b { firsts = b.firsts }) s
same_names {b} s p h =
    lined (facts_so b (record b { firsts = b.firsts }) s refl refl refl (λ k i isnt on. (facts_of h).streams k i isnt (never_none b.gone p.gone)) (λ k a i is on. (facts_of h).answers k a i is (never_none b.but p.but)) (λ w x is. absurd (never_none b.kept p.kept is)) (facts_of h))

pub as_named : {b : Since} (s : State) → IsPlain b → Lined b s → Renamed b s
as_named {b} s p h = record { firsts = b.firsts; lines = same_names s p h }
