-- What holds of whose an exchange is, as connections and exchanges change: a line, an answer, and an exchange that is over.
use Rattle.std.proofs.Common.{◌≡◌, refl, ℕ, ◌==◌, Bool, true, false, not, List, [], ◌∷◌, map, filter, cond, Option, Some, None, sym, subst, ap, ◌∙◌}
use Rattle.pp_law.specs.Connections.{is_conn, is_exchange, without_ask}
use Rattle.pp_law.specs.Lists.{change}
use Rattle.pp_law.specs.Stages.{is_headed}
use Rattle.pp_law.specs.State.{Answer, Client, Conn, Exchange}
use Rattle.pp_laws.specs.Runs.{IsIn}
use Rattle.pp_laws.proofs.Lists.{Changed, From, changed_at, in_change, in_filter, in_map, other, same}
use Rattle.pp_laws.proofs.Shrinks.{off}
use Rattle.pp_laws.proofs.Sound.{first_of}
use Rattle.pp_laws.proofs.Tests.{number_same, same_number}
use Rattle.pp_laws_left.proofs.Owned.{Answered, But, Facts, AreFree, no_test, asks_over}

-- ---- connections

pub record KeptConn (j k : Conn) : Type 0 where
  pub number : j.number ≡ k.number
  pub line : j.line ≡ k.line
  pub some : (a : Answer) → j.answer ≡ Some a → (b : Answer) × (k.answer ≡ Some b)
  pub none : j.answer ≡ None → k.answer ≡ None

pub conn_same : (j k : Conn) → j.number ≡ k.number → j.line ≡ k.line → j.answer ≡ k.answer → KeptConn j k
conn_same j k number line answer = record { number = number; line = line; some = λ a is. (a, sym answer ∙ is); none = λ is. sym answer ∙ is }

pub conns_kept : {but : But} {At : Type 0} {cs : List Client} {es : List Exchange} {ks : List Conn} {next : ℕ} (f : Conn → Conn) → ((k : Conn) → IsIn k ks → KeptConn (f k) k) → Facts but At cs es ks next → Facts but At cs es (map f ks) next
conns_kept {but} {At} {cs} {es} {ks} f kept h = record {
  callers = h.callers;
  apart = h.apart;
  given = h.given;
  one = h.one;
  plain = h.plain;
  fills = h.fills;
  kinds = h.kinds;
  asks = h.asks;
  amid = h.amid;
  lined = λ j m l line. (let r = in_map f j ks l in h.lined r.was m r.there (subst (λ ns. IsIn m ns) (ap (λ (x : Conn). x.line) r.is ∙ (kept r.was r.there).line) line));
  conns = λ j g l m eq. (let r = in_map f j ks l in let q = in_map f g ks m in r.is ∙ ap f (h.conns r.was q.was r.there q.there (sym (sideways j r (kept r.was r.there)) ∙ eq ∙ sideways g q (kept q.was q.there))) ∙ sym q.is);
  own = λ j g e l m i jl gl. (let r = in_map f j ks l in let q = in_map f g ks m in
      sideways j r (kept r.was r.there) ∙ h.own r.was q.was e r.there q.there i (subst (λ ns. IsIn e.number ns) (ap (λ (x : Conn). x.line) r.is ∙ (kept r.was r.there).line) jl) (subst (λ ns. IsIn e.number ns) (ap (λ (x : Conn). x.line) q.is ∙ (kept q.was q.there).line) gl) ∙ sym (sideways g q (kept q.was q.there)));
  placed = λ j e l i line none. (let r = in_map f j ks l in h.placed r.was e r.there i (subst (λ ns. IsIn e.number ns) (ap (λ (x : Conn). x.line) r.is ∙ (kept r.was r.there).line) line) none);
  front = λ j a l isnt is. (let r = in_map f j ks l in
      let k = kept r.was r.there in
      let b = k.some a (ap (λ (x : Conn). x.answer) (sym r.is) ∙ is) in
      let w = h.front r.was b.0 r.there (λ eq. isnt (eq ∙ ap (λ n. Some n) (sym (ap (λ (x : Conn). x.number) r.is ∙ k.number)))) b.1 in
      record { number = w.number; first = ap first_of (ap (λ (x : Conn). x.line) r.is ∙ k.line) ∙ w.first; headed = w.headed });
  behind = λ j e l i line headed. (let r = in_map f j ks l in
      let k = kept r.was r.there in
      let same_line : j.line ≡ r.was.line = ap (λ (x : Conn). x.line) r.is ∙ k.line in
      let w = h.behind r.was e r.there i (subst (λ ns. IsIn e.number ns) same_line line) headed in
      (ap first_of same_line ∙ w.0, λ none. w.1 (k.none (ap (λ (x : Conn). x.answer) (sym r.is) ∙ none))));
}
  where
    sideways : (j : Conn) → (r : From f ks j) → KeptConn (f r.was) r.was → j.number ≡ r.was.number
    sideways j r k = ap (λ (x : Conn). x.number) r.is ∙ k.number

pub conn_if : (f : Conn → Conn) (k : Conn) (t : Bool) → (t ≡ true → KeptConn (f k) k) → KeptConn (elim t as (λ x. Conn) [ true ↦ f k | false ↦ k ]) k
conn_if f k true kept = kept refl
conn_if f k false kept = conn_same k k refl refl refl

pub conns_changed : {but : But} {At : Type 0} {cs : List Client} {es : List Exchange} {ks : List Conn} {next : ℕ} (test : Conn → Bool) (f : Conn → Conn) → ((k : Conn) → IsIn k ks → test k ≡ true → KeptConn (f k) k) → Facts but At cs es ks next → Facts but At cs es (change test f ks) next
conns_changed test f kept h = conns_kept (changed_at test f) (λ k i. conn_if f k (test k) (λ hit. kept k i hit)) h

record Lesser (ks : List Conn) (j : Conn) : Type 0 where
  was : Conn
  there : IsIn was ks
  number : j.number ≡ was.number
  line : (m : ℕ) → IsIn m j.line → IsIn m was.line

-- those of one number have no more in their lines
pub conns_with : {but : But} {At : Type 0} {cs : List Client} {es : List Exchange} {ks : List Conn} {next : ℕ} (conn : Option ℕ) (n : ℕ) (f : Conn → Conn) → ((k : Conn) → (f k).number ≡ k.number) → ((k : Conn) (m : ℕ) → IsIn m (f k).line → IsIn m k.line)
    → ((j : Conn) (a : Answer) → (conn ≡ Some j.number → ⊥) → j.answer ≡ Some a → Changed (is_conn n) f ks j → Answered es j)
    → ((j : Conn) (e : Exchange) → IsIn e es → IsIn e.number j.line → is_headed e ≡ true → Changed (is_conn n) f ks j → (first_of j.line ≡ Some e.number) × (j.answer ≡ None → ⊥)) → Facts but At cs es ks next
    → Facts (record but { conn = conn }) At cs es (change (is_conn n) f ks) next
conns_with {but} {At} {cs} {es} {ks} conn n f number within front behind h = record {
  callers = h.callers;
  apart = h.apart;
  given = h.given;
  one = h.one;
  plain = h.plain;
  fills = h.fills;
  kinds = h.kinds;
  asks = h.asks;
  amid = h.amid;
  lined = λ j m l line. (let r = back j (in_change (is_conn n) f j ks l) in h.lined r.was m r.there (r.line m line));
  conns = λ j g l m eq. apart_by j g l m eq;
  own = λ j g e l m i jl gl. (let r = back j (in_change (is_conn n) f j ks l) in let q = back g (in_change (is_conn n) f g ks m) in r.number ∙ h.own r.was q.was e r.there q.there i (r.line e.number jl) (q.line e.number gl) ∙ sym q.number);
  placed = λ j e l i line none_. (let r = back j (in_change (is_conn n) f j ks l) in h.placed r.was e r.there i (r.line e.number line) none_);
  front = λ j a l isnt is. front j a isnt is (in_change (is_conn n) f j ks l);
  behind = λ j e l i line headed. behind j e i line headed (in_change (is_conn n) f j ks l);
}
  where
    made : (k : Conn) (t : Bool) → (elim t as (λ x. Conn) [ true ↦ f k | false ↦ k ]).number ≡ k.number
    made k true = number k
    made k false = refl

    apart_by : (j g : Conn) → IsIn j (change (is_conn n) f ks) → IsIn g (change (is_conn n) f ks) → j.number ≡ g.number → j ≡ g
    apart_by j g l m eq =
        let r = in_map (changed_at (is_conn n) f) j ks l in
        let q = in_map (changed_at (is_conn n) f) g ks m in
        r.is ∙ ap (changed_at (is_conn n) f) (h.conns r.was q.was r.there q.there (sym (made r.was (is_conn n r.was)) ∙ ap (λ (x : Conn). x.number) (sym r.is) ∙ eq ∙ ap (λ (x : Conn). x.number) q.is ∙ made q.was (is_conn n q.was))) ∙ sym q.is

    back : (j : Conn) → Changed (is_conn n) f ks j → Lesser ks j
    back j (same l isnt) = record { was = j; there = l; number = refl; line = λ m line. line }
    back j (other k l hit eq) = record { was = k; there = l; number = ap (λ (x : Conn). x.number) eq ∙ number k; line = λ m line. within k m (subst (λ (x : Conn). IsIn m x.line) eq line) }

-- those of one number are made so that they answer nobody; none that has its head is left in their lines
pub conns_quiet : {but : But} {At : Type 0} {cs : List Client} {es : List Exchange} {ks : List Conn} {next : ℕ} (n : ℕ) (f : Conn → Conn) → ((k : Conn) → ((f k).number ≡ k.number) × ((f k).answer ≡ None)) → ((k : Conn) (m : ℕ) → IsIn m (f k).line → IsIn m k.line)
    → ((k : Conn) (e : Exchange) → IsIn k ks → k.number ≡ n → IsIn e es → IsIn e.number (f k).line → is_headed e ≡ true → ⊥) → ((m : ℕ) → but.conn ≡ Some m → m ≡ n) → Facts but At cs es ks next
    → Facts (record but { conn = None }) At cs es (change (is_conn n) f ks) next
conns_quiet {but} {At} {cs} {es} {ks} n f quiet within none only h = conns_with None n f (λ k. (quiet k).0) within front_by behind_by h
  where
    front_by : (j : Conn) (a : Answer) → (None ≡ Some j.number → ⊥) → j.answer ≡ Some a → Changed (is_conn n) f ks j → Answered es j
    front_by j a isnt is (same l off_) = h.front j a l (λ eq. let number : j.number ≡ n = only j.number eq in let both : true ≡ false = sym (ap (λ m. m == n) number ∙ number_same n) ∙ off_ in cc both) is
    front_by j a isnt is (other k l hit eq) = let both : None ≡ Some a = sym (ap (λ (x : Conn). x.answer) eq ∙ (quiet k).1) ∙ is in absurd (cc both)

    behind_by : (j : Conn) (e : Exchange) → IsIn e es → IsIn e.number j.line → is_headed e ≡ true → Changed (is_conn n) f ks j → (first_of j.line ≡ Some e.number) × (j.answer ≡ None → ⊥)
    behind_by j e i line headed (same l isnt) = h.behind j e l i line headed
    behind_by j e i line headed (other k l hit eq) = absurd (none k e l (same_number k.number n hit) i (subst (λ (x : Conn). IsIn e.number x.line) eq line) headed)

pub conns_off : {but : But} {At : Type 0} {cs : List Client} {es : List Exchange} {ks : List Conn} {next : ℕ} (n : ℕ) → ((m : ℕ) → but.conn ≡ Some m → m ≡ n) → Facts but At cs es ks next → Facts (record but { conn = None }) At cs es (change (is_conn n) off ks) next
conns_off n only h = conns_quiet n off (λ k. (refl, refl)) (λ k m line. absurd line) (λ k e l number i line headed. line) only h

-- ---- an exchange is over

first_left : (n m : ℕ) (line : List ℕ) → first_of line ≡ Some m → (m == n) ≡ false → first_of (filter (λ x. not (x == n)) line) ≡ Some m
first_left n m [] first isnt = absurd (cc first)
first_left n m (x ∷ line) first isnt =
    let eq : x ≡ m = cc first in
    ap (λ t. first_of (cond t (x ∷ filter (λ y. not (y == n)) line) (filter (λ y. not (y == n)) line))) (ap (λ y. not (y == n)) eq ∙ ap not isnt) ∙ first

pub ask_ended : {but : But} {At : Type 0} {cs : List Client} {es : List Exchange} {ks : List Conn} {next : ℕ} (n : ℕ) → AreFree but (is_exchange n) cs es → ((k : Conn) (a : Answer) → IsIn k ks → (but.conn ≡ Some k.number → ⊥) → k.answer ≡ Some a → first_of k.line ≡ Some n → ⊥) → Facts but At cs es ks next
    → Facts but At cs (filter (λ e. not (is_exchange n e)) es) (map (without_ask n) ks) next
ask_ended {but} {At} {cs} {es} {ks} {next} n free unanswered h = record {
  callers = g.callers;
  apart = g.apart;
  given = g.given;
  one = g.one;
  plain = g.plain;
  fills = g.fills;
  kinds = g.kinds;
  asks = g.asks;
  amid = g.amid;
  lined = λ j m l line. (let r = in_map (without_ask n) j ks l in g.lined r.was m r.there (in_filter (λ x. not (x == n)) m r.was.line (subst (λ (x : Conn). IsIn m x.line) r.is line)).0);
  conns = λ j o l m eq. (let r = in_map (without_ask n) j ks l in let q = in_map (without_ask n) o ks m in r.is ∙ ap (without_ask n) (g.conns r.was q.was r.there q.there (ap (λ (x : Conn). x.number) (sym r.is) ∙ eq ∙ ap (λ (x : Conn). x.number) q.is)) ∙ sym q.is);
  own = λ j o e l m i jl gl. (let r = in_map (without_ask n) j ks l in let q = in_map (without_ask n) o ks m in
      ap (λ (x : Conn). x.number) r.is ∙ g.own r.was q.was e r.there q.there i (fewer e j r jl) (fewer e o q gl) ∙ sym (ap (λ (x : Conn). x.number) q.is));
  placed = λ j e l i line none. (let r = in_map (without_ask n) j ks l in g.placed r.was e r.there i (fewer e j r line) none);
  front = λ j a l isnt is. (let r = in_map (without_ask n) j ks l in
      let number : j.number ≡ r.was.number = ap (λ (x : Conn). x.number) r.is in
      let off_ : but.conn ≡ Some r.was.number → ⊥ = λ eq. isnt (eq ∙ ap (λ m. Some m) (sym number)) in
      let answer : r.was.answer ≡ Some a = ap (λ (x : Conn). x.answer) (sym r.is) ∙ is in
      let w = g.front r.was a r.there off_ answer in
      record {
        number = w.number;
        first = ap (λ (x : Conn). first_of x.line) r.is ∙ first_left n w.number r.was.line w.first (no_test (w.number == n) (λ hit. unanswered r.was a r.there off_ answer (w.first ∙ ap (λ m. Some m) (same_number w.number n hit))));
        headed = w.headed;
      });
  behind = λ j e l i line headed. (let r = in_map (without_ask n) j ks l in
      let there : IsIn e.number r.was.line = fewer e j r line in
      let isnt : (e.number == n) ≡ false = unhit e (in_filter (λ x. not (is_exchange n x)) e es i).1 in
      let w = g.behind r.was e r.there i there headed in
      (ap (λ (x : Conn). first_of x.line) r.is ∙ first_left n e.number r.was.line w.0 isnt, λ none. w.1 (ap (λ (x : Conn). x.answer) (sym r.is) ∙ none)));
}
  where
    g : Facts but At cs (filter (λ e. not (is_exchange n e)) es) ks next
    g = asks_over (is_exchange n) free h

    fewer : (e : Exchange) (j : Conn) → (r : From (without_ask n) ks j) → IsIn e.number j.line → IsIn e.number r.was.line
    fewer e j r line = (in_filter (λ m. not (m == n)) e.number r.was.line (subst (λ (x : Conn). IsIn e.number x.line) r.is line)).0

    unhit : (e : Exchange) → not (e.number == n) ≡ true → (e.number == n) ≡ false
    unhit e is = no_test (e.number == n) (λ hit. let both : false ≡ true = ap not (sym hit) ∙ is in cc both)
