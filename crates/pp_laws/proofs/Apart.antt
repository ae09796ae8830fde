-- An exchange is looked at apart while it is bound anew, and is looked at again behind that.
use Rattle.std.proofs.Common.{◌≡◌, refl, ℕ, ◌<◌, ◌≤◌, Bool, true, false, not, ◌==◌, Option, Some, None, sym, subst, ap, ◌∙◌}
use Rattle.pp_law.specs.Connections.{is_conn, is_exchange, end_exchange}
use Rattle.pp_law.specs.Lists.{change}
use Rattle.pp_law.specs.Stages.{bound_of}
use Rattle.pp_law.specs.State.{State, Answer, Bound, Conn, Exchange}
use Rattle.pp_laws.specs.Runs.{IsIn}
use Rattle.pp_laws.proofs.Binding.{Behind}
use Rattle.pp_laws.proofs.Lists.{Changed, in_change, in_filter, one_of, other, rise_change, same}
use Rattle.pp_laws.proofs.Shrinks.{Shrinks}
use Rattle.pp_laws.proofs.Sound.{Brings, FactsOf, Since, Sound, conn_number, facts_of, first_of, sound}
use Rattle.pp_laws.proofs.Tests.{number_same, same_number}
use Rattle.pp_laws.proofs.Untouched.{Untouched}

-- ---- one exchange is looked at apart

abbrev pub but : Since → ℕ → Since
but b n = record b { excepts = Some n }

pub never_none : (n : ℕ) (o : Option ℕ) → o ≡ None → o ≡ Some n → ⊥
never_none n o none some = let both : None ≡ Some n = sym none ∙ some in cc both

pub set_apart : {b : Since} (n : ℕ) (s : State) → b.excepts ≡ None → Sound b s → Sound (but b n) s
set_apart {b} n s none h = sound (record {
  grew = (facts_of h).grew;
  lines = (facts_of h).lines;
  asks = (facts_of h).asks;
  rows = (facts_of h).rows;
  placed = (facts_of h).placed;
  brings = λ k e to i j l is other_one. (facts_of h).brings k e to i j l is (never_none e.number b.excepts none);
  keyed = (facts_of h).keyed;
  callers = (facts_of h).callers;
  held = (facts_of h).held;
})

-- it is looked at again, where it is bound as its answer tells
pub set_back : {b : Since} (n : ℕ) (s : State) → ((k : Conn) (d : Exchange) (to : Bound) → IsIn k s.conns → IsIn d s.exchanges → d.number ≡ n → IsIn d.number k.line → bound_of d ≡ Some to → Brings s.instances k d to)
    → Sound (but b n) s → Sound b s
set_back {b} n s brings h = sound (record {
  grew = (facts_of h).grew;
  lines = (facts_of h).lines;
  asks = (facts_of h).asks;
  rows = (facts_of h).rows;
  placed = (facts_of h).placed;
  brings = λ k e to i j l is isnt. by k e to i j l is (n == e.number) refl;
  keyed = (facts_of h).keyed;
  callers = (facts_of h).callers;
  held = (facts_of h).held;
})
  where
    apart : (m : ℕ) → (n == m) ≡ false → ¬ (Some n ≡ Some m)
    apart m isnt is = let e : n ≡ m = cc in let both : true ≡ false = sym (number_same n) ∙ ap (λ x. n == x) e ∙ isnt in cc both

    by : (k : Conn) (e : Exchange) (to : Bound) → IsIn k s.conns → IsIn e s.exchanges → IsIn e.number k.line → bound_of e ≡ Some to → (t : Bool) → (n == e.number) ≡ t → Brings s.instances k e to
    by k e to i j l is true hit = brings k e to i j (sym (same_number n e.number hit)) l is
    by k e to i j l is false isnt = (facts_of h).brings k e to i j l is (apart e.number isnt)

-- nothing that is there has this number
abbrev pub IsGone : ℕ → State → Type 0
IsGone n s = (d : Exchange) → IsIn d s.exchanges → ¬ (d.number ≡ n)

pub set_back_gone : {b : Since} (n : ℕ) (s : State) → IsGone n s → Sound (but b n) s → Sound b s
set_back_gone n s gone h = set_back n s (λ k d to i j is l bound. absurd (gone d j is)) h

pub gone_shrunk : (n : ℕ) (s t : State) → Shrinks s t → IsGone n s → IsGone n t
gone_shrunk n s t shrinks gone d i is = let f = shrinks.exchanges d i in gone f.0 f.1 (sym f.2 ∙ is)

pub end_exchange-gone : (n : ℕ) (s : State) → IsGone n (end_exchange n s)
unfolding end_exchange
end_exchange-gone n s d i is = let passes = (in_filter (λ e. not (is_exchange n e)) d s.exchanges i).1 in let both : false ≡ true = ap not (sym (ap (λ x. x == n) is ∙ number_same n)) ∙ passes in cc both

-- ---- the first of a line

-- on that connection all but this exchange are not bound
abbrev pub OthersUnbound : ℕ → ℕ → State → Type 0
OthersUnbound n m s = (k : Conn) (d : Exchange) → IsIn k s.conns → k.number ≡ n → IsIn d s.exchanges → IsIn d.number k.line → ¬ (d.number ≡ m) → bound_of d ≡ None

pub bound_by : (bound : Option Bound) → ((to : Bound) → bound ≡ Some to → ⊥) → bound ≡ None
bound_by None never = refl
bound_by (Some to) never = absurd (never to refl)

pub others_unbound : {b : Since} (k : Conn) (m : ℕ) (s : State) → b.excepts ≡ None → IsIn k s.conns → first_of k.line ≡ Some m → Sound b s → OthersUnbound k.number m s
others_unbound {b} k m s none there first h j d i number at l apart = bound_by (bound_of d) never
  where
    facts : FactsOf b s
    facts = facts_of h

    j_is : j ≡ k
    j_is = one_of conn_number s.conns j k facts.lines.rise i there number

    never : (to : Bound) → bound_of d ≡ Some to → ⊥
    never to is =
        let w = facts.brings j d to i at l is (never_none d.number b.excepts none) in
        let both : Some d.number ≡ Some m = sym w.front ∙ ap (λ (x : Conn). first_of x.line) j_is ∙ first in
        let e : d.number ≡ m = cc in apart e

pub others_behind : {b : Since} {a : Answer} {e : Exchange} (n : ℕ) (s t : State) → Behind b a e s t → OthersUnbound n e.number s → OthersUnbound n e.number t
others_behind {b} {a} {e} n s t p others k d i number j l apart =
    let f = p.others d j in
    f.3 apart ∙ others k f.0 (subst (λ ks. IsIn k ks) p.conns i) number f.1 (subst (λ m. IsIn m k.line) f.2 l) (λ is. apart (f.2 ∙ is))

pub others_untouched : (n m : ℕ) (s t : State) → Untouched s t → OthersUnbound n m s → OthersUnbound n m t
others_untouched n m s t u others k d i number j l apart = others k d (subst (λ ks. IsIn k ks) u.conns i) number (subst (λ es. IsIn d es) u.exchanges j) l apart

-- the connection has this answer now
pub answered : (b : Since) (s : State) (n : ℕ) (f : Conn → Conn) → ((k : Conn) → (f k).number ≡ k.number) → ((k : Conn) → (f k).line ≡ k.line)
    → ((k : Conn) (d : Exchange) → IsIn k s.conns → k.number ≡ n → IsIn d s.exchanges → IsIn d.number k.line → ¬ (b.excepts ≡ Some d.number) → bound_of d ≡ None)
    → FactsOf b s → FactsOf b (record s { conns = change (is_conn n) f s.conns })
answered b s n f number line unbound h = record {
  grew = h.grew;
  lines = record {
    rise = rise_change conn_number (is_conn n) f number s.conns h.lines.rise;
    given = λ k i. given_by k (at k i);
    asked = λ k m i l. asked_by k m (at k i) l;
  };
  asks = h.asks;
  rows = h.rows;
  placed = λ k e i j l. placed_by k e (at k i) j l;
  brings = λ k e to i j l is apart. brings_by k e to (at k i) j l is apart;
  keyed = h.keyed;
  callers = h.callers;
  held = h.held;
}
  where
    at : (k : Conn) → IsIn k (change (is_conn n) f s.conns) → Changed (is_conn n) f s.conns k
    at k i = in_change (is_conn n) f k s.conns i

    in_line : (k j : Conn) (m : ℕ) → k ≡ f j → IsIn m k.line → IsIn m j.line
    in_line k j m eq l = subst (λ ms. IsIn m ms) (ap (λ (x : Conn). x.line) eq ∙ line j) l

    given_by : (k : Conn) → Changed (is_conn n) f s.conns k → k.number ≤ s.top
    given_by k (same i isnt) = h.lines.given k i
    given_by k (other j i hit eq) = subst (λ m. m ≤ s.top) (sym (ap conn_number eq ∙ number j)) (h.lines.given j i)

    asked_by : (k : Conn) (m : ℕ) → Changed (is_conn n) f s.conns k → IsIn m k.line → m < s.next_exchange
    asked_by k m (same i isnt) l = h.lines.asked k m i l
    asked_by k m (other j i hit eq) l = h.lines.asked j m i (in_line k j m eq l)

    placed_by : (k : Conn) (e : Exchange) → Changed (is_conn n) f s.conns k → IsIn e s.exchanges → IsIn e.number k.line → e.place ≡ Some k.number
    placed_by k e (same i isnt) m l = h.placed k e i m l
    placed_by k e (other j i hit eq) m l = h.placed j e i m (in_line k j e.number eq l) ∙ ap (λ x. Some x) (sym (ap conn_number eq ∙ number j))

    brings_by : (k : Conn) (e : Exchange) (to : Bound) → Changed (is_conn n) f s.conns k → IsIn e s.exchanges → IsIn e.number k.line → bound_of e ≡ Some to → ¬ (b.excepts ≡ Some e.number) → Brings s.instances k e to
    brings_by k e to (same i isnt) m l is apart = h.brings k e to i m l is apart
    brings_by k e to (other j i hit eq) m l is apart =
        let both : None ≡ Some to = sym (unbound j e i (same_number j.number n hit) m (in_line k j e.number eq l) apart) ∙ is in absurd (cc both)
