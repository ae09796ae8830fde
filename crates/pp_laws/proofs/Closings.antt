-- A connection that is closed, and its exchanges that are asked again, keep what is sound.
use Rattle.std.proofs.Common.{◌≡◌, refl, ℕ, ◌<◌, Bool, true, false, not, ◌==◌, ◌&&◌, List, [], ◌∷◌, Some, None, inl, inr, sym, subst, ap, ◌∙◌}
use Rattle.pp_target.specs.Key.{text_of}
use Rattle.pp_law.specs.Connections.{exchange, is_conn, is_exchange, on_conn, on_exchange, on_client_of, attempts_of, lost_one, without_row, is_unfilled, give_up_row, charge, lose_attempt, unplaced, may_ask_again, leave_place, lose_place, each_exchange, close_conn}
use Rattle.pp_law.specs.Lists.{change}
use Rattle.pp_law.specs.OwnHeads.{key_of}
use Rattle.pp_law.specs.Stages.{on_passed, bound_of, is_headed}
use Rattle.pp_law.specs.State.{State, Conn, Exchange, Instance, Bound}
use Rattle.pp_law.specs.Table.{clear}
use Rattle.pp_laws.specs.Runs.{IsIn}
use Rattle.pp_laws.proofs.Callers.{on_passed-same}
use Rattle.pp_laws.proofs.Cases.{each_so, when, when_so}
use Rattle.pp_laws.proofs.Exchanges.{end_exchange-sound, lose_attempt-sound, on_client_of-sound}
use Rattle.pp_laws.proofs.KeptConns.{ConnFrom, conn_from, conn_same, conns_kept}
use Rattle.pp_laws.proofs.Lists.{Changed, in_change, in_find, one_of, other, rise_change, same}
use Rattle.pp_laws.proofs.Shrinks.{NoLine, Shrinks, lose_attempt-shrinks, lose_place-shrinks, no_line_shrunk, off, shrinks_each, shrinks_same}
use Rattle.pp_laws.proofs.Sound.{Brings, FactsOf, Since, Sound, conn_number, exchange_number, facts_of, is_noted, sound}
use Rattle.pp_laws.proofs.Tests.{number_same, same_number}
use Rattle.pp_laws.proofs.Untouched.{clear-untouched}

-- ---- an exchange changes its place

-- what is there with that number is not bound
abbrev pub Unbound : ℕ → State → Type 0
Unbound n s = (e : Exchange) → IsIn e s.exchanges → e.number ≡ n → bound_of e ≡ None

pub record MovedExchange (e d : Exchange) : Type 0 where
  pub number : e.number ≡ d.number
  pub key : key_of e ≡ key_of d
  pub aim : e.aim ≡ d.aim
  pub headed : is_headed e ≡ is_headed d
  pub bound : bound_of e ≡ bound_of d

pub moved_facts : (b : Since) (n : ℕ) (f : Exchange → Exchange) (s : State) → ((e : Exchange) → MovedExchange (f e) e) → NoLine n s → Unbound n s → FactsOf b s → FactsOf b (record s { exchanges = change (is_exchange n) f s.exchanges })
moved_facts b n f s kept no_line unbound h = record {
  grew = h.grew;
  lines = h.lines;
  asks = record {
    rise = rise_change exchange_number (is_exchange n) f (λ e. (kept e).number) s.exchanges h.asks.rise;
    given = λ e i. given_by e (at e i);
    bounds = λ e to i is. bounds_by e to (at e i) is;
    noted = λ e to i is. noted_by e to (at e i) is;
    unplaced = λ e i is. unplaced_by e (at e i) is;
    unheaded = λ e i is. unheaded_by e (at e i) is;
  };
  rows = h.rows;
  placed = λ k e i j l. placed_by k e i (at e j) l;
  brings = λ k e to i j l is isnt. brings_by k e to i (at e j) l is isnt;
  keyed = λ e to x i is j id. keyed_by e to x (at e i) is j id;
  callers = h.callers;
  held = h.held;
}
  where
    at : (e : Exchange) → IsIn e (change (is_exchange n) f s.exchanges) → Changed (is_exchange n) f s.exchanges e
    at e i = in_change (is_exchange n) f e s.exchanges i

    number : (e d : Exchange) → e ≡ f d → e.number ≡ d.number
    number e d eq = ap exchange_number eq ∙ (kept d).number

    bound : (e d : Exchange) → e ≡ f d → bound_of e ≡ bound_of d
    bound e d eq = ap bound_of eq ∙ (kept d).bound

    none : (e d : Exchange) → IsIn d s.exchanges → is_exchange n d ≡ true → e ≡ f d → bound_of e ≡ None
    none e d i is eq = bound e d eq ∙ unbound d i (same_number d.number n is)

    never : (e d : Exchange) (to : Bound) → IsIn d s.exchanges → is_exchange n d ≡ true → e ≡ f d → bound_of e ≡ Some to → ⊥
    never e d to i is eq some = let both : None ≡ Some to = sym (none e d i is eq) ∙ some in cc both

    given_by : (e : Exchange) → Changed (is_exchange n) f s.exchanges e → e.number < s.next_exchange
    given_by e (same i isnt) = h.asks.given e i
    given_by e (other d i is eq) = subst (λ m. m < s.next_exchange) (sym (number e d eq)) (h.asks.given d i)

    bounds_by : (e : Exchange) (to : Bound) → Changed (is_exchange n) f s.exchanges e → bound_of e ≡ Some to → to.instance < s.next_instance
    bounds_by e to (same i isnt) some = h.asks.bounds e to i some
    bounds_by e to (other d i is eq) some = absurd (never e d to i is eq some)

    noted_by : (e : Exchange) (to : Bound) → Changed (is_exchange n) f s.exchanges e → bound_of e ≡ Some to → is_noted e.aim ≡ true
    noted_by e to (same i isnt) some = h.asks.noted e to i some
    noted_by e to (other d i is eq) some = absurd (never e d to i is eq some)

    unplaced_by : (e : Exchange) → Changed (is_exchange n) f s.exchanges e → e.place ≡ None → bound_of e ≡ None
    unplaced_by e (same i isnt) is = h.asks.unplaced e i is
    unplaced_by e (other d i is eq) isnt = none e d i is eq

    unheaded_by : (e : Exchange) → Changed (is_exchange n) f s.exchanges e → is_headed e ≡ false → bound_of e ≡ None
    unheaded_by e (same i isnt) is = h.asks.unheaded e i is
    unheaded_by e (other d i is eq) isnt = none e d i is eq

    placed_by : (k : Conn) (e : Exchange) → IsIn k s.conns → Changed (is_exchange n) f s.exchanges e → IsIn e.number k.line → e.place ≡ Some k.number
    placed_by k e i (same j isnt) l = h.placed k e i j l
    placed_by k e i (other d j is eq) l = absurd (no_line k i (subst (λ m. IsIn m k.line) (number e d eq ∙ same_number d.number n is) l))

    brings_by : (k : Conn) (e : Exchange) (to : Bound) → IsIn k s.conns → Changed (is_exchange n) f s.exchanges e → IsIn e.number k.line → bound_of e ≡ Some to → ¬ (b.excepts ≡ Some e.number) → Brings s.instances k e to
    brings_by k e to i (same j isnt) l some but = h.brings k e to i j l some but
    brings_by k e to i (other d j is eq) l some but = absurd (never e d to j is eq some)

    keyed_by : (e : Exchange) (to : Bound) (x : Instance) → Changed (is_exchange n) f s.exchanges e → bound_of e ≡ Some to → IsIn x s.instances → x.id ≡ to.instance → x.key ≡ key_of e
    keyed_by e to x (same i isnt) some j id = h.keyed e to x i some j id
    keyed_by e to x (other d i is eq) some j id = absurd (never e d to i is eq some)

move-sound : {b : Since} (n : ℕ) (f : Exchange → Exchange) (s : State) → ((e : Exchange) → MovedExchange (f e) e) → NoLine n s → Unbound n s → Sound b s → Sound b (on_exchange n f s)
unfolding on_exchange
move-sound {b} n f s kept no_line unbound h = sound (moved_facts b n f s kept no_line unbound (facts_of h))

-- ---- what an exchange costs binds none

give_up_row-unbound : (n : ℕ) (e : Exchange) (s : State) → Unbound n s → Unbound n (give_up_row e s)
unfolding give_up_row on_exchange on_client_of
give_up_row-unbound n e s unbound = by (is_unfilled s e)
  where
    cleared : Unbound n (clear (text_of e.key) s)
    cleared d i is = unbound d (subst (λ es. IsIn d es) (clear-untouched (text_of e.key) s).exchanges i) is

    left : (d : Exchange) → Changed (is_exchange e.number) (λ x. record x { asker = None }) (clear (text_of e.key) s).exchanges d → d.number ≡ n → bound_of d ≡ None
    left d (same i isnt) is = cleared d i is
    left d (other g i hit eq) is = ap bound_of eq ∙ cleared g i (sym (ap exchange_number eq) ∙ is)

    by : (t : Bool) → Unbound n (elim t as (λ c. State) [ false ↦ s | true ↦ on_exchange e.number (λ x. record x { asker = None }) (on_client_of e without_row (clear (text_of e.key) s)) ])
    by false d i is = unbound d i is
    by true d i is = left d (in_change (is_exchange e.number) (λ x. record x { asker = None }) d (clear (text_of e.key) s).exchanges i) is

lose_attempt-unbound : (n : ℕ) (e : Exchange) (s : State) → Unbound n s → Unbound n (lose_attempt e s)
unfolding lose_attempt charge on_client_of
lose_attempt-unbound n e s unbound = give_up_row-unbound n e (on_client_of e (λ c. record c { course = lost_one (attempts_of e) c.course }) s) unbound

-- ---- a connection is closed

-- one that is there is the one of its number
pub unheaded_unbound : {b : Since} (e : Exchange) (s : State) → FactsOf b s → IsIn e s.exchanges → is_headed e ≡ false → Unbound e.number s
unheaded_unbound e s h i isnt d j is = ap bound_of (one_of exchange_number s.exchanges d e h.asks.rise j i is) ∙ h.asks.unheaded e i isnt

leave_place-sound : {b : Since} (e : Exchange) (s : State) → (is_headed e ≡ false → Unbound e.number s) → NoLine e.number s → Sound b s → Sound b (leave_place e s)
unfolding leave_place
leave_place-sound e s unbound no_line h =
    when_so (is_headed e)
    (λ hit. end_exchange-sound e.number _ (on_client_of-sound e (on_passed (λ p. record p { is_short = true })) s (on_passed-same (λ p. record p { is_short = true })) h))
    (λ isnt. when (may_ask_again s e.number)
    (move-sound e.number unplaced s (λ d. record { number = refl; key = refl; aim = refl; headed = refl; bound = refl }) no_line (unbound isnt) h)
    (end_exchange-sound e.number s h))

pub lose_place-sound : {b : Since} (counts : Bool) (e : Exchange) (s : State) → IsIn e s.exchanges → NoLine e.number s → Sound b s → Sound b (lose_place counts e s)
unfolding lose_place
lose_place-sound counts e s i no_line h =
    when counts
    (leave_place-sound e _ (λ isnt. lose_attempt-unbound e.number e s (unheaded_unbound e s (facts_of h) i isnt)) (no_line_shrunk e.number s _ (lose_attempt-shrinks e s) no_line) (lose_attempt-sound e s h))
    (leave_place-sound e s (unheaded_unbound e s (facts_of h) i) no_line h)

-- of these, what is still there is in no line
abbrev NotInLines : List ℕ → State → Type 0
NotInLines line s = (n : ℕ) (e : Exchange) → IsIn n line → IsIn e s.exchanges → e.number ≡ n → NoLine n s

not_in_shrunk : (line : List ℕ) (s t : State) → Shrinks s t → NotInLines line s → NotInLines line t
not_in_shrunk line s t shrinks not_in n e i j is k m l =
    let f = shrinks.exchanges e j in
    let g = shrinks.conns k m in
    not_in n f.0 i f.1 (sym f.2 ∙ is) g.0 g.1 (g.3 n l)

pub lose_places-sound : {b : Since} (counts : Bool) (line : List ℕ) (s : State) → NotInLines line s → Sound b s → Sound b (each_exchange (lose_place counts) line s)
unfolding each_exchange
lose_places-sound counts [] s not_in h = h
lose_places-sound {b} counts (n ∷ line) s not_in h =
    lose_places-sound counts line _
    (not_in_shrunk line s _ (shrinks_each s (exchange s n) (shrinks_same s) (λ e. lose_place-shrinks counts e s)) (λ m e i j is. not_in m e (inr i) j is))
    (each_so (exchange s n) (λ none. h) (λ e found. by e (in_find (is_exchange n) e s.exchanges found)))
  where
    by : (e : Exchange) → IsIn e s.exchanges × (is_exchange n e ≡ true) → Sound b (lose_place counts e s)
    by e there = lose_place-sound counts e s there.0 (not_in e.number e (inl (same_number e.number n there.1)) there.0 refl) h

-- an exchange of that line stands in no other one
abbrev pub IsOwnLine : Conn → State → Type 0
IsOwnLine k s = (e : Exchange) (j : Conn) → IsIn e s.exchanges → IsIn e.number k.line → IsIn j s.conns → IsIn e.number j.line → j.number ≡ k.number

pub own_line : {b : Since} (k : Conn) (s : State) → IsIn k s.conns → Sound b s → IsOwnLine k s
own_line k s i h e j m l n r = let both : Some j.number ≡ Some k.number = sym ((facts_of h).placed j e n m r) ∙ (facts_of h).placed k e i m l in cc both

pub own_line_shrunk : (k : Conn) (s t : State) → Shrinks s t → IsOwnLine k s → IsOwnLine k t
own_line_shrunk k s t shrinks own e j m l n r =
    let f = shrinks.exchanges e m in
    let g = shrinks.conns j n in
    g.2 ∙ own f.0 g.0 f.1 (subst (λ x. IsIn x k.line) f.2 l) g.1 (subst (λ x. IsIn x g.0.line) f.2 (g.3 e.number r))

off-sound : {b : Since} (n : ℕ) (s : State) → Sound b s → Sound b (on_conn n off s)
unfolding on_conn
off-sound {b} n s h = sound (conns_kept b s (change (is_conn n) off s.conns) (rise_change conn_number (is_conn n) off (λ k. refl) s.conns (facts_of h).lines.rise) (λ k i. from k (in_change (is_conn n) off k s.conns i)) (facts_of h))
  where
    nothing : (k j : Conn) (m : ℕ) → k ≡ off j → IsIn m k.line → ⊥
    nothing k j m eq l = subst (λ (x : Conn). IsIn m x.line) eq l

    from : (k : Conn) → Changed (is_conn n) off s.conns k → ConnFrom s.conns k
    from k (same i isnt) = conn_from s.conns k k i (conn_same k)
    from k (other j i is eq) = record {
      was = j;
      there = i;
      number = ap conn_number eq;
      line = λ m l. absurd (nothing k j m eq l);
      front = λ m l first. absurd (nothing k j m eq l);
      answer = λ m l. absurd (nothing k j m eq l);
    }

off-not_in : (k : Conn) (s : State) → IsOwnLine k s → NotInLines k.line (on_conn k.number off s)
unfolding on_conn
off-not_in k s own n e i m is j at l = by (in_change (is_conn k.number) off j s.conns at)
  where
    by : Changed (is_conn k.number) off s.conns j → ⊥
    by (same there isnt) =
        let number : j.number ≡ k.number = own e j m (subst (λ x. IsIn x k.line) (sym is) i) there (subst (λ x. IsIn x j.line) (sym is) l) in
        let both : true ≡ false = sym (number_same k.number) ∙ sym (ap (λ x. x == k.number) number) ∙ isnt in
        cc both
    by (other g there hit eq) = subst (λ (x : Conn). IsIn n x.line) eq l

pub close_conn-sound : {b : Since} (counts : Bool) (k : Conn) (s : State) → IsOwnLine k s → Sound b s → Sound b (close_conn counts k s)
unfolding close_conn
close_conn-sound counts k s own h = lose_places-sound (counts && not k.has_brought) k.line _ (off-not_in k s own) (off-sound k.number s h)
