-- The placing of exchanges keeps what is sound.
use Rattle.std.proofs.Common.{◌≡◌, ◌⊎◌, refl, ℕ, ◌<◌, ◌≤◌, true, false, ◌==◌, List, [], ◌∷◌, ◌++◌, Option, Some, None, option_and_then, inl, inr, sym, subst, ap, ◌∙◌}
use Rattle.pp_peers.specs.declared.placing.Placed.TheVariants.{On, Dial, CloseThenDial, Wait}
use Rattle.pp_peers.specs.declared.placing.Placed.{Placed}
use Rattle.pp_law.specs.Connections.{exchange, is_conn, is_exchange, on_conn, on_exchange, place_for, put_on, if_unplaced, place_each, placing, WaitsDial, WaitsDrop, Placement}
use Rattle.pp_law.specs.Lists.{change}
use Rattle.pp_law.specs.Stages.{bound_of}
use Rattle.pp_law.specs.State.{State, Conn, Exchange, Bound}
use Rattle.pp_laws.specs.Runs.{IsIn}
use Rattle.pp_laws.proofs.Closings.{Unbound, moved_facts}
use Rattle.pp_laws.proofs.Lists.{Changed, in_change, in_find, in_push, one_of, other, rise_change, same}
use Rattle.pp_laws.proofs.Shrinks.{NoLine}
use Rattle.pp_laws.proofs.Sound.{Brings, FactsOf, Since, Sound, conn_number, exchange_number, facts_of, first_of, sound}
use Rattle.pp_laws.proofs.Tests.{number_same, same_number}

-- ---- places

-- in no line, begun before, and not bound
pub record IsReady (n : ℕ) (s : State) : Type 0 where
  pub no_line : NoLine n s
  pub given : n < s.next_exchange
  pub unbound : Unbound n s

first_append : (n : ℕ) (ns ms : List ℕ) → first_of ns ≡ Some n → first_of (ns ++ ms) ≡ Some n
first_append n [] ms is = absurd (cc is)
first_append n (m ∷ ns) ms is = is

appended_facts : (b : Since) (n k : ℕ) (s : State) → n < s.next_exchange → Unbound n s → ((e : Exchange) → IsIn e s.exchanges → e.number ≡ n → e.place ≡ Some k) → FactsOf b s
    → FactsOf b (record s { conns = change (is_conn k) (λ j. record j { line = j.line ++ n ∷ [] }) s.conns })
appended_facts b n k s given unbound place h = record {
  grew = h.grew;
  lines = record {
    rise = rise_change conn_number (is_conn k) longer (λ j. refl) s.conns h.lines.rise;
    given = λ j i. given_by j (at j i);
    asked = λ j m i l. asked_by j m (at j i) l;
  };
  asks = h.asks;
  rows = h.rows;
  placed = λ j e i m l. placed_by j e (at j i) m l;
  brings = λ j e to i m l is isnt. brings_by j e to (at j i) m l is isnt;
  keyed = h.keyed;
  callers = h.callers;
  held = h.held;
}
  where
    longer : Conn → Conn
    longer j = record j { line = j.line ++ n ∷ [] }

    at : (j : Conn) → IsIn j (change (is_conn k) (λ i. record i { line = i.line ++ n ∷ [] }) s.conns) → Changed (is_conn k) (λ i. record i { line = i.line ++ n ∷ [] }) s.conns j
    at j i = in_change (is_conn k) (λ l. record l { line = l.line ++ n ∷ [] }) j s.conns i

    in_line : (j g : Conn) (m : ℕ) → j ≡ record g { line = g.line ++ n ∷ [] } → IsIn m j.line → IsIn m g.line ⊎ (m ≡ n)
    in_line j g m eq l = in_push m g.line n (subst (λ (x : Conn). IsIn m x.line) eq l)

    given_by : (j : Conn) → Changed (is_conn k) (λ i. record i { line = i.line ++ n ∷ [] }) s.conns j → j.number ≤ s.top
    given_by j (same i isnt) = h.lines.given j i
    given_by j (other g i is eq) = subst (λ m. m ≤ s.top) (sym (ap conn_number eq)) (h.lines.given g i)

    asked_by : (j : Conn) (m : ℕ) → Changed (is_conn k) (λ i. record i { line = i.line ++ n ∷ [] }) s.conns j → IsIn m j.line → m < s.next_exchange
    asked_by j m (same i isnt) l = h.lines.asked j m i l
    asked_by j m (other g i is eq) l = asked_at (in_line j g m eq l)
      where
        asked_at : IsIn m g.line ⊎ (m ≡ n) → m < s.next_exchange
        asked_at (inl r) = h.lines.asked g m i r
        asked_at (inr r) = subst (λ x. x < s.next_exchange) (sym r) given

    placed_by : (j : Conn) (e : Exchange) → Changed (is_conn k) (λ i. record i { line = i.line ++ n ∷ [] }) s.conns j → IsIn e s.exchanges → IsIn e.number j.line → e.place ≡ Some j.number
    placed_by j e (same i isnt) m l = h.placed j e i m l
    placed_by j e (other g i is eq) m l = placed_at (in_line j g e.number eq l)
      where
        placed_at : IsIn e.number g.line ⊎ (e.number ≡ n) → e.place ≡ Some j.number
        placed_at (inl r) = h.placed g e i m r ∙ ap (λ x. Some x) (sym (ap conn_number eq))
        placed_at (inr r) = place e m r ∙ ap (λ x. Some x) (sym (ap conn_number eq ∙ same_number g.number k is))

    brings_by : (j : Conn) (e : Exchange) (to : Bound) → Changed (is_conn k) (λ i. record i { line = i.line ++ n ∷ [] }) s.conns j → IsIn e s.exchanges → IsIn e.number j.line → bound_of e ≡ Some to → ¬ (b.excepts ≡ Some e.number) → Brings s.instances j e to
    brings_by j e to (same i isnt) m l is but = h.brings j e to i m l is but
    brings_by j e to (other g i hit eq) m l is but = brings_at (in_line j g e.number eq l)
      where
        longer_brings : Brings s.instances g e to → Brings s.instances j e to
        longer_brings w = record {
          front = ap (λ (x : Conn). first_of x.line) eq ∙ first_append e.number g.line (n ∷ []) w.front;
          answer = w.answer;
          is = ap (λ (x : Conn). x.answer) eq ∙ w.is;
          fits = w.fits;
        }

        brings_at : IsIn e.number g.line ⊎ (e.number ≡ n) → Brings s.instances j e to
        brings_at (inl r) = longer_brings (h.brings g e to i m r is but)
        brings_at (inr r) = let both : None ≡ Some to = sym (unbound e m r) ∙ is in absurd (cc both)

pub put_on-sound : {b : Since} (n k : ℕ) (s : State) → IsReady n s → Sound b s → Sound b (put_on n k s)
unfolding put_on on_conn on_exchange
put_on-sound {b} n k s ready h = sound (appended_facts b n k (record s { exchanges = change (is_exchange n) (λ e. record e { place = Some k; asked = 0 }) s.exchanges }) ready.given unbound place
    (moved_facts b n (λ e. record e { place = Some k; asked = 0 }) s (λ e. record { number = refl; key = refl; aim = refl; headed = refl; bound = refl }) ready.no_line ready.unbound (facts_of h)))
  where
    unbound : (e : Exchange) → IsIn e (change (is_exchange n) (λ d. record d { place = Some k; asked = 0 }) s.exchanges) → e.number ≡ n → bound_of e ≡ None
    unbound e i is = by (in_change (is_exchange n) (λ d. record d { place = Some k; asked = 0 }) e s.exchanges i)
      where
        by : Changed (is_exchange n) (λ d. record d { place = Some k; asked = 0 }) s.exchanges e → bound_of e ≡ None
        by (same j isnt) = ready.unbound e j is
        by (other d j hit eq) = ap bound_of eq ∙ ready.unbound d j (same_number d.number n hit)

    place : (e : Exchange) → IsIn e (change (is_exchange n) (λ d. record d { place = Some k; asked = 0 }) s.exchanges) → e.number ≡ n → e.place ≡ Some k
    place e i is = by (in_change (is_exchange n) (λ d. record d { place = Some k; asked = 0 }) e s.exchanges i)
      where
        by : Changed (is_exchange n) (λ d. record d { place = Some k; asked = 0 }) s.exchanges e → e.place ≡ Some k
        by (same j isnt) = let both : true ≡ false = sym (number_same n) ∙ sym (ap (λ x. x == n) is) ∙ isnt in absurd (cc both)
        by (other d j hit eq) = ap (λ (x : Exchange). x.place) eq

put_on-ready : (m n k : ℕ) (s : State) → ¬ (m ≡ n) → IsReady m s → IsReady m (put_on n k s)
unfolding put_on on_conn on_exchange
put_on-ready m n k s apart ready = record {
  no_line = λ j i l. no_by j (in_change (is_conn k) (λ g. record g { line = g.line ++ n ∷ [] }) j s.conns i) l;
  given = ready.given;
  unbound = λ e i is. unbound_by e (in_change (is_exchange n) (λ d. record d { place = Some k; asked = 0 }) e s.exchanges i) is;
}
  where
    no_by : (j : Conn) → Changed (is_conn k) (λ g. record g { line = g.line ++ n ∷ [] }) s.conns j → IsIn m j.line → ⊥
    no_by j (same i isnt) l = ready.no_line j i l
    no_by j (other g i is eq) l = by (in_push m g.line n (subst (λ (x : Conn). IsIn m x.line) eq l))
      where
        by : IsIn m g.line ⊎ (m ≡ n) → ⊥
        by (inl r) = ready.no_line g i r
        by (inr r) = apart r

    unbound_by : (e : Exchange) → Changed (is_exchange n) (λ d. record d { place = Some k; asked = 0 }) s.exchanges e → e.number ≡ m → bound_of e ≡ None
    unbound_by e (same i isnt) is = ready.unbound e i is
    unbound_by e (other d i hit eq) is = ap bound_of eq ∙ ready.unbound d i (sym (ap exchange_number eq) ∙ is)

-- one that is there without a place is ready
ready : {b : Since} (e : Exchange) (s : State) → IsIn e s.exchanges → e.place ≡ None → Sound b s → IsReady e.number s
ready e s i none h = record {
  no_line = λ k j l. let both : None ≡ Some k.number = sym none ∙ (facts_of h).placed k e j i l in cc both;
  given = (facts_of h).asks.given e i;
  unbound = λ d j is. ap bound_of (one_of exchange_number s.exchanges d e (facts_of h).asks.rise j i is) ∙ (facts_of h).asks.unplaced e i none;
}

unplaced_by : (d e : Exchange) (place : Option ℕ) → d.place ≡ place → (elim place as (λ c. Option Exchange) [ Some k ↦ None | None ↦ Some d ]) ≡ Some e → (d ≡ e) × (d.place ≡ None)
unplaced_by d e None none is = (cc, none)
unplaced_by d e (Some k) some is = absurd (cc is)

unplaced_in : (o : Option Exchange) (e : Exchange) → option_and_then if_unplaced o ≡ Some e → (o ≡ Some e) × (e.place ≡ None)
unplaced_in None e is = absurd (cc is)
unplaced_in (Some d) e is = let w = unplaced_by d e d.place refl is in (ap (λ x. Some x) w.0, subst (λ (x : Exchange). x.place ≡ None) w.0 w.1)

-- the one of this number, where it has no place
unplaced_ready : {b : Since} (n : ℕ) (s : State) (e : Exchange) → option_and_then if_unplaced (exchange s n) ≡ Some e → Sound b s → IsReady n s
unplaced_ready {b} n s e is h = subst (λ m. IsReady m s) (same_number e.number n there.1) (ready e s there.0 w.1 h)
  where
    w : (exchange s n ≡ Some e) × (e.place ≡ None)
    w = unplaced_in (exchange s n) e is

    there : IsIn e s.exchanges × (is_exchange n e ≡ true)
    there = in_find (is_exchange n) e s.exchanges w.0

place_by : {b : Since} (n : ℕ) (e : Exchange) (ns : List ℕ) (s : State) (wanted : Placed) → IsReady n s → ((t : State) → Sound b t → Sound b (place_each ns t).state) → Sound b s
    → Sound b (elim wanted as (λ c. Placement) [
      | On k ↦ place_each ns (put_on n k s)
      | Wait ↦ place_each ns s
      | Dial ↦ record { state = s; pause = WaitsDial e }
      | CloseThenDial k ↦ record { state = s; pause = WaitsDrop k e }
    ]).state
place_by n e ns s (On k) is_ready rest h = rest (put_on n k s) (put_on-sound n k s is_ready h)
place_by n e ns s Wait is_ready rest h = rest s h
place_by n e ns s Dial is_ready rest h = h
place_by n e ns s (CloseThenDial k) is_ready rest h = h

place_at : {b : Since} (unplaced : Option Exchange) (p : Placement) (q : Exchange → Placement) → Sound b p.state → ((e : Exchange) → unplaced ≡ Some e → Sound b (q e).state)
    → Sound b (elim unplaced as (λ c. Placement) [ None ↦ p | Some e ↦ q e ]).state
place_at None p q hp hq = hp
place_at (Some e) p q hp hq = hq e refl

place_each-sound : {b : Since} (ns : List ℕ) (s : State) → Sound b s → Sound b (place_each ns s).state
place_each-sound [] s h = h
place_each-sound (n ∷ ns) s h =
    place_at (option_and_then if_unplaced (exchange s n)) _ _ (place_each-sound ns s h)
    (λ e is. place_by n e ns s (place_for s e) (unplaced_ready n s e is h) (λ t ht. place_each-sound ns t ht) h)

pub placing-sound : {b : Since} (s : State) → Sound b s → Sound b (placing s).state
placing-sound s h = place_each-sound _ s h

-- the one for which a dial is waited for is ready
dial_by : {b : Since} (n : ℕ) (e : Exchange) (ns : List ℕ) (s : State) (wanted : Placed) → IsReady n s → IsReady e.number s
    → ((t : State) → Sound b t → (d : Exchange) → (place_each ns t).pause ≡ WaitsDial d → IsReady d.number (place_each ns t).state) → Sound b s → (d : Exchange)
    → (elim wanted as (λ c. Placement) [
      | On k ↦ place_each ns (put_on n k s)
      | Wait ↦ place_each ns s
      | Dial ↦ record { state = s; pause = WaitsDial e }
      | CloseThenDial k ↦ record { state = s; pause = WaitsDrop k e }
    ]).pause ≡ WaitsDial d
    → IsReady d.number (elim wanted as (λ c. Placement) [
      | On k ↦ place_each ns (put_on n k s)
      | Wait ↦ place_each ns s
      | Dial ↦ record { state = s; pause = WaitsDial e }
      | CloseThenDial k ↦ record { state = s; pause = WaitsDrop k e }
    ]).state
dial_by n e ns s (On k) is_ready its rest h d is = rest (put_on n k s) (put_on-sound n k s is_ready h) d is
dial_by n e ns s Wait is_ready its rest h d is = rest s h d is
dial_by n e ns s Dial is_ready its rest h d is = let eq : e ≡ d = cc in subst (λ (x : Exchange). IsReady x.number s) eq its
dial_by n e ns s (CloseThenDial k) is_ready its rest h d is = absurd (cc is)

dial_at : (unplaced : Option Exchange) (p : Placement) (q : Exchange → Placement) (d : Exchange) → (p.pause ≡ WaitsDial d → IsReady d.number p.state)
    → ((e : Exchange) → unplaced ≡ Some e → (q e).pause ≡ WaitsDial d → IsReady d.number (q e).state)
    → (elim unplaced as (λ c. Placement) [ None ↦ p | Some e ↦ q e ]).pause ≡ WaitsDial d → IsReady d.number (elim unplaced as (λ c. Placement) [ None ↦ p | Some e ↦ q e ]).state
dial_at None p q d hp hq is = hp is
dial_at (Some e) p q d hp hq is = hq e refl is

place_each-dial : {b : Since} (ns : List ℕ) (s : State) → Sound b s → (d : Exchange) → (place_each ns s).pause ≡ WaitsDial d → IsReady d.number (place_each ns s).state
place_each-dial [] s h d is = absurd (cc is)
place_each-dial {b} (n ∷ ns) s h d is =
    dial_at (option_and_then if_unplaced (exchange s n)) _ _ d (λ more. place_each-dial ns s h d more)
    (λ e found more. dial_by {b = b} n e ns s (place_for s e) (unplaced_ready n s e found h) (its e found) (λ t ht g later. place_each-dial ns t ht g later) h d more) is
  where
    its : (e : Exchange) → option_and_then if_unplaced (exchange s n) ≡ Some e → IsReady e.number s
    its e found = let w = unplaced_in (exchange s n) e found in ready e s (in_find (is_exchange n) e s.exchanges w.0).0 w.1 h

pub placing-dial : {b : Since} (s : State) → Sound b s → (d : Exchange) → (placing s).pause ≡ WaitsDial d → IsReady d.number (placing s).state
placing-dial s h d is = place_each-dial _ s h d is
