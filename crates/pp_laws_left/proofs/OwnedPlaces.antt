-- Whoever waits for an exchange has it, also as exchanges get their places, and connections are dialled and dropped.
use Rattle.std.proofs.Common.{◌≡◌, ◌⊎◌, refl, ℕ, ◌+◌, ◌<◌, ◌==◌, Bool, true, false, not, List, [], ◌∷◌, ◌++◌, Option, Some, None, inl, inr, sym, subst, ap, ◌∙◌}
use Rattle.pp_peers.specs.declared.placing.Placed.{Placed}
use Rattle.pp_peers.specs.declared.placing.Placed.TheVariants.{On, Dial, CloseThenDial, Wait}
use Rattle.pp_law.specs.After.{dialled, dropped, new_conn, out, refused_dial, shut, undialled}
use Rattle.pp_law.specs.Closing.{close_client}
use Rattle.pp_law.specs.Connections.{conn, exchange, if_unplaced, is_client, is_conn, is_exchange, lose_attempt, may_ask_again, on_conn, on_exchange, place_each, place_for, placing, put_on, Pause, AllPlaced, WaitsDial, WaitsDrop, Placement}
use Rattle.pp_law.specs.Lists.{Bytes, change, without}
use Rattle.pp_law.specs.Stages.{is_headed}
use Rattle.pp_law.specs.State.{State, Answer, Client, Conn, Exchange}
use Rattle.pp_laws.specs.Runs.{IsIn}
use Rattle.pp_laws.proofs.Lists.{Changed, changed_at, in_change, in_filter, in_find, in_map, in_push, other, same}
use Rattle.pp_laws.proofs.Sound.{first_of}
use Rattle.pp_laws.proofs.Tests.{number_same, same_number}
use Rattle.pp_laws_coming.proofs.Attempts.{alike as alike_coming, alike_left as may_left, lose_attempt-comes}
use Rattle.pp_laws_coming.proofs.Clients.{end_exchange-comes}
use Rattle.pp_laws_coming.proofs.Facts.{Early}
use Rattle.pp_laws_turn.proofs.Cases.{each_of, when, when_so}
use Rattle.pp_laws_turn.proofs.View.{Holds, facts_of, holds}
use Rattle.pp_laws_left.proofs.Owned.{Answered, AreFree, Facts, Owned, asks_kept, ask_if, none_but}
use Rattle.pp_laws_left.proofs.OwnedAsks.{AreAlike, alike, alike_lost, lose_attempt-owned, stands_there, sure_unheaded}
use Rattle.pp_laws_left.proofs.OwnedOver.{again_not, end_exchange-owned, relaying_headed, there_lost}
use Rattle.pp_laws_left.proofs.OwnedPhases.{fill-owned}
use Rattle.pp_laws_left.proofs.OwnedReplies.{close_client-owned}

first_more : (line : List ℕ) (n m : ℕ) → first_of line ≡ Some m → first_of (line ++ n ∷ []) ≡ Some m
first_more [] n m is = absurd (cc is)
first_more (x ∷ line) n m is = is

in_more : (line : List ℕ) (n m : ℕ) → IsIn m line → (k : ℕ) → first_of line ≡ Some k → first_of (line ++ n ∷ []) ≡ Some k
in_more line n m i k is = first_more line n k is

-- one without a place gets one, as the last of a line
module _ {At : Type 0} (n k : ℕ) (s : State) (x : Exchange) (found : exchange s n ≡ Some x) (nowhere : x.place ≡ None) (h : Holds (Owned none_but At) s) where
  there : IsIn x s.exchanges × (is_exchange n x ≡ true)
  there = in_find (is_exchange n) x s.exchanges found

  number : x.number ≡ n
  number = same_number x.number n there.1

  one : (y : Exchange) → IsIn y s.exchanges → y.number ≡ n → y ≡ x
  one y i is = (facts_of h).apart y x i there.0 (is ∙ sym number)

  out_of : (j : Conn) → IsIn j s.conns → IsIn n j.line → ⊥
  out_of j l line = (facts_of h).placed j x l there.0 (subst (λ m. IsIn m j.line) (sym number) line) nowhere

  abbrev to : Exchange → Exchange
  to = λ e. record e { place = Some k; asked = 0 }

  abbrev more : Conn → Conn
  more = λ j. record j { line = j.line ++ n ∷ [] }

  unheaded : (y : Exchange) → IsIn y s.exchanges → y.number ≡ n → is_headed y ≡ false
  unheaded y i is = ap is_headed (one y i is) ∙ ((facts_of h).plain x there.0).bare nowhere

  f : Facts none_but At s.clients (change (is_exchange n) to s.exchanges) s.conns s.next_exchange
  f = asks_kept (changed_at (is_exchange n) to) (λ e i. ask_if to e (is_exchange n e) (λ hit. record {
    number = refl;
    asker = refl;
    aim = refl;
    headed = refl;
    relays = λ is. is;
    place = λ j l line none. absurd (cc none);
    plain = λ p. record { bare = λ none. absurd (cc none); spelled = p.spelled; asked = λ on. (let both : true ≡ false = sym on ∙ unheaded e i (same_number e.number n hit) in absurd (cc both)); through = p.through };
  })) (facts_of h)

  off_now : (y : Exchange) → IsIn y (change (is_exchange n) to s.exchanges) → y.number ≡ n → (is_headed y ≡ false) × (y.place ≡ None → ⊥)
  off_now y i is = by (in_change (is_exchange n) to y s.exchanges i)
    where
      by : Changed (is_exchange n) to s.exchanges y → (is_headed y ≡ false) × (y.place ≡ None → ⊥)
      by (same j isnt) = let both : true ≡ false = sym (ap (λ m. m == n) is ∙ number_same n) ∙ isnt in absurd (cc both)
      by (other z j hit eq) = (ap is_headed eq ∙ unheaded z j (same_number z.number n hit), λ none. let both : Some k ≡ None = sym (ap (λ (e : Exchange). e.place) eq) ∙ none in cc both)

  record Longer (j : Conn) : Type 0 where
    was : Conn
    here : IsIn was s.conns
    named : j.number ≡ was.number
    line : (m : ℕ) → IsIn m j.line → IsIn m was.line ⊎ ((m ≡ n) × (j.number ≡ k))

  longer : (j : Conn) → IsIn j (change (is_conn k) more s.conns) → Longer j
  longer j l = by (in_change (is_conn k) more j s.conns l)
    where
      by : Changed (is_conn k) more s.conns j → Longer j
      by (same i isnt) = record { was = j; here = i; named = refl; line = λ m line. inl line }
      by (other g i hit eq) = record { was = g; here = i; named = ap (λ (z : Conn). z.number) eq; line = λ m line. at m (in_push m g.line n (subst (λ (z : Conn). IsIn m z.line) eq line)) }
        where
          at : (m : ℕ) → IsIn m g.line ⊎ (m ≡ n) → IsIn m g.line ⊎ ((m ≡ n) × (j.number ≡ k))
          at m (inl i) = inl i
          at m (inr is) = inr (is, ap (λ (z : Conn). z.number) eq ∙ same_number g.number k hit)

  named_by : (j : Conn) (t : Bool) → (elim t as (λ z. Conn) [ true ↦ more j | false ↦ j ]).number ≡ j.number
  named_by j true = refl
  named_by j false = refl

  put : Facts none_but At s.clients (change (is_exchange n) to s.exchanges) (change (is_conn k) more s.conns) s.next_exchange
  put = record {
    callers = f.callers;
    apart = f.apart;
    given = f.given;
    one = f.one;
    plain = f.plain;
    fills = f.fills;
    kinds = f.kinds;
    asks = f.asks;
    amid = f.amid;
    lined = λ j m l line. lined_by j m (longer j l) ((longer j l).line m line);
    conns = λ j g l m eq. (let p = in_map (changed_at (is_conn k) more) j s.conns l in let q = in_map (changed_at (is_conn k) more) g s.conns m in
        p.is ∙ ap (changed_at (is_conn k) more) (f.conns p.was q.was p.there q.there (sym (named_by p.was (is_conn k p.was)) ∙ ap (λ (z : Conn). z.number) (sym p.is) ∙ eq ∙ ap (λ (z : Conn). z.number) q.is ∙ named_by q.was (is_conn k q.was))) ∙ sym q.is);
    own = λ j g e l m i jl gl. own_by j g e i (longer j l) (longer g m) ((longer j l).line e.number jl) ((longer g m).line e.number gl);
    placed = λ j e l i line none. placed_by j e i none (longer j l) ((longer j l).line e.number line);
    front = λ j a l isnt is. front_by j a isnt is (in_change (is_conn k) more j s.conns l);
    behind = λ j e l i line headed. behind_by j e i line headed (in_change (is_conn k) more j s.conns l);
  }
    where
      lined_by : (j : Conn) (m : ℕ) → (w : Longer j) → IsIn m w.was.line ⊎ ((m ≡ n) × (j.number ≡ k)) → m < s.next_exchange
      lined_by j m w (inl i) = f.lined w.was m w.here i
      lined_by j m w (inr p) = subst (λ z. z < s.next_exchange) (number ∙ sym p.0) ((facts_of h).given x there.0)

      own_by : (j g : Conn) (e : Exchange) → IsIn e (change (is_exchange n) to s.exchanges) → (w : Longer j) → (u : Longer g) → IsIn e.number w.was.line ⊎ ((e.number ≡ n) × (j.number ≡ k)) → IsIn e.number u.was.line ⊎ ((e.number ≡ n) × (g.number ≡ k)) → j.number ≡ g.number
      own_by j g e i w u (inl a) (inl b) = w.named ∙ f.own w.was u.was e w.here u.here i a b ∙ sym u.named
      own_by j g e i w u (inl a) (inr b) = absurd (out_of w.was w.here (subst (λ m. IsIn m w.was.line) b.0 a))
      own_by j g e i w u (inr a) (inl b) = absurd (out_of u.was u.here (subst (λ m. IsIn m u.was.line) a.0 b))
      own_by j g e i w u (inr a) (inr b) = a.1 ∙ sym b.1

      placed_by : (j : Conn) (e : Exchange) → IsIn e (change (is_exchange n) to s.exchanges) → e.place ≡ None → (w : Longer j) → IsIn e.number w.was.line ⊎ ((e.number ≡ n) × (j.number ≡ k)) → ⊥
      placed_by j e i none w (inl a) = f.placed w.was e w.here i a none
      placed_by j e i none w (inr a) = (off_now e i a.0).1 none

      front_by : (j : Conn) (a : Answer) → (None ≡ Some j.number → ⊥) → j.answer ≡ Some a → Changed (is_conn k) more s.conns j → Answered (change (is_exchange n) to s.exchanges) j
      front_by j a isnt is (same l off_) = f.front j a l (λ none. cc none) is
      front_by j a isnt is (other g l hit eq) =
          let w = f.front g a l (λ none. cc none) (ap (λ (z : Conn). z.answer) (sym eq) ∙ is) in
          record { number = w.number; first = ap (λ (z : Conn). first_of z.line) eq ∙ first_more g.line n w.number w.first; headed = w.headed }

      behind_by : (j : Conn) (e : Exchange) → IsIn e (change (is_exchange n) to s.exchanges) → IsIn e.number j.line → is_headed e ≡ true → Changed (is_conn k) more s.conns j → (first_of j.line ≡ Some e.number) × (j.answer ≡ None → ⊥)
      behind_by j e i line headed (same l isnt) = f.behind j e l i line headed
      behind_by j e i line headed (other g l hit eq) = at (in_push e.number g.line n (subst (λ (z : Conn). IsIn e.number z.line) eq line))
        where
          at : IsIn e.number g.line ⊎ (e.number ≡ n) → (first_of j.line ≡ Some e.number) × (j.answer ≡ None → ⊥)
          at (inl a) = let w = f.behind g e l i a headed in (ap (λ (z : Conn). first_of z.line) eq ∙ first_more g.line n e.number w.0, λ none. w.1 (ap (λ (z : Conn). z.answer) (sym eq) ∙ none))
          at (inr is) = let both : true ≡ false = sym headed ∙ (off_now e i is).0 in absurd (cc both)

  pub put_on-owned : Holds (Owned none_but At) (put_on n k s)
  unfolding put_on on_conn on_exchange
  put_on-owned = holds put

-- what placing leaves: whom it waits to dial for is there, and has no place
pub record PlacedAt (At : Type 0) (o : State) (p : Placement) : Type 0 where
  pub owned : Holds (Owned none_but At) p.state
  pub dials : (e : Exchange) → p.pause ≡ WaitsDial e → IsIn e p.state.exchanges × (e.place ≡ None) × (exchange p.state e.number ≡ Some e)
  pub from : (j : Conn) → IsIn j p.state.conns → (w : Conn) × IsIn w o.conns × (j.number ≡ w.number)

put_conns : (n k : ℕ) (s : State) (j : Conn) → IsIn j (put_on n k s).conns → (w : Conn) × IsIn w s.conns × (j.number ≡ w.number)
unfolding put_on on_conn on_exchange
put_conns n k s j l = by (in_change (is_conn k) (λ g. record g { line = g.line ++ n ∷ [] }) j s.conns l)
  where
    by : Changed (is_conn k) (λ g. record g { line = g.line ++ n ∷ [] }) s.conns j → (w : Conn) × IsIn w s.conns × (j.number ≡ w.number)
    by (same i isnt) = (j, i, refl)
    by (other g i hit eq) = (g, i, ap (λ (z : Conn). z.number) eq)

place_each-placed : {At : Type 0} (o : State) (ns : List ℕ) (s : State) → ((j : Conn) → IsIn j s.conns → (w : Conn) × IsIn w o.conns × (j.number ≡ w.number)) → Holds (Owned none_but At) s → PlacedAt At o (place_each ns s)
place_each-placed o [] s from h = record { owned = h; dials = λ e is. absurd (cc is); from = from }
place_each-placed {At} o (n ∷ ns) s from h = by (λ t ft ht. place_each-placed o ns t ft ht) (exchange s n) refl
  where
    Rest : Type 0
    Rest = (t : State) → ((j : Conn) → IsIn j t.conns → (w : Conn) × IsIn w o.conns × (j.number ≡ w.number)) → Holds (Owned none_but At) t → PlacedAt At o (place_each ns t)

    at_place : Exchange → Placed → Placement
    at_place e p = elim p as (λ c. Placement) [
      | On k ↦ place_each ns (put_on n k s)
      | Wait ↦ place_each ns s
      | Dial ↦ record { state = s; pause = WaitsDial e }
      | CloseThenDial k ↦ record { state = s; pause = WaitsDrop k e }
    ]

    placed_by : Rest → (e : Exchange) → exchange s n ≡ Some e → e.place ≡ None → (p : Placed) → PlacedAt At o (at_place e p)
    placed_by rest e found none (On k) = rest (put_on n k s) (λ j l. let w = put_conns n k s j l in let u = from w.0 w.1 in (u.0, u.1, w.2 ∙ u.2)) (put_on-owned n k s e found none h)
    placed_by rest e found none Wait = rest s from h
    placed_by rest e found none Dial = record { owned = h; dials = λ d is. (let same_ : WaitsDial e ≡ WaitsDial d = is in let eq : e ≡ d = cc same_ in subst (λ (y : Exchange). IsIn y s.exchanges × (y.place ≡ None) × (exchange s y.number ≡ Some y)) eq (let w = in_find (is_exchange n) e s.exchanges found in (w.0, none, ap (λ m. exchange s m) (same_number e.number n w.1) ∙ found))); from = from }
    placed_by rest e found none (CloseThenDial k) = record { owned = h; dials = λ d is. absurd (cc is); from = from }

    at_next : Option Exchange → Placement
    at_next p = elim p as (λ c. Placement) [ None ↦ place_each ns s | Some e ↦ at_place e (place_for s e) ]

    if_none : Rest → (e : Exchange) → exchange s n ≡ Some e → (place : Option ℕ) → e.place ≡ place → PlacedAt At o (at_next (elim place as (λ c. Option Exchange) [ Some k ↦ None | None ↦ Some e ]))
    if_none rest e found (Some k) is = rest s from h
    if_none rest e found None is = placed_by rest e found is (place_for s e)

    by : Rest → (p : Option Exchange) → exchange s n ≡ p → PlacedAt At o (at_next (elim p as (λ c. Option Exchange) [ None ↦ None | Some e ↦ if_unplaced e ]))
    by rest None found = rest s from h
    by rest (Some e) found = if_none rest e found e.place refl

pub placing-placed : {At : Type 0} (s : State) → Holds (Owned none_but At) s → PlacedAt At s (placing s)
placing-placed s h = place_each-placed s _ s (λ j l. (j, l, refl)) h

-- ---- dials

conn_added : {At : Type 0} (j : Conn) (s : State) (top : ℕ) → ((g : Conn) → IsIn g s.conns → g.number ≡ j.number → ⊥) → j.line ≡ [] → j.answer ≡ None → Holds (Owned none_but At) s → Holds (Owned none_but At) (record s { conns = s.conns ++ j ∷ []; top = top })
conn_added {At} j s top fresh empty quiet h = holds (record {
  callers = f.callers;
  apart = f.apart;
  given = f.given;
  one = f.one;
  plain = f.plain;
  fills = f.fills;
  kinds = f.kinds;
  asks = f.asks;
  amid = f.amid;
  lined = λ g m l line. lined_by g m line (in_push g s.conns j l);
  conns = λ g o l m eq. conns_by g o eq (in_push g s.conns j l) (in_push o s.conns j m);
  own = λ g o e l m i gl ol. own_by g o e i gl ol (in_push g s.conns j l) (in_push o s.conns j m);
  placed = λ g e l i line none. placed_by g e i line none (in_push g s.conns j l);
  front = λ g a l isnt is. front_by g a is (in_push g s.conns j l);
  behind = λ g e l i line headed. behind_by g e i line headed (in_push g s.conns j l);
})
  where
    f : Facts none_but At s.clients s.exchanges s.conns s.next_exchange
    f = facts_of h

    no_line : (g : Conn) (m : ℕ) → g ≡ j → IsIn m g.line → ⊥
    no_line g m eq line = subst (λ (ns : List ℕ). IsIn m ns) (ap (λ (z : Conn). z.line) eq ∙ empty) line

    lined_by : (g : Conn) (m : ℕ) → IsIn m g.line → IsIn g s.conns ⊎ (g ≡ j) → m < s.next_exchange
    lined_by g m line (inl l) = f.lined g m l line
    lined_by g m line (inr eq) = absurd (no_line g m eq line)

    conns_by : (g o : Conn) → g.number ≡ o.number → IsIn g s.conns ⊎ (g ≡ j) → IsIn o s.conns ⊎ (o ≡ j) → g ≡ o
    conns_by g o eq (inl l) (inl m) = f.conns g o l m eq
    conns_by g o eq (inl l) (inr q) = absurd (fresh g l (eq ∙ ap (λ (z : Conn). z.number) q))
    conns_by g o eq (inr p) (inl m) = absurd (fresh o m (sym eq ∙ ap (λ (z : Conn). z.number) p))
    conns_by g o eq (inr p) (inr q) = p ∙ sym q

    own_by : (g o : Conn) (e : Exchange) → IsIn e s.exchanges → IsIn e.number g.line → IsIn e.number o.line → IsIn g s.conns ⊎ (g ≡ j) → IsIn o s.conns ⊎ (o ≡ j) → g.number ≡ o.number
    own_by g o e i gl ol (inl l) (inl m) = f.own g o e l m i gl ol
    own_by g o e i gl ol (inl l) (inr q) = absurd (no_line o e.number q ol)
    own_by g o e i gl ol (inr p) m = absurd (no_line g e.number p gl)

    placed_by : (g : Conn) (e : Exchange) → IsIn e s.exchanges → IsIn e.number g.line → e.place ≡ None → IsIn g s.conns ⊎ (g ≡ j) → ⊥
    placed_by g e i line none (inl l) = f.placed g e l i line none
    placed_by g e i line none (inr p) = no_line g e.number p line

    front_by : (g : Conn) (a : Answer) → g.answer ≡ Some a → IsIn g s.conns ⊎ (g ≡ j) → Answered s.exchanges g
    front_by g a is (inl l) = f.front g a l (λ none. cc none) is
    front_by g a is (inr p) = let both : None ≡ Some a = sym (ap (λ (z : Conn). z.answer) p ∙ quiet) ∙ is in absurd (cc both)

    behind_by : (g : Conn) (e : Exchange) → IsIn e s.exchanges → IsIn e.number g.line → is_headed e ≡ true → IsIn g s.conns ⊎ (g ≡ j) → (first_of g.line ≡ Some e.number) × (g.answer ≡ None → ⊥)
    behind_by g e i line headed (inl l) = f.behind g e l i line headed
    behind_by g e i line headed (inr p) = absurd (no_line g e.number p line)

pub dialled-owned : {At : Type 0} (n : ℕ) (host : Bytes) (port : ℕ) (s : State) → ((g : Conn) → IsIn g s.conns → g.number ≡ n → ⊥) → Holds (Owned none_but At) s → Holds (Owned none_but At) (dialled n host port (placing s))
unfolding dialled
dialled-owned {At} n host port s fresh h = by (placing s).pause refl
  where
    p : PlacedAt At s (placing s)
    p = placing-placed s h

    by : (pause : Pause) → (placing s).pause ≡ pause → Holds (Owned none_but At) (elim pause as (λ c. State) [
      | AllPlaced ↦ (placing s).state
      | WaitsDrop k e ↦ (placing s).state
      | WaitsDial e ↦ put_on e.number n (record (placing s).state { conns = (placing s).state.conns ++ new_conn n host port (placing s).state.clock ∷ []; top = n })
    ])
    by AllPlaced is = p.owned
    by (WaitsDrop k e) is = p.owned
    by (WaitsDial e) is =
        let w = p.dials e is in
        put_on-owned e.number n _ e w.2 w.1 (conn_added (new_conn n host port (placing s).state.clock) (placing s).state n (λ g l eq. let u = p.from g l in fresh u.0 u.1 (sym u.2 ∙ eq)) refl refl p.owned)

-- ---- a dial that is refused

refused_dial-owned : {At : Type 0} (e : Exchange) (s : State) → IsIn e s.exchanges → e.place ≡ None → Holds Early s → Holds (Owned none_but At) s → Holds (Owned none_but At) (refused_dial e (lose_attempt e s))
unfolding refused_dial
refused_dial-owned {At} e s there nowhere early h = when_so (may_ask_again t e.number) (λ may. lost) (λ isnt. fill-owned _ (end_exchange-comes e.number t (lose_attempt-comes {late = false} e s (may_left e s.exchanges (alike_coming {late = false} e s there early)) early)) (end_exchange-owned e.number t (free isnt) unanswered lost))
  where
    t : State
    t = lose_attempt e s

    unheaded : is_headed e ≡ false
    unheaded = ((facts_of h).plain e there).bare nowhere

    lost : Holds (Owned none_but At) (lose_attempt e s)
    lost = lose_attempt-owned e s (stands_there e s.exchanges there) (sure_unheaded {ask = None} {conn = None} e s there unheaded h) h

    known : AreAlike e (lose_attempt e s).exchanges
    known = alike_lost e e s (alike e s there h)

    free : may_ask_again (lose_attempt e s) e.number ≡ false → AreFree none_but (is_exchange e.number) (lose_attempt e s).clients (lose_attempt e s).exchanges
    free isnt x d i hit j off_ its = record {
      waited = λ un a. again_not e (lose_attempt e s) lost x d i (same_number x.number e.number hit) j its isnt a.tries;
      more = λ body a. (let both : true ≡ false = sym (relaying_headed x body) ∙ (known x i (same_number x.number e.number hit)).1 ∙ unheaded in cc both);
    }

    unanswered : (k : Conn) (a : Answer) → IsIn k (lose_attempt e s).conns → (None ≡ Some k.number → ⊥) → k.answer ≡ Some a → first_of k.line ≡ Some e.number → ⊥
    unanswered k a l isnt is first =
        let w = (facts_of lost).front k a l isnt is in
        let both : Some w.number ≡ Some e.number = sym w.first ∙ first in
        let x = there_lost e s there in
        let no_ : true ≡ false = sym (w.headed x.0 x.1 (x.2 ∙ sym (cc both))) ∙ (known x.0 x.1 x.2).1 ∙ unheaded in
        cc no_

pub undialled-owned : {At : Type 0} (s : State) → Holds Early (placing s).state → Holds (Owned none_but At) s → Holds (Owned none_but At) (undialled (placing s))
unfolding undialled
undialled-owned {At} s early h = by (placing s).pause refl
  where
    p : PlacedAt At s (placing s)
    p = placing-placed s h

    by : (pause : Pause) → (placing s).pause ≡ pause → Holds (Owned none_but At) (elim pause as (λ c. State) [
      | AllPlaced ↦ (placing s).state
      | WaitsDrop k e ↦ (placing s).state
      | WaitsDial e ↦ refused_dial e (lose_attempt e (record (placing s).state { failures = (placing s).state.failures + 1 }))
    ])
    by AllPlaced is = p.owned
    by (WaitsDrop k e) is = p.owned
    by (WaitsDial e) is = let w = p.dials e is in refused_dial-owned e (record (placing s).state { failures = (placing s).state.failures + 1 }) w.0 w.1 (holds (facts_of early)) (holds (facts_of p.owned))

-- ---- connections that are dropped, and clients that are shut

out-owned : {At : Type 0} (n : ℕ) (s : State) → Holds (Owned none_but At) s → Holds (Owned none_but At) (out n s)
unfolding out
out-owned {At} n s h = holds (let f = facts_of h in record {
  callers = f.callers;
  apart = f.apart;
  given = f.given;
  one = f.one;
  plain = f.plain;
  fills = f.fills;
  kinds = f.kinds;
  asks = f.asks;
  amid = f.amid;
  lined = λ k m l line. f.lined k m (was k l) line;
  conns = λ j k l m eq. f.conns j k (was j l) (was k m) eq;
  own = λ j k e l m i jl kl. f.own j k e (was j l) (was k m) i jl kl;
  placed = λ k e l i line none. f.placed k e (was k l) i line none;
  front = λ k a l isnt is. f.front k a (was k l) isnt is;
  behind = λ k e l i line headed. f.behind k e (was k l) i line headed;
})
  where
    was : (k : Conn) → IsIn k (without (is_conn n) s.conns) → IsIn k s.conns
    was k l = (in_filter (λ j. not (is_conn n j)) k s.conns l).0

pub dropped-owned : {At : Type 0} (n : ℕ) (s : State) → Holds (Owned none_but At) s → Holds (Owned none_but At) (dropped n s)
unfolding dropped
dropped-owned n s h = each_of (conn s n) h (λ k. when k.is_closing (out-owned n s h) (out-owned n _ (placing-placed s h).owned))

pub shut-owned : {At : Type 0} (n : ℕ) (s : State) → Holds (Owned none_but At) s → Holds (Owned none_but At) (shut n s)
unfolding shut
shut-owned {At} n s h = holds (let f = facts_of (close_client-owned {At = At} n false s h) in record {
  callers = λ c d i j eq. f.callers c d (was c i) (was d j) eq;
  apart = f.apart;
  given = f.given;
  one = f.one;
  plain = f.plain;
  fills = λ e c i j its some isnt. f.fills e c i (was c j) its some isnt;
  kinds = λ e c i j its isnt waits. f.kinds e c i (was c j) its isnt waits;
  asks = λ c j isnt a. f.asks c (was c j) isnt a;
  amid = λ c j isnt a. f.amid c (was c j) isnt a;
  lined = f.lined;
  conns = f.conns;
  own = f.own;
  placed = f.placed;
  front = f.front;
  behind = f.behind;
})
  where
    was : (c : Client) → IsIn c (without (is_client n) (close_client n false s).clients) → IsIn c (close_client n false s).clients
    was c i = (in_filter (λ d. not (is_client n d)) c (close_client n false s).clients i).0
