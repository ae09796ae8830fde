-- An exchange is bound to the row that the body of its answer belongs to.
use Rattle.std.proofs.Common.{◌≡◌, refl, ℕ, ◌<◌, Bool, true, false, not, Option, Some, None, inl, inr, sym, subst, ap, ◌∙◌}
use Rattle.pp_target.specs.Key.{text_of}
use Rattle.pp_valid.specs.declared.version.Version.{Version}
use Rattle.pp_law.specs.Connections.{is_exchange, on_client_of, on_exchange, without_row, is_unfilled, give_up_row, charge}
use Rattle.pp_law.specs.Lists.{Bytes, change}
use Rattle.pp_law.specs.OwnHeads.{key_of, use_body}
use Rattle.pp_law.specs.Stages.{bound_in, bound_of, is_headed, is_pending}
use Rattle.pp_law.specs.State.{State, Aim, Through, Own, Filling, Answer, Bound, Body, Client, Conn, Course, Exchange, Instance}
use Rattle.pp_law.specs.Table.{is_row_of, is_left_over, clear, swept}
use Rattle.pp_laws.specs.Runs.{IsIn}
use Rattle.pp_laws.proofs.Callers.{same_parts}
use Rattle.pp_laws.proofs.Exchanges.{give_up_row-sound, on_client_of-sound}
use Rattle.pp_laws.proofs.KeptClients.{SameClient}
use Rattle.pp_laws.proofs.Lists.{Changed, in_change, in_filter, other, rise_change, same}
use Rattle.pp_laws.proofs.Sound.{Brings, FactsOf, Fitting, Since, Sound, exchange_number, facts_of, is_noted, sound}
use Rattle.pp_laws.proofs.Tests.{same_number}
use Rattle.pp_laws.proofs.Untouched.{Untouched, clear-untouched}

-- ---- before and behind the head of an answer

-- this exchange is looked at apart; it has its place, and is not bound yet
pub record Before (b : Since) (e : Exchange) (s : State) : Type 0 where
  pub apart : b.excepts ≡ Some e.number
  pub is_sound : Sound b s
  pub key : (d : Exchange) → IsIn d s.exchanges → d.number ≡ e.number → key_of d ≡ key_of e
  pub aim : (d : Exchange) → IsIn d s.exchanges → d.number ≡ e.number → d.aim ≡ e.aim
  pub place : (d : Exchange) → IsIn d s.exchanges → d.number ≡ e.number → ¬ (d.place ≡ None)
  pub unbound : (d : Exchange) → IsIn d s.exchanges → d.number ≡ e.number → bound_of d ≡ None

-- what it is bound to is what its answer brings
abbrev pub Starts : Answer → Exchange → State → Type 0
Starts a e t = (d : Exchange) (to : Bound) (x : Instance) → IsIn d t.exchanges → d.number ≡ e.number → bound_of d ≡ Some to → IsIn x t.instances → x.id ≡ to.instance → Fitting a to x

-- all others are as they were
pub record Behind (b : Since) (a : Answer) (e : Exchange) (s t : State) : Type 0 where
  pub is_sound : Sound b t
  pub conns : t.conns ≡ s.conns
  pub others : (d : Exchange) → IsIn d t.exchanges → (g : Exchange) × IsIn g s.exchanges × (d.number ≡ g.number) × (¬ (d.number ≡ e.number) → bound_of d ≡ bound_of g)
  pub starts : Starts a e t

pub before_on : {b : Since} {e : Exchange} (s t : State) → Untouched s t → Sound b t → Before b e s → Before b e t
before_on s t u h p = record {
  apart = p.apart;
  is_sound = h;
  key = λ d i is. p.key d (was d i) is;
  aim = λ d i is. p.aim d (was d i) is;
  place = λ d i is. p.place d (was d i) is;
  unbound = λ d i is. p.unbound d (was d i) is;
}
  where
    was : (d : Exchange) → IsIn d t.exchanges → IsIn d s.exchanges
    was d i = subst (λ es. IsIn d es) u.exchanges i

pub behind_on : {b : Since} {a : Answer} {e : Exchange} (s t u : State) → Untouched s t → Behind b a e t u → Behind b a e s u
behind_on s t u same_lines p = record {
  is_sound = p.is_sound;
  conns = p.conns ∙ same_lines.conns;
  others = λ d i. let f = p.others d i in (f.0, subst (λ es. IsIn f.0 es) same_lines.exchanges f.1, f.2, f.3);
  starts = p.starts;
}

-- clients are told
pub behind_told : {b : Since} {a : Answer} {e : Exchange} (f : Client → Client) (s t : State) → ((c : Client) → SameClient (f c) c) → Behind b a e s t → Behind b a e s (on_client_of e f t)
unfolding on_client_of
behind_told {b} {a} {e} f s t kept p = record { is_sound = on_client_of-sound e f t kept p.is_sound; conns = p.conns; others = p.others; starts = p.starts }

pub behind_same : {b : Since} (a : Answer) (e : Exchange) (s : State) → Before b e s → Behind b a e s s
behind_same a e s p = record {
  is_sound = p.is_sound;
  conns = refl;
  others = λ d i. (d, i, refl, λ apart. refl);
  starts = λ d to x i is bound j id. let both : None ≡ Some to = sym (p.unbound d i is) ∙ bound in absurd (cc both);
}

pub behind_when : {b : Since} {a : Answer} {e : Exchange} {s : State} (t : Bool) {x y : State} → (t ≡ true → Behind b a e s x) → (t ≡ false → Behind b a e s y) → Behind b a e s (elim t as (λ c. State) [ true ↦ x | false ↦ y ])
behind_when true hx hy = hx refl
behind_when false hx hy = hy refl

pub behind_each : {A : Type 0} {b : Since} {a : Answer} {e : Exchange} {s : State} (o : Option A) {x : State} {y : A → State} → (o ≡ None → Behind b a e s x) → ((z : A) → o ≡ Some z → Behind b a e s (y z))
    → Behind b a e s (elim o as (λ c. State) [ None ↦ x | Some z ↦ y z ])
behind_each None hx hy = hx refl
behind_each (Some z) hx hy = hy z refl

pub behind_aim : {b : Since} {a : Answer} {e : Exchange} {s : State} (aim : Aim) {x y : State} {z : Version → ℕ → ℕ → State} → Behind b a e s x → (is_noted aim ≡ true → Behind b a e s y)
    → ((v : Version) (from to : ℕ) → is_noted aim ≡ true → Behind b a e s (z v from to)) → Behind b a e s (elim aim as (λ c. State) [ Through ↦ x | Own ↦ y | Filling v from to ↦ z v from to ])
behind_aim Through hx hy hz = hx
behind_aim Own hx hy hz = hy refl
behind_aim (Filling v from to) hx hy hz = hz v from to refl

-- ---- a bound that is new, or goes on

pub record Rebinds (s : State) (d e : Exchange) : Type 0 where
  pub number : e.number ≡ d.number
  pub key : key_of e ≡ key_of d
  pub aim : e.aim ≡ d.aim
  pub place : e.place ≡ d.place
  pub bounds : (to : Bound) → bound_of e ≡ Some to → to.instance < s.next_instance
  pub noted : (to : Bound) → bound_of e ≡ Some to → is_noted d.aim ≡ true
  pub keyed : (to : Bound) (x : Instance) → bound_of e ≡ Some to → IsIn x s.instances → x.id ≡ to.instance → x.key ≡ key_of d
  pub unplaced : e.place ≡ None → bound_of e ≡ None
  pub unheaded : is_headed e ≡ false → bound_of e ≡ None

pub rebound : (b : Since) (n : ℕ) (f : Exchange → Exchange) (s : State) → b.excepts ≡ Some n → ((d : Exchange) → (f d).number ≡ d.number) → ((d : Exchange) → IsIn d s.exchanges → d.number ≡ n → Rebinds s d (f d))
    → FactsOf b s → FactsOf b (record s { exchanges = change (is_exchange n) f s.exchanges })
rebound b n f s apart number rebinds h = record {
  grew = h.grew;
  lines = h.lines;
  asks = record {
    rise = rise_change exchange_number (is_exchange n) f number s.exchanges h.asks.rise;
    given = λ e i. given_by e (at e i);
    bounds = λ e to i is. bounds_by e to (at e i) is;
    noted = λ e to i is. noted_by e to (at e i) is;
    unplaced = λ e i is. unplaced_by e (at e i) is;
    unheaded = λ e i is. unheaded_by e (at e i) is;
  };
  rows = h.rows;
  placed = λ k e i j l. placed_by k e i (at e j) l;
  brings = λ k e to i j l is but. brings_by k e to i (at e j) l is but;
  keyed = λ e to x i is j id. keyed_by e to x (at e i) is j id;
  callers = h.callers;
  held = h.held;
}
  where
    at : (e : Exchange) → IsIn e (change (is_exchange n) f s.exchanges) → Changed (is_exchange n) f s.exchanges e
    at e i = in_change (is_exchange n) f e s.exchanges i

    of : (e d : Exchange) → IsIn d s.exchanges → is_exchange n d ≡ true → e ≡ f d → Rebinds s d e
    of e d i hit eq = subst (λ (x : Exchange). Rebinds s d x) (sym eq) (rebinds d i (same_number d.number n hit))

    given_by : (e : Exchange) → Changed (is_exchange n) f s.exchanges e → e.number < s.next_exchange
    given_by e (same i isnt) = h.asks.given e i
    given_by e (other d i hit eq) = subst (λ m. m < s.next_exchange) (sym (of e d i hit eq).number) (h.asks.given d i)

    bounds_by : (e : Exchange) (to : Bound) → Changed (is_exchange n) f s.exchanges e → bound_of e ≡ Some to → to.instance < s.next_instance
    bounds_by e to (same i isnt) some = h.asks.bounds e to i some
    bounds_by e to (other d i hit eq) some = (of e d i hit eq).bounds to some

    noted_by : (e : Exchange) (to : Bound) → Changed (is_exchange n) f s.exchanges e → bound_of e ≡ Some to → is_noted e.aim ≡ true
    noted_by e to (same i isnt) some = h.asks.noted e to i some
    noted_by e to (other d i hit eq) some = let r = of e d i hit eq in ap is_noted r.aim ∙ r.noted to some

    unplaced_by : (e : Exchange) → Changed (is_exchange n) f s.exchanges e → e.place ≡ None → bound_of e ≡ None
    unplaced_by e (same i isnt) none = h.asks.unplaced e i none
    unplaced_by e (other d i hit eq) none = (of e d i hit eq).unplaced none

    unheaded_by : (e : Exchange) → Changed (is_exchange n) f s.exchanges e → is_headed e ≡ false → bound_of e ≡ None
    unheaded_by e (same i isnt) none = h.asks.unheaded e i none
    unheaded_by e (other d i hit eq) none = (of e d i hit eq).unheaded none

    placed_by : (k : Conn) (e : Exchange) → IsIn k s.conns → Changed (is_exchange n) f s.exchanges e → IsIn e.number k.line → e.place ≡ Some k.number
    placed_by k e i (same j isnt) l = h.placed k e i j l
    placed_by k e i (other d j hit eq) l = let r = of e d j hit eq in r.place ∙ h.placed k d i j (subst (λ m. IsIn m k.line) r.number l)

    brings_by : (k : Conn) (e : Exchange) (to : Bound) → IsIn k s.conns → Changed (is_exchange n) f s.exchanges e → IsIn e.number k.line → bound_of e ≡ Some to → ¬ (b.excepts ≡ Some e.number) → Brings s.instances k e to
    brings_by k e to i (same j isnt) l some but = h.brings k e to i j l some but
    brings_by k e to i (other d j hit eq) l some but = absurd (but (apart ∙ ap (λ m. Some m) (sym ((of e d j hit eq).number ∙ same_number d.number n hit))))

    keyed_by : (e : Exchange) (to : Bound) (x : Instance) → Changed (is_exchange n) f s.exchanges e → bound_of e ≡ Some to → IsIn x s.instances → x.id ≡ to.instance → x.key ≡ key_of e
    keyed_by e to x (same i isnt) some j id = h.keyed e to x i some j id
    keyed_by e to x (other d i hit eq) some j id = let r = of e d i hit eq in r.keyed to x some j id ∙ sym r.key

-- what it is bound to is a row of its key, to which its answer belongs
abbrev pub BindsTo : Answer → Exchange → State → Option Bound → Type 0
BindsTo a e s None = Unit {0}
BindsTo a e s (Some to) = (to.instance < s.next_instance) × (is_noted e.aim ≡ true) × ((x : Instance) → IsIn x s.instances → x.id ≡ to.instance → (x.key ≡ key_of e) × Fitting a to x)

use_rebinds : {b : Since} (a : Answer) (e : Exchange) (body : Body) (bound : Option Bound) (s : State) → bound_in body ≡ bound → is_pending body ≡ false → Before b e s → BindsTo a e s bound → (d : Exchange) → IsIn d s.exchanges → d.number ≡ e.number
    → Rebinds s d (record d { body = body })
use_rebinds a e body None s none came p binds d i is = record {
  number = refl;
  key = refl;
  aim = refl;
  place = refl;
  bounds = λ to some. let both : None ≡ Some to = sym none ∙ some in absurd (cc both);
  noted = λ to some. let both : None ≡ Some to = sym none ∙ some in absurd (cc both);
  keyed = λ to x some j id. let both : None ≡ Some to = sym none ∙ some in absurd (cc both);
  unplaced = λ nowhere. none;
  unheaded = λ isnt. none;
}
use_rebinds a e body (Some at) s bound came p binds d i is = record {
  number = refl;
  key = refl;
  aim = refl;
  place = refl;
  bounds = λ to some. subst (λ (o : Bound). o.instance < s.next_instance) (at_is to some) binds.0;
  noted = λ to some. ap is_noted (p.aim d i is) ∙ binds.1;
  keyed = λ to x some j id. (binds.2 x j (id ∙ sym (ap (λ (o : Bound). o.instance) (at_is to some)))).0 ∙ sym (p.key d i is);
  unplaced = λ none. absurd (p.place d i is none);
  unheaded = λ isnt. absurd (headed isnt);
}
  where
    at_is : (to : Bound) → bound_in body ≡ Some to → at ≡ to
    at_is to some = let both : Some at ≡ Some to = sym bound ∙ some in cc both

    headed : not (is_pending body) ≡ false → ⊥
    headed isnt = let both : true ≡ false = sym (ap not came) ∙ isnt in cc both

starts_by : (a : Answer) (e : Exchange) (bound : Option Bound) (s : State) (to : Bound) (x : Instance) → BindsTo a e s bound → bound ≡ Some to → IsIn x s.instances → x.id ≡ to.instance → Fitting a to x
starts_by a e None s to x binds some i id = absurd (cc some)
starts_by a e (Some at) s to x binds some i id = let eq : at ≡ to = cc in subst (λ (o : Bound). Fitting a o x) eq ((binds.2 x i (id ∙ sym (ap (λ (o : Bound). o.instance) eq))).1)

pub behind_use : {b : Since} (a : Answer) (e : Exchange) (body : Body) (s : State) → is_pending body ≡ false → Before b e s → BindsTo a e s (bound_in body) → Behind b a e s (use_body e body s)
unfolding use_body on_exchange
behind_use {b} a e body s came p binds = record {
  is_sound = sound (rebound b e.number (λ x. record x { body = body }) s p.apart (λ d. refl) (use_rebinds a e body (bound_in body) s refl came p binds) (facts_of p.is_sound));
  conns = refl;
  others = λ d i. others_by d (in_change (is_exchange e.number) (λ x. record x { body = body }) d s.exchanges i);
  starts = λ d to x i is some j id. starts_at d to x (in_change (is_exchange e.number) (λ g. record g { body = body }) d s.exchanges i) is some j id;
}
  where
    others_by : (d : Exchange) → Changed (is_exchange e.number) (λ x. record x { body = body }) s.exchanges d → (g : Exchange) × IsIn g s.exchanges × (d.number ≡ g.number) × (¬ (d.number ≡ e.number) → bound_of d ≡ bound_of g)
    others_by d (same i isnt) = (d, i, refl, λ apart. refl)
    others_by d (other g i hit eq) = (g, i, ap exchange_number eq, λ apart. absurd (apart (ap exchange_number eq ∙ same_number g.number e.number hit)))

    starts_at : (d : Exchange) (to : Bound) (x : Instance) → Changed (is_exchange e.number) (λ g. record g { body = body }) s.exchanges d → d.number ≡ e.number → bound_of d ≡ Some to → IsIn x s.instances → x.id ≡ to.instance → Fitting a to x
    starts_at d to x (same i isnt) is some j id = let both : None ≡ Some to = sym (p.unbound d i is) ∙ some in absurd (cc both)
    starts_at d to x (other g i hit eq) is some j id = starts_by a e (bound_in body) s to x binds (sym (ap bound_of eq) ∙ some) j id

-- ---- what the exchange costs its request

-- none comes where some are out
swept_from : (s : State) (x : Instance) → IsIn x (swept s).instances → IsIn x s.instances
unfolding swept
swept_from s x i = (in_filter (λ y. not (is_left_over s y)) x s.instances i).0

cleared_from : (key : Bytes) (s : State) (x : Instance) → IsIn x (clear key s).instances → (y : Instance) × IsIn y s.instances × (x.id ≡ y.id) × (x.version ≡ y.version)
unfolding clear
cleared_from key s x i = marked (in_change (is_row_of key) (λ y. record y { is_retired = true }) x s.instances (swept_from _ x i))
  where
    marked : Changed (is_row_of key) (λ y. record y { is_retired = true }) s.instances x → (y : Instance) × IsIn y s.instances × (x.id ≡ y.id) × (x.version ≡ y.version)
    marked (same j isnt) = (x, j, refl, refl)
    marked (other y j hit eq) = (y, j, ap (λ (z : Instance). z.id) eq, ap (λ (z : Instance). z.version) eq)

-- what it leaves of connections, exchanges and instances
GivenUp : Exchange → State → Type 0
GivenUp e s = ((give_up_row e s).conns ≡ s.conns)
    × ((d : Exchange) → IsIn d (give_up_row e s).exchanges → (g : Exchange) × IsIn g s.exchanges × (d.number ≡ g.number) × (bound_of d ≡ bound_of g))
    × ((x : Instance) → IsIn x (give_up_row e s).instances → (y : Instance) × IsIn y s.instances × (x.id ≡ y.id) × (x.version ≡ y.version))

given_up-by : (e : Exchange) (s : State) → GivenUp e s
unfolding GivenUp give_up_row on_exchange on_client_of
given_up-by e s = by (is_unfilled s e)
  where
    key : Bytes
    key = text_of e.key

    exchanges : (d : Exchange) → Changed (is_exchange e.number) (λ x. record x { asker = None }) (clear key s).exchanges d → (g : Exchange) × IsIn g s.exchanges × (d.number ≡ g.number) × (bound_of d ≡ bound_of g)
    exchanges d (same i isnt) = (d, subst (λ es. IsIn d es) (clear-untouched key s).exchanges i, refl, refl)
    exchanges d (other g i hit eq) = (g, subst (λ es. IsIn g es) (clear-untouched key s).exchanges i, ap exchange_number eq, ap bound_of eq)

    left : State
    left = on_exchange e.number (λ x. record x { asker = None }) (on_client_of e without_row (clear key s))

    by : (t : Bool) → ((elim t as (λ c. State) [ false ↦ s | true ↦ left ]).conns ≡ s.conns)
        × ((d : Exchange) → IsIn d (elim t as (λ c. State) [ false ↦ s | true ↦ left ]).exchanges → (g : Exchange) × IsIn g s.exchanges × (d.number ≡ g.number) × (bound_of d ≡ bound_of g))
        × ((x : Instance) → IsIn x (elim t as (λ c. State) [ false ↦ s | true ↦ left ]).instances → (y : Instance) × IsIn y s.instances × (x.id ≡ y.id) × (x.version ≡ y.version))
    by false = (refl, (λ d i. (d, i, refl, refl)), λ x i. (x, i, refl, refl))
    by true = ((clear-untouched key s).conns, (λ d i. exchanges d (in_change (is_exchange e.number) (λ x. record x { asker = None }) d (clear key s).exchanges i)), λ x i. cleared_from key s x i)

fitting_as : (a : Answer) (to : Bound) (x y : Instance) → x.version ≡ y.version → Fitting a to y → Fitting a to x
fitting_as a to x y is (inl fits) = inl (fits.0 ∙ ap (λ v. Some v) (sym is), fits.1)
fitting_as a to x y is (inr empty) = inr empty

give_up_row-behind : {b : Since} {a : Answer} {e : Exchange} (s t : State) → Behind b a e s t → Behind b a e s (give_up_row e t)
unfolding GivenUp
give_up_row-behind {b} {a} {e} s t p = record {
  is_sound = give_up_row-sound e t p.is_sound;
  conns = (given_up t).0 ∙ p.conns;
  others = λ d i. let f = (given_up t).1 d i in let g = p.others f.0 f.1 in (g.0, g.1, f.2 ∙ g.2, λ apart. f.3 ∙ g.3 (λ is. apart (f.2 ∙ is)));
  starts = λ d to x i is some j id.
      let f = (given_up t).1 d i in
      let y = (given_up t).2 x j in
      fitting_as a to x y.0 y.3 (p.starts f.0 to y.0 f.1 (sym f.2 ∙ is) (sym f.3 ∙ some) y.1 (sym y.2 ∙ id));
}
  where
    given_up : (t : State) → GivenUp e t
    given_up t = given_up-by e t

pub charge-behind : {b : Since} {a : Answer} {e : Exchange} (cost : Course → Course) (s t : State) → Behind b a e s t → Behind b a e s (charge cost e t)
unfolding charge
charge-behind {b} {a} {e} cost s t p = give_up_row-behind s _ (behind_told (λ c. record c { course = cost c.course }) s t (λ c. same_parts _ c refl refl refl) p)
