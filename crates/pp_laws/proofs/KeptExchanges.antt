-- What is kept where exchanges are changed in what nothing here depends on, come or go.
use Rattle.std.proofs.Common.{◌≡◌, ◌⊎◌, refl, ℕ, ◌+◌, ◌<◌, Bool, true, false, List, [], ◌∷◌, ◌++◌, map, filter, Option, Some, None, inl, inr, sym, subst, ap, ◌∙◌, arith}
use Rattle.pp_law.specs.Lists.{change}
use Rattle.pp_law.specs.OwnHeads.{key_of}
use Rattle.pp_law.specs.Stages.{bound_of, is_headed}
use Rattle.pp_law.specs.State.{State, Answer, Conn, Exchange, Instance, Bound}
use Rattle.pp_laws.specs.Numbers.{AreRising}
use Rattle.pp_laws.specs.Runs.{IsIn}
use Rattle.pp_laws.proofs.Lists.{Changed, From, in_change, in_filter, in_map, in_push, other, rise_change, rise_filter, rise_map, rise_push, same}
use Rattle.pp_laws.proofs.Sound.{Brings, FactsOf, Fitting, Since, exchange_number, is_noted}

-- ---- exchanges

-- it was there, with that place and that bound
pub record ExchangeFrom (exchanges : List Exchange) (e : Exchange) : Type 0 where
  pub was : Exchange
  pub there : IsIn was exchanges
  pub number : e.number ≡ was.number
  pub key : key_of e ≡ key_of was
  pub aim : e.aim ≡ was.aim
  pub place : e.place ≡ was.place
  pub headed : is_headed e ≡ is_headed was
  pub bound : bound_of e ≡ bound_of was

pub brings_same : (instances : List Instance) (k : Conn) (e d : Exchange) (to : Bound) → e.number ≡ d.number → Brings instances k d to → Brings instances k e to
brings_same instances k e d to is w = record { front = w.front ∙ ap (λ n. Some n) (sym is); answer = w.answer; is = w.is; fits = w.fits }

pub exchanges_kept : (b : Since) (s : State) (exchanges : List Exchange) → AreRising (map exchange_number exchanges) → ((e : Exchange) → IsIn e exchanges → ExchangeFrom s.exchanges e)
    → FactsOf b s → FactsOf b (record s { exchanges = exchanges })
exchanges_kept b s exchanges rise from h = record {
  grew = h.grew;
  lines = h.lines;
  asks = record {
    rise = rise;
    given = λ e i. let f = from e i in subst (λ n. n < s.next_exchange) (sym f.number) (h.asks.given f.was f.there);
    bounds = λ e to i is. let f = from e i in h.asks.bounds f.was to f.there (sym f.bound ∙ is);
    noted = λ e to i is. let f = from e i in ap is_noted f.aim ∙ h.asks.noted f.was to f.there (sym f.bound ∙ is);
    unplaced = λ e i is. let f = from e i in f.bound ∙ h.asks.unplaced f.was f.there (sym f.place ∙ is);
    unheaded = λ e i is. let f = from e i in f.bound ∙ h.asks.unheaded f.was f.there (sym f.headed ∙ is);
  };
  rows = h.rows;
  placed = λ k e i j l. let f = from e j in f.place ∙ h.placed k f.was i f.there (subst (λ n. IsIn n k.line) f.number l);
  brings = λ k e to i j l is isnt. let f = from e j in
      brings_same s.instances k e f.was to f.number (h.brings k f.was to i f.there (subst (λ n. IsIn n k.line) f.number l) (sym f.bound ∙ is) (λ x. isnt (x ∙ ap (λ n. Some n) (sym f.number))));
  keyed = λ e to x i is j id. let f = from e i in h.keyed f.was to x f.there (sym f.bound ∙ is) j id ∙ sym f.key;
  callers = h.callers;
  held = h.held;
}

-- an exchange of which nothing that counts was changed
pub record SameExchange (e d : Exchange) : Type 0 where
  pub number : e.number ≡ d.number
  pub key : key_of e ≡ key_of d
  pub aim : e.aim ≡ d.aim
  pub place : e.place ≡ d.place
  pub headed : is_headed e ≡ is_headed d
  pub bound : bound_of e ≡ bound_of d

pub exchange_from : (exchanges : List Exchange) (e d : Exchange) → IsIn d exchanges → SameExchange e d → ExchangeFrom exchanges e
exchange_from exchanges e d i is = record { was = d; there = i; number = is.number; key = is.key; aim = is.aim; place = is.place; headed = is.headed; bound = is.bound }

pub exchange_same : (e : Exchange) → SameExchange e e
exchange_same e = record { number = refl; key = refl; aim = refl; place = refl; headed = refl; bound = refl }

pub exchanges_changed : (b : Since) (s : State) (p : Exchange → Bool) (f : Exchange → Exchange) → ((e : Exchange) → SameExchange (f e) e) → FactsOf b s → FactsOf b (record s { exchanges = change p f s.exchanges })
exchanges_changed b s p f kept h = exchanges_kept b s (change p f s.exchanges) (rise_change exchange_number p f (λ e. (kept e).number) s.exchanges h.asks.rise) (λ e i. from e (in_change p f e s.exchanges i)) h
  where
    from : (e : Exchange) → Changed p f s.exchanges e → ExchangeFrom s.exchanges e
    from e (same i isnt) = exchange_from s.exchanges e e i (exchange_same e)
    from e (other d i is eq) = exchange_from s.exchanges e d i (subst (λ (x : Exchange). SameExchange x d) (sym eq) (kept d))

-- one that is bound no more
pub record Unbinds (e d : Exchange) : Type 0 where
  pub number : e.number ≡ d.number
  pub key : key_of e ≡ key_of d
  pub aim : e.aim ≡ d.aim
  pub place : e.place ≡ d.place
  pub none : bound_of e ≡ None

-- it was there, and is bound to that or to nothing
record LooseFrom (exchanges : List Exchange) (e : Exchange) : Type 0 where
  was : Exchange
  there : IsIn was exchanges
  number : e.number ≡ was.number
  key : key_of e ≡ key_of was
  aim : e.aim ≡ was.aim
  place : e.place ≡ was.place
  bound : (to : Bound) → bound_of e ≡ Some to → bound_of was ≡ Some to
  none : bound_of was ≡ None → bound_of e ≡ None
  unheaded : is_headed e ≡ false → bound_of e ≡ None

loose_from : (exchanges : List Exchange) (e d : Exchange) → IsIn d exchanges → Unbinds e d → LooseFrom exchanges e
loose_from exchanges e d i u = record {
  was = d;
  there = i;
  number = u.number;
  key = u.key;
  aim = u.aim;
  place = u.place;
  bound = λ to is. let both : None ≡ Some to = sym u.none ∙ is in absurd (cc both);
  none = λ is. u.none;
  unheaded = λ is. u.none;
}

pub exchanges_unbound : (b : Since) (s : State) (p : Exchange → Bool) (f : Exchange → Exchange) → ((e : Exchange) → Unbinds (f e) e) → FactsOf b s → FactsOf b (record s { exchanges = change p f s.exchanges })
exchanges_unbound b s p f unbinds h = record {
  grew = h.grew;
  lines = h.lines;
  asks = record {
    rise = rise_change exchange_number p f (λ e. (unbinds e).number) s.exchanges h.asks.rise;
    given = λ e i. let g = from e i in subst (λ n. n < s.next_exchange) (sym g.number) (h.asks.given g.was g.there);
    bounds = λ e to i is. let g = from e i in h.asks.bounds g.was to g.there (g.bound to is);
    noted = λ e to i is. let g = from e i in ap is_noted g.aim ∙ h.asks.noted g.was to g.there (g.bound to is);
    unplaced = λ e i is. let g = from e i in g.none (h.asks.unplaced g.was g.there (sym g.place ∙ is));
    unheaded = λ e i is. let g = from e i in g.unheaded is;
  };
  rows = h.rows;
  placed = λ k e i j l. let g = from e j in g.place ∙ h.placed k g.was i g.there (subst (λ n. IsIn n k.line) g.number l);
  brings = λ k e to i j l is isnt. let g = from e j in
      brings_same s.instances k e g.was to g.number (h.brings k g.was to i g.there (subst (λ n. IsIn n k.line) g.number l) (g.bound to is) (λ x. isnt (x ∙ ap (λ n. Some n) (sym g.number))));
  keyed = λ e to x i is j id. let g = from e i in h.keyed g.was to x g.there (g.bound to is) j id ∙ sym g.key;
  callers = h.callers;
  held = h.held;
}
  where
    by : (e : Exchange) → Changed p f s.exchanges e → LooseFrom s.exchanges e
    by e (same i isnt) = record { was = e; there = i; number = refl; key = refl; aim = refl; place = refl; bound = λ to is. is; none = λ is. is; unheaded = λ is. h.asks.unheaded e i is }
    by e (other d i is eq) = loose_from s.exchanges e d i (subst (λ (x : Exchange). Unbinds x d) (sym eq) (unbinds d))

    from : (e : Exchange) → IsIn e (change p f s.exchanges) → LooseFrom s.exchanges e
    from e i = by e (in_change p f e s.exchanges i)

pub exchanges_filtered : (b : Since) (s : State) (p : Exchange → Bool) → FactsOf b s → FactsOf b (record s { exchanges = filter p s.exchanges })
exchanges_filtered b s p h =
    exchanges_kept b s (filter p s.exchanges) (rise_filter exchange_number p s.exchanges h.asks.rise) (λ e i. exchange_from s.exchanges e e (in_filter p e s.exchanges i).0 (exchange_same e)) h

-- a new one, that stands nowhere and is not bound
pub exchange_pushed : (b : Since) (s : State) (e : Exchange) → e.number ≡ s.next_exchange → bound_of e ≡ None → FactsOf b s → FactsOf b (record s { exchanges = s.exchanges ++ e ∷ []; next_exchange = s.next_exchange + 1 })
exchange_pushed b s e number none h = record {
  grew = h.grew;
  lines = record { rise = h.lines.rise; given = h.lines.given; asked = λ k n i l. more n (h.lines.asked k n i l) };
  asks = record {
    rise = rise_push exchange_number s.exchanges e h.asks.rise (λ d i. subst (λ n. d.number < n) (sym number) (h.asks.given d i));
    given = λ d i. given_by d (in_push d s.exchanges e i);
    bounds = λ d to i is. bounds_by d to (in_push d s.exchanges e i) is;
    noted = λ d to i is. noted_by d to (in_push d s.exchanges e i) is;
    unplaced = λ d i is. unplaced_by d (in_push d s.exchanges e i) is;
    unheaded = λ d i is. unheaded_by d (in_push d s.exchanges e i) is;
  };
  rows = h.rows;
  placed = λ k d i j l. placed_by k d i (in_push d s.exchanges e j) l;
  brings = λ k d to i j l is isnt. brings_by k d to i (in_push d s.exchanges e j) l is isnt;
  keyed = λ d to x i is j id. keyed_by d to x (in_push d s.exchanges e i) is j id;
  callers = h.callers;
  held = h.held;
}
  where
    more : (n : ℕ) → n < s.next_exchange → n < s.next_exchange + 1
    more n lt = omega arith

    given_by : (d : Exchange) → IsIn d s.exchanges ⊎ (d ≡ e) → d.number < s.next_exchange + 1
    given_by d (inl i) = more d.number (h.asks.given d i)
    given_by d (inr is) = let same_one : d.number ≡ s.next_exchange = ap exchange_number is ∙ number in omega arith

    unbound : (d : Exchange) → d ≡ e → bound_of d ≡ None
    unbound d is = ap bound_of is ∙ none

    never : (d : Exchange) (to : Bound) → d ≡ e → bound_of d ≡ Some to → ⊥
    never d to is bound = let both : None ≡ Some to = sym (unbound d is) ∙ bound in cc both

    bounds_by : (d : Exchange) (to : Bound) → IsIn d s.exchanges ⊎ (d ≡ e) → bound_of d ≡ Some to → to.instance < s.next_instance
    bounds_by d to (inl i) is = h.asks.bounds d to i is
    bounds_by d to (inr eq) is = absurd (never d to eq is)

    noted_by : (d : Exchange) (to : Bound) → IsIn d s.exchanges ⊎ (d ≡ e) → bound_of d ≡ Some to → is_noted d.aim ≡ true
    noted_by d to (inl i) is = h.asks.noted d to i is
    noted_by d to (inr eq) is = absurd (never d to eq is)

    unplaced_by : (d : Exchange) → IsIn d s.exchanges ⊎ (d ≡ e) → d.place ≡ None → bound_of d ≡ None
    unplaced_by d (inl i) is = h.asks.unplaced d i is
    unplaced_by d (inr eq) is = unbound d eq

    unheaded_by : (d : Exchange) → IsIn d s.exchanges ⊎ (d ≡ e) → is_headed d ≡ false → bound_of d ≡ None
    unheaded_by d (inl i) is = h.asks.unheaded d i is
    unheaded_by d (inr eq) is = unbound d eq

    placed_by : (k : Conn) (d : Exchange) → IsIn k s.conns → IsIn d s.exchanges ⊎ (d ≡ e) → IsIn d.number k.line → d.place ≡ Some k.number
    placed_by k d i (inl j) l = h.placed k d i j l
    placed_by k d i (inr eq) l = let lt : d.number < s.next_exchange = h.lines.asked k d.number i l in let is : d.number ≡ s.next_exchange = ap exchange_number eq ∙ number in absurd (omega arith)

    brings_by : (k : Conn) (d : Exchange) (to : Bound) → IsIn k s.conns → IsIn d s.exchanges ⊎ (d ≡ e) → IsIn d.number k.line → bound_of d ≡ Some to → ¬ (b.excepts ≡ Some d.number) → Brings s.instances k d to
    brings_by k d to i (inl j) l is isnt = h.brings k d to i j l is isnt
    brings_by k d to i (inr eq) l is isnt = absurd (never d to eq is)

    keyed_by : (d : Exchange) (to : Bound) (x : Instance) → IsIn d s.exchanges ⊎ (d ≡ e) → bound_of d ≡ Some to → IsIn x s.instances → x.id ≡ to.instance → x.key ≡ key_of d
    keyed_by d to x (inl i) is j id = h.keyed d to x i is j id
    keyed_by d to x (inr eq) is j id = absurd (never d to eq is)

-- ---- how far a body was wanted is noted

-- the same span of the same instance
pub record WasBound (to : Bound) (o : Option Bound) : Type 0 where
  pub was : Bound
  pub there : o ≡ Some was
  pub instance : to.instance ≡ was.instance
  pub next : to.next ≡ was.next

pub record Rewanted (e d : Exchange) : Type 0 where
  pub number : e.number ≡ d.number
  pub key : key_of e ≡ key_of d
  pub aim : e.aim ≡ d.aim
  pub place : e.place ≡ d.place
  pub headed : is_headed e ≡ is_headed d
  pub bound : (to : Bound) → bound_of e ≡ Some to → WasBound to (bound_of d)
  pub unbound : bound_of d ≡ None → bound_of e ≡ None

fitting_at : (a : Answer) (to from : Bound) (x : Instance) → to.next ≡ from.next → Fitting a from x → Fitting a to x
fitting_at a to from x is (inl fits) = inl (fits.0, is ∙ fits.1)
fitting_at a to from x is (inr empty) = inr empty

pub exchanges_rewanted : (b : Since) (s : State) (f : Exchange → Exchange) → ((e : Exchange) → Rewanted (f e) e) → FactsOf b s → FactsOf b (record s { exchanges = map f s.exchanges })
exchanges_rewanted b s f kept h = record {
  grew = h.grew;
  lines = h.lines;
  asks = record {
    rise = rise_map exchange_number f (λ e. (kept e).number) s.exchanges h.asks.rise;
    given = λ e i. let r = from e i in subst (λ n. n < s.next_exchange) (sym (of e i).number) (h.asks.given r.was r.there);
    bounds = λ e to i is. let r = from e i in let w = (of e i).bound to is in subst (λ n. n < s.next_instance) (sym w.instance) (h.asks.bounds r.was w.was r.there w.there);
    noted = λ e to i is. let r = from e i in let w = (of e i).bound to is in ap is_noted (of e i).aim ∙ h.asks.noted r.was w.was r.there w.there;
    unplaced = λ e i is. let r = from e i in (of e i).unbound (h.asks.unplaced r.was r.there (sym (of e i).place ∙ is));
    unheaded = λ e i is. let r = from e i in (of e i).unbound (h.asks.unheaded r.was r.there (sym (of e i).headed ∙ is));
  };
  rows = h.rows;
  placed = λ k e i j l. let r = from e j in (of e j).place ∙ h.placed k r.was i r.there (subst (λ n. IsIn n k.line) (of e j).number l);
  brings = λ k e to i j l is isnt.
      let r = from e j in
      let w = (of e j).bound to is in
      let g = h.brings k r.was w.was i r.there (subst (λ n. IsIn n k.line) (of e j).number l) w.there (λ x. isnt (x ∙ ap (λ n. Some n) (sym (of e j).number))) in
      record { front = g.front ∙ ap (λ n. Some n) (sym (of e j).number); answer = g.answer; is = g.is; fits = λ x m id. fitting_at g.answer to w.was x w.next (g.fits x m (id ∙ w.instance)) };
  keyed = λ e to x i is j id. let r = from e i in let w = (of e i).bound to is in h.keyed r.was w.was x r.there w.there j (id ∙ w.instance) ∙ sym (of e i).key;
  callers = h.callers;
  held = h.held;
}
  where
    from : (e : Exchange) → IsIn e (map f s.exchanges) → From f s.exchanges e
    from e i = in_map f e s.exchanges i

    of : (e : Exchange) (i : IsIn e (map f s.exchanges)) → Rewanted e (in_map f e s.exchanges i).was
    of e i = subst (λ (x : Exchange). Rewanted x (in_map f e s.exchanges i).was) (sym (in_map f e s.exchanges i).is) (kept (in_map f e s.exchanges i).was)
