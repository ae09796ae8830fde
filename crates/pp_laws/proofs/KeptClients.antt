-- What is kept where clients are changed in what nothing here depends on, come, go or follow a row.
use Rattle.std.proofs.Common.{◌≡◌, ◌⊎◌, refl, ℕ, ◌<◌, ◌≤◌, Bool, true, List, [], ◌∷◌, ◌++◌, map, filter, Some, None, inl, inr, sym, subst, ap, ◌∙◌, arith}
use Rattle.pp_target.specs.Key.{Key}
use Rattle.pp_law.specs.Lists.{change}
use Rattle.pp_law.specs.Requests.{key_in}
use Rattle.pp_law.specs.State.{State, Client, Instance}
use Rattle.pp_laws.specs.Numbers.{AreRising}
use Rattle.pp_laws.specs.Runs.{IsIn}
use Rattle.pp_laws.proofs.Lists.{Changed, in_change, in_filter, in_map, in_push, other, rise_change, rise_filter, rise_map, rise_push, same}
use Rattle.pp_laws.proofs.Sound.{Callers, FactsOf, Follows, Since, client_number, passes_in, source_in}

-- ---- a client that is changed

-- where it is answered from an instance, it was so before, for that request
pub record SameSource (d c : Client) (id : ℕ) : Type 0 where
  pub source : source_in c.stage ≡ Some id
  pub passes : passes_in d.stage ≡ passes_in c.stage
  pub asks : (key : Key) → key_in c.front ≡ Some key → key_in d.front ≡ Some key

pub record SameClient (d c : Client) : Type 0 where
  pub number : d.number ≡ c.number
  pub source : (id : ℕ) → source_in d.stage ≡ Some id → SameSource d c id

pub client_same : (c : Client) → SameClient c c
client_same c = record { number = refl; source = λ id is. record { source = is; passes = refl; asks = λ key has. has } }

-- it was there
record ClientFrom (clients : List Client) (d : Client) : Type 0 where
  was : Client
  there : IsIn was clients
  is : SameClient d was

follows_same : (d c : Client) (id : ℕ) (instances : List Instance) (next_instance : ℕ) → SameSource d c id → Follows c id instances next_instance → Follows d id instances next_instance
follows_same d c id instances next_instance e w = record { is_kept = e.passes ∙ w.is_kept; given = w.given; key = w.key; asks = e.asks w.key w.asks; same_key = w.same_key }

with_callers : (b : Since) (s : State) (clients : List Client) → Callers clients s.top s.instances s.next_instance → FactsOf b s → FactsOf b (record s { clients = clients })
with_callers b s clients callers h = record {
  grew = h.grew;
  lines = h.lines;
  asks = h.asks;
  rows = h.rows;
  placed = h.placed;
  brings = h.brings;
  keyed = h.keyed;
  callers = callers;
  held = h.held;
}

clients_kept : (b : Since) (s : State) (clients : List Client) → AreRising (map client_number clients) → ((d : Client) → IsIn d clients → ClientFrom s.clients d) → FactsOf b s → FactsOf b (record s { clients = clients })
clients_kept b s clients rise from h = with_callers b s clients (record {
  rise = rise;
  given = λ d i. let f = from d i in subst (λ n. n ≤ s.top) (sym f.is.number) (h.callers.given f.was f.there);
  follows = λ d id i is. let f = from d i in let e = f.is.source id is in follows_same d f.was id s.instances s.next_instance e (h.callers.follows f.was id f.there e.source);
}) h

pub clients_mapped : (b : Since) (s : State) (f : Client → Client) → ((c : Client) → SameClient (f c) c) → FactsOf b s → FactsOf b (record s { clients = map f s.clients })
clients_mapped b s f kept h = clients_kept b s (map f s.clients) (rise_map client_number f (λ c. (kept c).number) s.clients h.callers.rise) from h
  where
    from : (d : Client) → IsIn d (map f s.clients) → ClientFrom s.clients d
    from d i = let r = in_map f d s.clients i in record { was = r.was; there = r.there; is = subst (λ (x : Client). SameClient x r.was) (sym r.is) (kept r.was) }

pub clients_changed : (b : Since) (s : State) (p : Client → Bool) (f : Client → Client) → ((c : Client) → SameClient (f c) c) → FactsOf b s → FactsOf b (record s { clients = change p f s.clients })
clients_changed b s p f kept h = clients_kept b s (change p f s.clients) (rise_change client_number p f (λ c. (kept c).number) s.clients h.callers.rise) (λ d i. from d (in_change p f d s.clients i)) h
  where
    from : (d : Client) → Changed p f s.clients d → ClientFrom s.clients d
    from d (same i isnt) = record { was = d; there = i; is = client_same d }
    from d (other c i hit e) = record { was = c; there = i; is = subst (λ (x : Client). SameClient x c) (sym e) (kept c) }

pub clients_filtered : (b : Since) (s : State) (p : Client → Bool) → FactsOf b s → FactsOf b (record s { clients = filter p s.clients })
clients_filtered b s p h = clients_kept b s (filter p s.clients) (rise_filter client_number p s.clients h.callers.rise) (λ d i. record { was = d; there = (in_filter p d s.clients i).0; is = client_same d }) h

-- a new one, that is answered from nothing yet
pub client_pushed : (b : Since) (s : State) (c : Client) → s.top ≡ c.number → ((d : Client) → IsIn d s.clients → d.number < c.number) → source_in c.stage ≡ None → FactsOf b s → FactsOf b (record s { clients = s.clients ++ c ∷ [] })
client_pushed b s c top above none h = with_callers b s (s.clients ++ c ∷ []) (record {
  rise = rise_push client_number s.clients c h.callers.rise above;
  given = λ d i. given_by d (in_push d s.clients c i);
  follows = λ d id i is. follows_by d id (in_push d s.clients c i) is;
}) h
  where
    given_by : (d : Client) → IsIn d s.clients ⊎ (d ≡ c) → d.number ≤ s.top
    given_by d (inl i) = h.callers.given d i
    given_by d (inr e) = let is : d.number ≡ s.top = ap client_number e ∙ sym top in omega arith

    follows_by : (d : Client) (id : ℕ) → IsIn d s.clients ⊎ (d ≡ c) → source_in d.stage ≡ Some id → Follows d id s.instances s.next_instance
    follows_by d id (inl i) is = h.callers.follows d id i is
    follows_by d id (inr e) is = let both : None ≡ Some id = sym none ∙ sym (ap (λ (x : Client). source_in x.stage) e) ∙ is in absurd (cc both)

-- a client follows the row of the key that its request names
pub client_follows : (b : Since) (s : State) (p : Client → Bool) (f : Client → Client) → ((c : Client) → (f c).number ≡ c.number)
    → ((c : Client) (id : ℕ) → IsIn c s.clients → p c ≡ true → source_in (f c).stage ≡ Some id → Follows (f c) id s.instances s.next_instance) → FactsOf b s → FactsOf b (record s { clients = change p f s.clients })
client_follows b s p f number follows h = with_callers b s (change p f s.clients) (record {
  rise = rise_change client_number p f number s.clients h.callers.rise;
  given = λ d i. given_by d (in_change p f d s.clients i);
  follows = λ d id i is. follows_by d id (in_change p f d s.clients i) is;
}) h
  where
    given_by : (d : Client) → Changed p f s.clients d → d.number ≤ s.top
    given_by d (same i isnt) = h.callers.given d i
    given_by d (other c i hit e) = subst (λ n. n ≤ s.top) (sym (ap client_number e ∙ number c)) (h.callers.given c i)

    follows_by : (d : Client) (id : ℕ) → Changed p f s.clients d → source_in d.stage ≡ Some id → Follows d id s.instances s.next_instance
    follows_by d id (same i isnt) is = h.callers.follows d id i is
    follows_by d id (other c i hit e) is =
        subst (λ (x : Client). Follows x id s.instances s.next_instance) (sym e) (follows c id i hit (sym (ap (λ (x : Client). source_in x.stage) e) ∙ is))
