-- What a client that is closed, or that goes on to its next request, leaves in the law.
use Rattle.std.proofs.Common.{◌≡◌, ◌≤◌, refl, sym, subst, ap, ap₂, ◌∙◌, ℕ, Bool, true, false, not, ◌==◌, cond, find, map, List, [], ◌∷◌, Some, None, Option, arith}
use Rattle.std.specs.Prelude.{count_by, option_map}
use Rattle.pp_cache_law.proofs.Finds.{find_kept, find_mapped, find_passes, none_changed, one_only}
use Rattle.pp_cache_law.proofs.Numbers.{some_is, true_false}
use Rattle.pp_cache_law.proofs.PairLemmas.{AreOnly, count_kept, count_mapped}
use Rattle.pp_turns_law.proofs.Gone.{quitting, quit_clients, quit_exchanges}
use Rattle.pp_turns_law.proofs.Own.{its_number, law_none, law_one, left_if}
use Rattle.pp_turns_law.proofs.Quit.{closing_client}
use Rattle.pp_turns_law.proofs.Outrun.{with_exchanges}
use Rattle.pp_flow.specs.Changes.{Exchanges}
use Rattle.pp_flow_law.proofs.Entries.{none_some, same_as, same_number}
use Rattle.pp_flow_law.proofs.Exchanges.{find_change, find_change_else}
use Rattle.pp_flow_law.proofs.Standing.{few_given}
use Rattle.pp_flow_law.specs.Tables.{Leaving, ShowsFlow}
use Rattle.pp_law.specs.Closing.{close_client, forsake, is_of, left_alone}
use Rattle.pp_law.specs.Connections.{end_exchange, exchange, is_client, is_exchange, on_client, on_exchange}
use Rattle.pp_law.specs.Lists.{change, is_this, without}
use Rattle.pp_law.specs.Replies.{next_request}
use Rattle.pp_law.specs.State.{State, Client, Exchange}
use Rattle.pp_law.specs.Table.{is_left_over, swept}
use Rattle.pp_states_law.proofs.Lines.{same_itself}

-- ---- an exchange that is there was there, and is asked by whoever asked it, but not by that client

pub record WasAsk (s : State) (n m : ℕ) (d : Exchange) : Type 0 where
  pub before : Exchange
  pub there : exchange s m ≡ Some before
  pub place : d.place ≡ before.place
  pub asked : d.asked ≡ before.asked
  pub asker : (a : ℕ) → d.asker ≡ Some a → (before.asker ≡ Some a) × ((a == n) ≡ false)

-- one client is changed by a step, what nobody follows any more leaves, and its exchange is over or nobody's
pub record Steps (n : ℕ) (f : Client → Client) (s t : State) : Type 0 where
  pub clients : t.clients ≡ change (is_client n) f s.clients
  pub instances : t.instances ≡ without (is_left_over (on_client n f s)) s.instances
  pub exchange : (m : ℕ) (d : Exchange) → exchange t m ≡ Some d → WasAsk s n m d
  pub once : (m : ℕ) → count_by (is_of m) t.exchanges ≤ count_by (is_of m) s.exchanges
  pub rest : t ≡ record s { clients = t.clients; conns = t.conns; exchanges = t.exchanges; instances = t.instances; chunks = t.chunks }

not_its : (n m a : ℕ) (s : State) (d : Exchange) → is_of n d ≡ false → d.asker ≡ Some a → (a == n) ≡ false
not_its n m a s d isnt asks = sym (ap (λ (o : Option ℕ). is_this n o) asks) ∙ isnt

-- ---- it goes on to its next request

abbrev pub next_state : ℕ → State → State
next_state n s = forsake (is_of n) (swept (on_client n next_request s))

abbrev alone_if : ℕ → Exchange → Exchange
alone_if n e = elim (is_of n e) as (λ t. Exchange) [ true ↦ left_alone e | false ↦ e ]

alone_number : (n m : ℕ) (e : Exchange) → is_exchange m (alone_if n e) ≡ is_exchange m e
alone_number n m e = by (is_of n e)
  where
    by : (b : Bool) → is_exchange m (elim b as (λ t. Exchange) [ true ↦ left_alone e | false ↦ e ]) ≡ is_exchange m e
    by true = refl
    by false = refl

next_exchanges : (n : ℕ) (s : State) → (next_state n s).exchanges ≡ map (alone_if n) s.exchanges
unfolding forsake swept on_client
next_exchanges n s = refl

next_clients : (n : ℕ) (s : State) → (next_state n s).clients ≡ change (is_client n) next_request s.clients
unfolding forsake swept on_client
next_clients n s = refl

next_instances : (n : ℕ) (s : State) → (next_state n s).instances ≡ without (is_left_over (on_client n next_request s)) s.instances
unfolding forsake swept on_client
next_instances n s = refl

pub next_conns : (n : ℕ) (s : State) → (next_state n s).conns ≡ s.conns
unfolding forsake swept on_client
next_conns n s = refl

next_rest : (n : ℕ) (s : State) → next_state n s ≡ record s { clients = (next_state n s).clients; conns = (next_state n s).conns; exchanges = (next_state n s).exchanges; instances = (next_state n s).instances; chunks = (next_state n s).chunks }
unfolding forsake swept on_client
next_rest n s = refl

alone_was : (s : State) (n m : ℕ) (d : Exchange) (o : Option Exchange) → exchange s m ≡ o → option_map (alone_if n) o ≡ Some d → WasAsk s n m d
alone_was s n m d None there is = absurd (none_some d is)
alone_was s n m d (Some e) there is = by (is_of n e) refl (some_is (alone_if n e) d is)
  where
    by : (b : Bool) → is_of n e ≡ b → (elim b as (λ t. Exchange) [ true ↦ left_alone e | false ↦ e ]) ≡ d → WasAsk s n m d
    by true its same = record {
      before = e;
      there = there;
      place = ap (λ (x : Exchange). x.place) (sym same);
      asked = ap (λ (x : Exchange). x.asked) (sym same);
      asker = λ a asks. absurd (none_some a (ap (λ (x : Exchange). x.asker) same ∙ asks));
    }
    by false isnt same = record {
      before = e;
      there = there;
      place = ap (λ (x : Exchange). x.place) (sym same);
      asked = ap (λ (x : Exchange). x.asked) (sym same);
      asker = λ a asks. let its : e.asker ≡ Some a = ap (λ (x : Exchange). x.asker) same ∙ asks in (its, not_its n m a s e isnt its);
    }

alone_of : (n m : ℕ) (e : Exchange) → is_of m (alone_if n e) ≡ true → is_of m e ≡ true
alone_of n m e = by (is_of n e)
  where
    by : (b : Bool) → is_of m (elim b as (λ t. Exchange) [ true ↦ left_alone e | false ↦ e ]) ≡ true → is_of m e ≡ true
    by true is = absurd (cc is)
    by false is = is

pub next_steps : (n : ℕ) (s : State) → Steps n next_request s (next_state n s)
next_steps n s = record {
  clients = next_clients n s;
  instances = next_instances n s;
  exchange = λ m d there. alone_was s n m d (exchange s m) refl
      (sym (find_mapped (is_exchange m) (alone_if n) s.exchanges (alone_number n m)) ∙ sym (ap (λ (es : List Exchange). find (is_exchange m) es) (next_exchanges n s)) ∙ there);
  once = λ m. subst (λ (es : List Exchange). count_by (is_of m) es ≤ count_by (is_of m) s.exchanges) (sym (next_exchanges n s)) (count_mapped (is_of m) (alone_if n) s.exchanges (alone_of n m));
  rest = next_rest n s;
}

-- it leaves its exchange, which it asks alone
abbrev pub forsaken_in : Option Exchange → State → State
forsaken_in None u = u
forsaken_in (Some e) u = on_exchange e.number left_alone u

both_changed : (p q : Exchange → Bool) (d : Exchange) → p d ≡ true → q d ≡ true → (es : List Exchange) → AreOnly p d es → AreOnly q d es → change p left_alone es ≡ change q left_alone es
both_changed p q d one two [] ones twos = refl
both_changed p q d one two (e ∷ es) ones twos = ap₂ (λ (b : Bool) (xs : List Exchange). (elim b as (λ t. Exchange) [ true ↦ left_alone e | false ↦ e ]) ∷ xs) (by (p e) (q e) refl refl) (both_changed p q d one two es ones.1 twos.1)
  where
    by : (a b : Bool) → p e ≡ a → q e ≡ b → p e ≡ q e
    by true true is so = is ∙ sym so
    by false false is so = is ∙ sym so
    by true false is so = absurd (true_false (sym (ap q (ones.0 is) ∙ two) ∙ so))
    by false true is so = absurd (true_false (sym (ap p (twos.0 so) ∙ one) ∙ is))

on_one : (k : ℕ) (u : State) → on_exchange k left_alone u ≡ record u { exchanges = change (is_exchange k) left_alone u.exchanges }
unfolding on_exchange
on_one k u = refl

pub forsaken_is : (number : ℕ → ℕ) (l : Leaving) (f : Exchanges) (s u : State) → ShowsFlow number l f s → u.exchanges ≡ s.exchanges → (n : ℕ) → count_by (is_of n) s.exchanges ≤ 1 → forsake (is_of n) u ≡ forsaken_in (find (is_of n) s.exchanges) u
forsaken_is number l f s u shows same n once = with_exchanges (is_of n) u ∙ by (find (is_of n) s.exchanges) refl
  where
    with_them : List Exchange → State
    with_them es = record u { exchanges = es }

    changed_as : (es : List Exchange) → change (is_of n) left_alone s.exchanges ≡ es → record u { exchanges = change (is_of n) left_alone u.exchanges } ≡ with_them es
    changed_as es is = ap (λ (xs : List Exchange). with_them (change (is_of n) left_alone xs)) same ∙ ap with_them is

    by : (o : Option Exchange) → find (is_of n) s.exchanges ≡ o → record u { exchanges = change (is_of n) left_alone u.exchanges } ≡ forsaken_in o u
    by None none = changed_as s.exchanges (none_changed (is_of n) left_alone s.exchanges none) ∙ ap with_them (sym same)
    by (Some e) its =
        let there : exchange s e.number ≡ Some e = its_number number l f s shows n e its in
        changed_as (change (is_exchange e.number) left_alone s.exchanges)
        (both_changed (is_of n) (is_exchange e.number) e (find_passes (is_of n) s.exchanges e its) (same_itself e.number) s.exchanges (one_only (is_of n) s.exchanges e once its)
        (one_only (is_exchange e.number) s.exchanges e (few_given number l f s shows e.number) there))
        ∙ ap (λ (es : List Exchange). with_them (change (is_exchange e.number) left_alone es)) (sym same)
        ∙ sym (on_one e.number u)

-- ---- it is closed

quit_instances : (n : ℕ) (is_cut : Bool) (s : State) → (quitting n is_cut s).instances ≡ without (is_left_over (on_client n (closing_client is_cut) s)) s.instances
unfolding swept on_client
quit_instances n is_cut s = refl

quit_rest : (n : ℕ) (is_cut : Bool) (s : State)
    → quitting n is_cut s ≡ record s { clients = (quitting n is_cut s).clients; conns = (quitting n is_cut s).conns; exchanges = (quitting n is_cut s).exchanges; instances = (quitting n is_cut s).instances; chunks = (quitting n is_cut s).chunks }
unfolding swept on_client
quit_rest n is_cut s = refl

end_facts : (m : ℕ) (u : State) → ((end_exchange m u).clients ≡ u.clients) × ((end_exchange m u).instances ≡ u.instances) × ((end_exchange m u).exchanges ≡ without (is_exchange m) u.exchanges)
    × (end_exchange m u ≡ record u { clients = (end_exchange m u).clients; conns = (end_exchange m u).conns; exchanges = (end_exchange m u).exchanges; instances = (end_exchange m u).instances; chunks = (end_exchange m u).chunks })
unfolding end_exchange
end_facts m u = (refl, refl, refl, refl)

left_facts : (m : ℕ) (u : State) → ((on_exchange m left_alone u).clients ≡ u.clients) × ((on_exchange m left_alone u).instances ≡ u.instances) × ((on_exchange m left_alone u).exchanges ≡ change (is_exchange m) left_alone u.exchanges)
    × (on_exchange m left_alone u ≡ record u {
      clients = (on_exchange m left_alone u).clients;
      conns = (on_exchange m left_alone u).conns;
      exchanges = (on_exchange m left_alone u).exchanges;
      instances = (on_exchange m left_alone u).instances;
      chunks = (on_exchange m left_alone u).chunks;
    })
unfolding on_exchange
left_facts m u = (refl, refl, refl, refl)

abbrev but_parts : State → State → State
but_parts s t = record s { clients = t.clients; conns = t.conns; exchanges = t.exchanges; instances = t.instances; chunks = t.chunks }

pub rest_then : (s t u : State) → t ≡ but_parts s t → u ≡ but_parts t u → u ≡ but_parts s u
rest_then s t u one two = two ∙ ap (λ (v : State). but_parts v u) one

same_ask : (s : State) (n m : ℕ) (d : Exchange) → exchange s m ≡ Some d → ((a : ℕ) → d.asker ≡ Some a → (a == n) ≡ false) → WasAsk s n m d
same_ask s n m d there others = record { before = d; there = there; place = refl; asked = refl; asker = λ a asks. (asks, others a asks) }

-- none asks for it, or none but this
others_ask : (s : State) (n m a : ℕ) (d : Exchange) → find (is_of n) s.exchanges ≡ None → exchange s m ≡ Some d → d.asker ≡ Some a → (a == n) ≡ false
others_ask s n m a d none there asks = not_its n m a s d (none_of s.exchanges none there) asks
  where
    none_of : (es : List Exchange) → find (is_of n) es ≡ None → find (is_exchange m) es ≡ Some d → is_of n d ≡ false
    none_of [] nobody found = absurd (none_some d found)
    none_of (e ∷ es) nobody found = by (is_of n e) (is_exchange m e) refl nobody found (λ x y. none_of es x y)
      where
        by : (b c : Bool) → is_of n e ≡ b → cond b (Some e) (find (is_of n) es) ≡ None → cond c (Some e) (find (is_exchange m) es) ≡ Some d → (find (is_of n) es ≡ None → find (is_exchange m) es ≡ Some d → is_of n d ≡ false) → is_of n d ≡ false
        by true c is nobody found rest = absurd (none_some e (sym nobody))
        by false true is nobody found rest = ap (λ (x : Exchange). is_of n x) (sym (some_is e d found)) ∙ is
        by false false is nobody found rest = rest nobody found

found_other : (p q : Exchange → Bool) (es : List Exchange) (d e : Exchange) → AreOnly p e es → find q es ≡ Some d → p d ≡ true → d ≡ e
found_other p q [] d e only found is = absurd (none_some d found)
found_other p q (x ∷ es) d e only found is = by (q x) found (λ rest. found_other p q es d e only.1 rest is)
  where
    by : (b : Bool) → cond b (Some x) (find q es) ≡ Some d → (find q es ≡ Some d → d ≡ e) → d ≡ e
    by true here rest = let same : x ≡ d = some_is x d here in sym same ∙ only.0 (ap p same ∙ is)
    by false here rest = rest here

-- the exchange of another number is another's
not_this : (s : State) (n m a : ℕ) (d e : Exchange) → AreOnly (is_of n) e s.exchanges → exchange s m ≡ Some d → (m == e.number) ≡ false → d.asker ≡ Some a → (a == n) ≡ false
not_this s n m a d e only there off asks = by (a == n) refl
  where
    by : (b : Bool) → (a == n) ≡ b → b ≡ false
    by false is = refl
    by true is =
        let same : d ≡ e = found_other (is_of n) (is_exchange m) s.exchanges d e only there (ap (λ (o : Option ℕ). is_this n o) asks ∙ is) in
        let number : d.number ≡ m = same_number d.number m (find_passes (is_exchange m) s.exchanges d there) in
        absurd (true_false (sym (same_as m e.number (sym number ∙ ap (λ (x : Exchange). x.number) same)) ∙ off))

-- by what becomes of its exchange
module _ (n : ℕ) (is_cut : Bool) (s : State) where
  abbrev q : State
  q = quitting n is_cut s

  abbrev f : Client → Client
  f = closing_client is_cut

  same_exchange : (m : ℕ) → exchange q m ≡ exchange s m
  same_exchange m = ap (λ (es : List Exchange). find (is_exchange m) es) (quit_exchanges n is_cut s)

  same_once : (m : ℕ) → count_by (is_of m) q.exchanges ≤ count_by (is_of m) s.exchanges
  same_once m = subst (λ (es : List Exchange). count_by (is_of m) es ≤ count_by (is_of m) s.exchanges) (sym (quit_exchanges n is_cut s)) (omega arith)

  none_steps : find (is_of n) s.exchanges ≡ None → Steps n f s q
  none_steps none = record {
    clients = quit_clients n is_cut s;
    instances = quit_instances n is_cut s;
    exchange = λ m d there. let was : exchange s m ≡ Some d = sym (same_exchange m) ∙ there in same_ask s n m d was (λ a asks. others_ask s n m a d none was asks);
    once = same_once;
    rest = quit_rest n is_cut s;
  }

  module _ (e : Exchange) (only : AreOnly (is_of n) e s.exchanges) where
    over_steps : Steps n f s (end_exchange e.number q)
    over_steps = record {
      clients = (end_facts e.number q).0 ∙ quit_clients n is_cut s;
      instances = (end_facts e.number q).1 ∙ quit_instances n is_cut s;
      exchange = λ m d there. by m d (m == e.number) refl (sym (ap (λ (es : List Exchange). find (is_exchange m) es) (ends ∙ ap (λ (es : List Exchange). without (is_exchange e.number) es) (quit_exchanges n is_cut s))) ∙ there);
      once = λ m. subst (λ (es : List Exchange). count_by (is_of m) es ≤ count_by (is_of m) s.exchanges) (sym (ends ∙ ap (λ (es : List Exchange). without (is_exchange e.number) es) (quit_exchanges n is_cut s)))
          (count_kept (is_of m) (λ x. not (is_exchange e.number x)) s.exchanges);
      rest = rest_then s q (end_exchange e.number q) (quit_rest n is_cut s) (end_facts e.number q).3;
    }
      where
        ends : (end_exchange e.number q).exchanges ≡ without (is_exchange e.number) q.exchanges
        ends = (end_facts e.number q).2

        gone_one : (m : ℕ) (d : Exchange) → (es : List Exchange) → (m == e.number) ≡ true → find (is_exchange m) (without (is_exchange e.number) es) ≡ Some d → ⊥
        gone_one m d [] is there = none_some d there
        gone_one m d (x ∷ es) is there = at (is_exchange e.number x) refl there (gone_one m d es is)
          where
            at : (b : Bool) → is_exchange e.number x ≡ b → find (is_exchange m) (cond (not b) (x ∷ without (is_exchange e.number) es) (without (is_exchange e.number) es)) ≡ Some d → (find (is_exchange m) (without (is_exchange e.number) es) ≡ Some d → ⊥) → ⊥
            at true it here rest = rest here
            at false isnt here rest =
                rest (sym (ap (λ (b : Bool). cond b (Some x) (find (is_exchange m) (without (is_exchange e.number) es))) (ap (λ (k : ℕ). x.number == k) (same_number m e.number is) ∙ isnt)) ∙ here)

        by : (m : ℕ) (d : Exchange) (b : Bool) → (m == e.number) ≡ b → find (is_exchange m) (without (is_exchange e.number) s.exchanges) ≡ Some d → WasAsk s n m d
        by m d true is there = absurd (gone_one m d s.exchanges is there)
        by m d false off there =
            let was : exchange s m ≡ Some d =
            sym (find_kept (is_exchange m) (λ x. not (is_exchange e.number x)) s.exchanges (λ x is. ap not (ap (λ (k : ℕ). k == e.number) (same_number x.number m is) ∙ off))) ∙ there in
            same_ask s n m d was (λ a asks. not_this s n m a d e only was off asks)

    alone_steps : Steps n f s (on_exchange e.number left_alone q)
    alone_steps = record {
      clients = (left_facts e.number q).0 ∙ quit_clients n is_cut s;
      instances = (left_facts e.number q).1 ∙ quit_instances n is_cut s;
      exchange = λ m d there. by m d (m == e.number) refl (sym (ap (λ (es : List Exchange). find (is_exchange m) es) leaves) ∙ there);
      once = λ m. subst (λ (es : List Exchange). count_by (is_of m) es ≤ count_by (is_of m) s.exchanges) (sym leaves)
          (count_mapped (is_of m) (λ x. elim (is_exchange e.number x) as (λ t. Exchange) [ true ↦ left_alone x | false ↦ x ]) s.exchanges (λ x is. still m x (is_exchange e.number x) is));
      rest = rest_then s q (on_exchange e.number left_alone q) (quit_rest n is_cut s) (left_facts e.number q).3;
    }
      where
        leaves : (on_exchange e.number left_alone q).exchanges ≡ change (is_exchange e.number) left_alone s.exchanges
        leaves = (left_facts e.number q).2 ∙ ap (λ (es : List Exchange). change (is_exchange e.number) left_alone es) (quit_exchanges n is_cut s)

        still : (m : ℕ) (x : Exchange) (b : Bool) → is_of m (elim b as (λ t. Exchange) [ true ↦ left_alone x | false ↦ x ]) ≡ true → is_of m x ≡ true
        still m x true is = absurd (cc is)
        still m x false is = is

        nobodys : (m : ℕ) (d : Exchange) (o : Option Exchange) → exchange s m ≡ o → option_map left_alone o ≡ Some d → WasAsk s n m d
        nobodys m d None was is = absurd (none_some d is)
        nobodys m d (Some x) was is =
            let same : left_alone x ≡ d = some_is (left_alone x) d is in record {
              before = x;
              there = was;
              place = ap (λ (y : Exchange). y.place) (sym same);
              asked = ap (λ (y : Exchange). y.asked) (sym same);
              asker = λ a asks. absurd (none_some a (ap (λ (y : Exchange). y.asker) same ∙ asks));
            }

        by : (m : ℕ) (d : Exchange) (b : Bool) → (m == e.number) ≡ b → find (is_exchange m) (change (is_exchange e.number) left_alone s.exchanges) ≡ Some d → WasAsk s n m d
        by m d true is there =
            nobodys m d (exchange s m) refl (sym (find_change m left_alone (λ x. refl) s.exchanges) ∙ ap (λ (k : ℕ). find (is_exchange m) (change (is_exchange k) left_alone s.exchanges)) (same_number m e.number is) ∙ there)
        by m d false off there =
            let was : exchange s m ≡ Some d = sym (find_change_else e.number m left_alone (λ x. refl) off s.exchanges) ∙ there in
            same_ask s n m d was (λ a asks. not_this s n m a d e only was off asks)

    its_steps : (b : Bool) → Steps n f s (left_if e q b)
    its_steps true = over_steps
    its_steps false = alone_steps

pub close_steps : (number : ℕ → ℕ) (l : Leaving) (g : Exchanges) (n : ℕ) (is_cut : Bool) (s : State) → ShowsFlow number l g s → count_by (is_of n) s.exchanges ≤ 1 → Steps n (closing_client is_cut) s (close_client n is_cut s)
close_steps number l g n is_cut s shows once = by (find (is_of n) s.exchanges) refl
  where
    by : (o : Option Exchange) → find (is_of n) s.exchanges ≡ o → Steps n (closing_client is_cut) s (close_client n is_cut s)
    by None none = subst (λ (t : State). Steps n (closing_client is_cut) s t) (sym (law_none n is_cut s none)) (none_steps n is_cut s none)
    by (Some e) its =
        subst (λ (t : State). Steps n (closing_client is_cut) s t) (sym (law_one n is_cut s e once its (its_number number l g s shows n e its)))
        (its_steps n is_cut s e (one_only (is_of n) s.exchanges e once its) (e.asked == 0))
