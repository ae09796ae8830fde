-- A client is closed, and no exchange is its any more: those of the others go on.
use Rattle.std.proofs.Common.{◌≡◌, ◌≤◌, refl, sym, ap, ◌∙◌, ℕ, Bool, true, false, ◌==◌, cond, find, map, List, [], ◌∷◌, Some, None, Option}
use Rattle.std.specs.Prelude.{count_by, option_map}
use Rattle.pp_cache_law.proofs.Numbers.{some_is}
use Rattle.pp_flow_law.proofs.Entries.{none_some, same_as, same_number}
use Rattle.pp_flow_law.proofs.Exchanges.{find_change, find_change_else}
use Rattle.pp_flow_law.proofs.Told.{found_alone}
use Rattle.pp_law.specs.Closing.{is_of, left_alone}
use Rattle.pp_law.specs.Connections.{end_exchange, exchange, is_client, is_exchange, on_client, on_exchange}
use Rattle.pp_law.specs.Lists.{is_this}
use Rattle.pp_law.specs.State.{State, Client, Exchange}
use Rattle.pp_law.specs.Table.{swept}
use Rattle.pp_states_law.proofs.Ended.{gone}
use Rattle.pp_states_law.proofs.Lines.{same_itself}
use Rattle.pp_states_law.proofs.Charged.{number_is}
use Rattle.pp_states_law.specs.Charges.{GoesOn}
use Rattle.pp_states_law.specs.Lines.{AllGo}
use Rattle.pp_turns_law.proofs.Orderly.{out}
use Rattle.pp_turns_law.proofs.Quit.{closing_client}

-- ---- the other clients

abbrev pub closing_if : ℕ → Bool → Client → Client
closing_if n is_cut c = elim (is_client n c) as (λ t. Client) [ true ↦ closing_client is_cut c | false ↦ c ]

find_other : (n m : ℕ) (is_cut : Bool) (cs : List Client) → (m == n) ≡ false → find (is_client m) (map (closing_if n is_cut) cs) ≡ find (is_client m) cs
find_other n m is_cut [] off = refl
find_other n m is_cut (c ∷ cs) off = by (is_client n c) refl (find_other n m is_cut cs off)
  where
    not_it : is_client n c ≡ true → is_client m c ≡ false
    not_it is = ap (λ (i : ℕ). i == m) (same_number c.number n is) ∙ other n m off
      where
        other : (a b : ℕ) → (b == a) ≡ false → (a == b) ≡ false
        other a b isnt = by_test (a == b) refl
          where
            by_test : (t : Bool) → (a == b) ≡ t → t ≡ false
            by_test false is = refl
            by_test true is = sym (sym isnt ∙ same_as b a (sym (same_number a b is)))

    by : (b : Bool) → is_client n c ≡ b → find (is_client m) (map (closing_if n is_cut) cs) ≡ find (is_client m) cs
        → find (is_client m) ((elim b as (λ t. Client) [ true ↦ closing_client is_cut c | false ↦ c ]) ∷ map (closing_if n is_cut) cs) ≡ find (is_client m) (c ∷ cs)
    by true is rest =
        ap (λ (b : Bool). cond b (Some (closing_client is_cut c)) (find (is_client m) (map (closing_if n is_cut) cs))) (not_it is)
        ∙ rest
        ∙ sym (ap (λ (b : Bool). cond b (Some c) (find (is_client m) cs)) (not_it is))
    by false is rest = ap (λ (o : Option Client). cond (is_client m c) (Some c) o) rest

-- ---- the state in which it is closing

abbrev pub quitting : ℕ → Bool → State → State
quitting n is_cut s = swept (on_client n (closing_client is_cut) s)

pub quit_clients : (n : ℕ) (is_cut : Bool) (s : State) → (quitting n is_cut s).clients ≡ map (closing_if n is_cut) s.clients
unfolding swept on_client
quit_clients n is_cut s = refl

pub quit_exchanges : (n : ℕ) (is_cut : Bool) (s : State) → (quitting n is_cut s).exchanges ≡ s.exchanges
unfolding swept on_client
quit_exchanges n is_cut s = refl

pub quit_conns : (n : ℕ) (is_cut : Bool) (s : State) → (quitting n is_cut s).conns ≡ s.conns
unfolding swept on_client
quit_conns n is_cut s = refl

-- ---- an exchange of another client goes on

pub record IsOthers (s : State) (n m : ℕ) (d : Exchange) : Type 0 where
  pub before : Exchange
  pub there : exchange s m ≡ Some before
  pub asker : (a : ℕ) → d.asker ≡ Some a → (before.asker ≡ Some a) × ((a == n) ≡ false)

abbrev pub AllOthers : State → ℕ → State → Type 0
AllOthers s n t = (m : ℕ) (d : Exchange) → exchange t m ≡ Some d → IsOthers s n m d

pub go_on : (n : ℕ) (is_cut : Bool) (s t : State) → t.clients ≡ map (closing_if n is_cut) s.clients → AllOthers s n t → AllGo s → AllGo t
go_on n is_cut s t clients others go = record {
  going = λ m d there a c asks found. going m d a c (others m d there) asks (was a c (((others m d there).asker a asks).1) found);
  coming = λ m d there a c asks found. go.coming m (others m d there).before (others m d there).there a c ((others m d there).asker a asks).0 (was a c (((others m d there).asker a asks).1) found);
}
  where
    was : (a : ℕ) (c : Client) → (a == n) ≡ false → find (is_client a) t.clients ≡ Some c → find (is_client a) s.clients ≡ Some c
    was a c off found = sym (find_other n a is_cut s.clients off) ∙ sym (ap (λ (cs : List Client). find (is_client a) cs) clients) ∙ found

    going : (m : ℕ) (d : Exchange) (a : ℕ) (c : Client) → IsOthers s n m d → d.asker ≡ Some a → find (is_client a) s.clients ≡ Some c → GoesOn c
    going m d a c it asks found = go.going m it.before it.there a c (it.asker a asks).0 found

-- ---- where none was its, and where the one that was is over, or is nobody's

none_asks : (s : State) (n m a : ℕ) (d : Exchange) → find (is_of n) s.exchanges ≡ None → exchange s m ≡ Some d → d.asker ≡ Some a → (a == n) ≡ false
none_asks s n m a d none there asks = by (a == n) refl
  where
    by : (b : Bool) → (a == n) ≡ b → b ≡ false
    by false is = refl
    by true is = absurd (not_none s.exchanges none there)
      where
        its : is_of n d ≡ true
        its = ap (λ (o : Option ℕ). is_this n o) asks ∙ is

        not_none : (es : List Exchange) → find (is_of n) es ≡ None → find (is_exchange m) es ≡ Some d → ⊥
        not_none [] nobody found = none_some d found
        not_none (e ∷ es) nobody found = at (is_of n e) (is_exchange m e) refl nobody found (λ a b. not_none es a b)
          where
            at : (b c : Bool) → is_of n e ≡ b → cond b (Some e) (find (is_of n) es) ≡ None → cond c (Some e) (find (is_exchange m) es) ≡ Some d → (find (is_of n) es ≡ None → find (is_exchange m) es ≡ Some d → ⊥) → ⊥
            at true c is nobody found rest = none_some e (sym nobody)
            at false true is nobody found rest = absurd (let bad : false ≡ true = sym is ∙ ap (λ (x : Exchange). is_of n x) (some_is e d found) ∙ its in cc)
            at false false is nobody found rest = rest nobody found

pub none_left : (n : ℕ) (is_cut : Bool) (s : State) → find (is_of n) s.exchanges ≡ None → AllOthers s n (quitting n is_cut s)
none_left n is_cut s none m d there =
    let found : exchange s m ≡ Some d = sym (ap (λ (es : List Exchange). find (is_exchange m) es) (quit_exchanges n is_cut s)) ∙ there in
    record { before = d; there = found; asker = λ a asks. (asks, none_asks s n m a d none found asks) }

-- another exchange is another client's
another : (s : State) (n m a : ℕ) (e d : Exchange) → count_by (is_of n) s.exchanges ≤ 1 → find (is_of n) s.exchanges ≡ Some e → exchange s m ≡ Some d → (m == e.number) ≡ false → d.asker ≡ Some a → (a == n) ≡ false
another s n m a e d once its there off asks = by (a == n) refl
  where
    by : (b : Bool) → (a == n) ≡ b → b ≡ false
    by false is = refl
    by true is =
        let same : find (is_of n) s.exchanges ≡ Some d = found_alone (is_of n) (is_exchange m) s.exchanges d there (ap (λ (o : Option ℕ). is_this n o) asks ∙ is) once in
        let one : e ≡ d = some_is e d (sym its ∙ same) in
        sym (sym off ∙ ap (λ (i : ℕ). m == i) (ap (λ (x : Exchange). x.number) one ∙ number_is m s d there) ∙ same_itself m)

isnt_it : (m k : ℕ) → (m == k) ≡ false → (k == m) ≡ false
isnt_it m k off = by (k == m) refl
  where
    by : (b : Bool) → (k == m) ≡ b → b ≡ false
    by false is = refl
    by true is = sym (sym off ∙ same_as m k (sym (same_number k m is)))

pub over_left : (n : ℕ) (is_cut : Bool) (s : State) (e : Exchange) → count_by (is_of n) s.exchanges ≤ 1 → find (is_of n) s.exchanges ≡ Some e → AllOthers s n (end_exchange e.number (quitting n is_cut s))
over_left n is_cut s e once its m d there = by (m == e.number) refl
  where
    u : State
    u = quitting n is_cut s

    by : (b : Bool) → (m == e.number) ≡ b → IsOthers s n m d
    by true is = absurd (none_some d (sym (ap (λ (i : ℕ). exchange (end_exchange e.number (quitting n is_cut s)) i) (same_number m e.number is) ∙ out e.number (quitting n is_cut s)) ∙ there))
    by false off =
        let found : exchange s m ≡ Some d = sym (ap (λ (es : List Exchange). find (is_exchange m) es) (quit_exchanges n is_cut s)) ∙ sym (gone (quitting n is_cut s) e.number m (isnt_it m e.number off)) ∙ there in
        record { before = d; there = found; asker = λ a asks. (asks, another s n m a e d once its found off asks) }

left_at : (s : State) (k m : ℕ) → (m == k) ≡ false → exchange (on_exchange k left_alone s) m ≡ exchange s m
unfolding on_exchange
left_at s k m off = find_change_else k m left_alone (λ e. refl) off s.exchanges

left_it : (s : State) (k : ℕ) → exchange (on_exchange k left_alone s) k ≡ option_map left_alone (exchange s k)
unfolding on_exchange
left_it s k = find_change k left_alone (λ e. refl) s.exchanges

pub alone_left : (n : ℕ) (is_cut : Bool) (s : State) (e : Exchange) → count_by (is_of n) s.exchanges ≤ 1 → find (is_of n) s.exchanges ≡ Some e → AllOthers s n (on_exchange e.number left_alone (quitting n is_cut s))
alone_left n is_cut s e once its m d there = by (m == e.number) refl
  where
    before : (i : ℕ) → exchange (quitting n is_cut s) i ≡ exchange s i
    before i = ap (λ (es : List Exchange). find (is_exchange i) es) (quit_exchanges n is_cut s)

    nobodys : (o : Option Exchange) → exchange s m ≡ o → option_map left_alone o ≡ Some d → IsOthers s n m d
    nobodys None none is = absurd (none_some d is)
    nobodys (Some x) found is = record {
      before = x;
      there = found;
      asker = λ a asks. absurd (none_some a (ap (λ (y : Exchange). y.asker) (some_is (left_alone x) d is) ∙ asks));
    }

    by : (b : Bool) → (m == e.number) ≡ b → IsOthers s n m d
    by true is =
        let same : m ≡ e.number = same_number m e.number is in
        nobodys (exchange s m) refl
        (sym (ap (λ (o : Option Exchange). option_map left_alone o) (before m)) ∙ sym (left_it (quitting n is_cut s) m) ∙ ap (λ (i : ℕ). exchange (on_exchange i left_alone (quitting n is_cut s)) m) same ∙ there)
    by false off =
        let found : exchange s m ≡ Some d = sym (before m) ∙ sym (left_at (quitting n is_cut s) e.number m off) ∙ there in
        record { before = d; there = found; asker = λ a asks. (asks, another s n m a e d once its found off asks) }
