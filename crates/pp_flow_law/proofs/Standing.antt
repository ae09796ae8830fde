-- What follows where the exchanges of the program show those of the law.
use Rattle.std.proofs.Common.{◌≡◌, ◌≤◌, ◌+◌, refl, sym, subst, ap, ◌∙◌, ℕ, Bool, true, false, not, ◌==◌, cond, find, filter, List, [], ◌∷◌, Option, Some, None, arith}
use Rattle.std.specs.Prelude.{count_by, is_some}
use Rattle.pp_cache_law.proofs.Finds.{found_counted, none_found}
use Rattle.pp_cache_law.proofs.Numbers.{some_is, true_false}
use Rattle.pp_cache_law.proofs.PairLemmas.{count_joined, found}
use Rattle.pp_cache_law.specs.Pairs.{AreBoth}
use Rattle.pp_flow.specs.Changes.{Exchanges, entry_of, first_of}
use Rattle.pp_flow.specs.Entries.{is_number}
use Rattle.pp_flow.specs.declared.entry.Entry.{Entry}
use Rattle.pp_law.specs.Connections.{exchange, is_exchange}
use Rattle.pp_law.specs.State.{State, Exchange}
use Rattle.pp_seats_law.specs.Exchanges.{ShowsExchange}
use Rattle.pp_flow_law.specs.Tables.{Leaving, ShowsFlow, has_none}
use Rattle.pp_flow_law.proofs.Entries.{none_some}
use Rattle.pp_flow_law.proofs.Exchanges.{one_given}

pub few_in_both : (number : ℕ → ℕ) (l : Leaving) (f : Exchanges) (s : State) → ShowsFlow number l f s → (n : ℕ) → count_by (is_number n) f.waiting + count_by (is_number n) f.placed ≤ 1
few_in_both number l f s shows n = omega (arith, shows.once n, count_joined (is_number n) f.waiting f.placed)

pub few_waiting : (number : ℕ → ℕ) (l : Leaving) (f : Exchanges) (s : State) → ShowsFlow number l f s → (n : ℕ) → count_by (is_number n) f.waiting ≤ 1
few_waiting number l f s shows n = omega (arith, few_in_both number l f s shows n)

pub few_placed : (number : ℕ → ℕ) (l : Leaving) (f : Exchanges) (s : State) → ShowsFlow number l f s → (n : ℕ) → count_by (is_number n) f.placed ≤ 1
few_placed number l f s shows n = omega (arith, few_in_both number l f s shows n)

pub none_waits : (number : ℕ → ℕ) (l : Leaving) (f : Exchanges) (s : State) → ShowsFlow number l f s → (n : ℕ) (x : Entry) → find (is_number n) f.placed ≡ Some x → find (is_number n) f.waiting ≡ None
none_waits number l f s shows n x here = by (find (is_number n) f.waiting) refl
  where
    by : (o : Option Entry) → find (is_number n) f.waiting ≡ o → o ≡ None
    by None is = refl
    by (Some y) is = absurd (omega (arith, few_in_both number l f s shows n, found_counted (is_number n) f.placed x here, found_counted (is_number n) f.waiting y is))

pub none_placed : (number : ℕ → ℕ) (l : Leaving) (f : Exchanges) (s : State) → ShowsFlow number l f s → (n : ℕ) (x : Entry) → find (is_number n) f.waiting ≡ Some x → find (is_number n) f.placed ≡ None
none_placed number l f s shows n x here = by (find (is_number n) f.placed) refl
  where
    by : (o : Option Entry) → find (is_number n) f.placed ≡ o → o ≡ None
    by None is = refl
    by (Some y) is = absurd (omega (arith, few_in_both number l f s shows n, found_counted (is_number n) f.waiting x here, found_counted (is_number n) f.placed y is))

pub entry_waiting : (n : ℕ) (f : Exchanges) (x : Entry) → find (is_number n) f.waiting ≡ Some x → entry_of n f ≡ Some x
entry_waiting n f x here = ap (λ (o : Option Entry). first_of o (find (is_number n) f.placed)) here

pub entry_placed : (n : ℕ) (f : Exchanges) (x : Entry) → find (is_number n) f.waiting ≡ None → find (is_number n) f.placed ≡ Some x → entry_of n f ≡ Some x
entry_placed n f x none here = ap (λ (o : Option Entry). first_of o (find (is_number n) f.placed)) none ∙ here

-- ---- as many of each number

pub few_given : (number : ℕ → ℕ) (l : Leaving) (f : Exchanges) (s : State) → ShowsFlow number l f s → (n : ℕ) → count_by (is_exchange n) s.exchanges ≤ 1
few_given number l f s shows n = one_given n 0 s.next_exchange s.exchanges shows.given

pub counts_same : (number : ℕ → ℕ) (l : Leaving) (f : Exchanges) (s : State) → ShowsFlow number l f s → (n : ℕ) → count_by (is_number n) f.waiting + count_by (is_number n) f.placed ≡ count_by (is_exchange n) s.exchanges
counts_same number l f s shows n =
    by (find (is_number n) f.waiting) (find (is_number n) f.placed) (exchange s n) refl refl refl (shows.each n)
  where
    by : (u v : Option Entry) (w : Option Exchange) → find (is_number n) f.waiting ≡ u → find (is_number n) f.placed ≡ v → exchange s n ≡ w → AreBoth (ShowsExchange number) (first_of u v) w
        → count_by (is_number n) f.waiting + count_by (is_number n) f.placed ≡ count_by (is_exchange n) s.exchanges
    by None None None a b c both = omega (arith, none_found (is_number n) f.waiting a, none_found (is_number n) f.placed b, none_found (is_exchange n) s.exchanges c)
    by None None (Some e) a b c both = absurd both
    by None (Some x) None a b c both = absurd both
    by None (Some x) (Some e) a b c both = omega (arith, few_in_both number l f s shows n, found_counted (is_number n) f.placed x b, found_counted (is_exchange n) s.exchanges e c, few_given number l f s shows n)
    by (Some x) v None a b c both = absurd both
    by (Some x) v (Some e) a b c both = omega (arith, few_in_both number l f s shows n, found_counted (is_number n) f.waiting x a, found_counted (is_exchange n) s.exchanges e c, few_given number l f s shows n)

-- ---- with a place, and without

found_within : {A : Type 0} (p q : A → Bool) (xs : List A) (y : A) → find p xs ≡ Some y → q y ≡ true → find p (filter q xs) ≡ Some y
found_within p q [] y e holds = absurd (none_some y e)
found_within {A = A} p q (x ∷ xs) y e holds = by (p x) (q x) refl refl e (λ f. found_within p q xs y f holds)
  where
    by : (b c : Bool) → p x ≡ b → q x ≡ c → cond b (Some x) (find p xs) ≡ Some y → (find p xs ≡ Some y → find p (filter q xs) ≡ Some y) → find p (cond c (x ∷ filter q xs) (filter q xs)) ≡ Some y
    by true true is so f rest = ap (λ (t : Bool). cond t (Some x) (find p (filter q xs))) is ∙ f
    by true false is so f rest = absurd (true_false (sym holds ∙ ap q (sym (some_is x y f)) ∙ so))
    by false true is so f rest = ap (λ (t : Bool). cond t (Some x) (find p (filter q xs))) is ∙ rest f
    by false false is so f rest = rest f

found_holds : {A : Type 0} (p q : A → Bool) (xs : List A) (y : A) → find p (filter q xs) ≡ Some y → q y ≡ true
found_holds p q [] y e = absurd (none_some y e)
found_holds {A = A} p q (x ∷ xs) y e = by (q x) refl e (λ f. found_holds p q xs y f)
  where
    at : (b : Bool) → q x ≡ true → cond b (Some x) (find p (filter q xs)) ≡ Some y → (find p (filter q xs) ≡ Some y → q y ≡ true) → q y ≡ true
    at true so f rest = ap q (sym (some_is x y f)) ∙ so
    at false so f rest = rest f

    by : (c : Bool) → q x ≡ c → find p (cond c (x ∷ filter q xs) (filter q xs)) ≡ Some y → (find p (filter q xs) ≡ Some y → q y ≡ true) → q y ≡ true
    by true so f rest = at (p x) so f rest
    by false so f rest = rest f

waits_found : (number : ℕ → ℕ) (l : Leaving) (f : Exchanges) (s : State) → ShowsFlow number l f s → (n : ℕ) → AreBoth (ShowsExchange number) (find (is_number n) f.waiting) (find (is_exchange n) (filter has_none s.exchanges))
waits_found number l f s shows n =
    found (ShowsExchange number) (ShowsExchange number) (is_number n) (is_exchange n) f.waiting (filter has_none s.exchanges) (λ x e one. ap (λ (i : ℕ). i == n) one.number) (λ x e one so. one) shows.waiting

-- where one of the program is there, that of the law is
pub record IsShown (number : ℕ → ℕ) (s : State) (n : ℕ) (x : Entry) : Type 0 where
  pub known : Exchange
  pub there : exchange s n ≡ Some known
  pub shows : ShowsExchange number x known

pub is_shown : (number : ℕ → ℕ) (l : Leaving) (f : Exchanges) (s : State) → ShowsFlow number l f s → (n : ℕ) (x : Entry) → entry_of n f ≡ Some x → IsShown number s n x
is_shown number l f s shows n x here = by (exchange s n) refl (subst (λ (o : Option Entry). AreBoth (ShowsExchange number) o (exchange s n)) here (shows.each n))
  where
    by : (o : Option Exchange) → exchange s n ≡ o → AreBoth (ShowsExchange number) (Some x) o → IsShown number s n x
    by None is both = absurd both
    by (Some e) is both = record { known = e; there = is; shows = both }

pub waits_has : (number : ℕ → ℕ) (l : Leaving) (f : Exchanges) (s : State) → ShowsFlow number l f s → (n : ℕ) (x : Entry) (d : Exchange) → find (is_number n) f.waiting ≡ Some x → exchange s n ≡ Some d → has_none d ≡ true
waits_has number l f s shows n x d here there =
    by (find (is_exchange n) (filter has_none s.exchanges)) refl (subst (λ (o : Option Entry). AreBoth (ShowsExchange number) o (find (is_exchange n) (filter has_none s.exchanges))) here (waits_found number l f s shows n))
  where
    by : (o : Option Exchange) → find (is_exchange n) (filter has_none s.exchanges) ≡ o → AreBoth (ShowsExchange number) (Some x) o → has_none d ≡ true
    by None is both = absurd both
    by (Some e) is both =
        let one : IsShown number s n x = is_shown number l f s shows n x (entry_waiting n f x here) in
        ap (λ (c : Exchange). has_none c) (some_is d one.known (sym there ∙ one.there))
        ∙ ap (λ (o : Option ℕ). not (is_some o)) (sym one.shows.place ∙ both.place)
        ∙ found_holds (is_exchange n) has_none s.exchanges e is

pub placed_has : (number : ℕ → ℕ) (l : Leaving) (f : Exchanges) (s : State) → ShowsFlow number l f s → (n : ℕ) (x : Entry) (d : Exchange) → find (is_number n) f.placed ≡ Some x → exchange s n ≡ Some d → has_none d ≡ false
placed_has number l f s shows n x d here there = by (has_none d) refl
  where
    by : (b : Bool) → has_none d ≡ b → b ≡ false
    by false so = refl
    by true so =
        let both : AreBoth (ShowsExchange number) None (find (is_exchange n) (filter has_none s.exchanges)) =
        subst (λ (o : Option Entry). AreBoth (ShowsExchange number) o (find (is_exchange n) (filter has_none s.exchanges))) (none_waits number l f s shows n x here) (waits_found number l f s shows n) in
        absurd (none_shows (subst (λ (o : Option Exchange). AreBoth (ShowsExchange number) None o) (found_within (is_exchange n) has_none s.exchanges d there so) both))
      where
        none_shows : AreBoth (ShowsExchange number) None (Some d) → ⊥
        none_shows it = it
