-- What holds of any of the exchanges holds of any of the law's, where it holds of each as of the law's.
use Rattle.std.proofs.Common.{◌≡◌, refl, sym, subst, ap, ◌∙◌, ℕ, Bool, true, false, ◌||◌, cond, find, List, [], ◌∷◌, ◌++◌, Option, Some, None}
use Rattle.std.specs.List.{list_any}
use Rattle.pp_cache_law.proofs.Finds.{find_joined, find_passes}
use Rattle.pp_cache_law.specs.Pairs.{AreBoth}
use Rattle.pp_flow.specs.Changes.{Exchanges, entry_of}
use Rattle.pp_flow.specs.Entries.{is_number}
use Rattle.pp_flow.specs.declared.entry.Entry.{Entry}
use Rattle.pp_flow_law.proofs.Entries.{none_some, same_as}
use Rattle.pp_flow_law.proofs.Standing.{IsShown, few_given, is_shown}
use Rattle.pp_flow_law.proofs.Told.{found_alone}
use Rattle.pp_flow_law.specs.Tables.{Leaving, ShowsFlow}
use Rattle.pp_law.specs.Connections.{exchange, is_exchange}
use Rattle.pp_law.specs.State.{State, Exchange}
use Rattle.pp_seats_law.specs.Exchanges.{ShowsExchange}

-- ---- any of a list

or_true : (b : Bool) → (b || true) ≡ true
or_true true = refl
or_true false = refl

pub any_by : {A : Type 0} (p q : A → Bool) (xs : List A) (y : A) → find q xs ≡ Some y → p y ≡ true → list_any p xs ≡ true
any_by p q [] y found holds = absurd (none_some y found)
any_by {A = A} p q (x ∷ xs) y found holds = by (q x) found (λ there. any_by p q xs y there holds)
  where
    by : (b : Bool) → cond b (Some x) (find q xs) ≡ Some y → (find q xs ≡ Some y → list_any p xs ≡ true) → (p x || list_any p xs) ≡ true
    by true there rest = let same : x ≡ y = cc in ap (λ (b : Bool). b || list_any p xs) (ap p same ∙ holds)
    by false there rest = ap (λ (b : Bool). p x || b) (rest there) ∙ or_true (p x)

pub none_of_them : {A : Type 0} (p : A → Bool) (xs : List A) → find p xs ≡ None → list_any p xs ≡ false
none_of_them p [] none = refl
none_of_them {A = A} p (x ∷ xs) none = by (p x) refl none (λ there. none_of_them p xs there)
  where
    by : (b : Bool) → p x ≡ b → cond b (Some x) (find p xs) ≡ None → (find p xs ≡ None → list_any p xs ≡ false) → (p x || list_any p xs) ≡ false
    by true is there rest = absurd (none_some x (sym there))
    by false is there rest = ap (λ (b : Bool). b || list_any p xs) is ∙ rest there

-- ---- any of the exchanges

pub entry_among : (n : ℕ) (f : Exchanges) → entry_of n f ≡ find (is_number n) (f.waiting ++ f.placed)
entry_among n f = by (find (is_number n) f.waiting) refl
  where
    by : (o : Option Entry) → find (is_number n) f.waiting ≡ o → entry_of n f ≡ find (is_number n) (f.waiting ++ f.placed)
    by o is = sym (find_joined (is_number n) f.waiting f.placed)

-- what is one of them is found by its number
pub found_itself : (number : ℕ → ℕ) (l : Leaving) (f : Exchanges) (s : State) → ShowsFlow number l f s → (p : Entry → Bool) (x : Entry) → find p (f.waiting ++ f.placed) ≡ Some x → entry_of x.exchange.number f ≡ Some x
found_itself number l f s shows p x there =
    entry_among x.exchange.number f
    ∙ found_alone (is_number x.exchange.number) p (f.waiting ++ f.placed) x there (same_as x.exchange.number x.exchange.number refl) (shows.once x.exchange.number)

pub known_itself : (number : ℕ → ℕ) (l : Leaving) (f : Exchanges) (s : State) → ShowsFlow number l f s → (q : Exchange → Bool) (e : Exchange) → find q s.exchanges ≡ Some e → exchange s e.number ≡ Some e
known_itself number l f s shows q e there = found_alone (is_exchange e.number) q s.exchanges e there (same_as e.number e.number refl) (few_given number l f s shows e.number)

-- where one of the law is there, that of the program is
pub record IsKept (number : ℕ → ℕ) (f : Exchanges) (n : ℕ) (e : Exchange) : Type 0 where
  pub seen : Entry
  pub here : entry_of n f ≡ Some seen
  pub shows : ShowsExchange number seen e

pub is_kept : (number : ℕ → ℕ) (l : Leaving) (f : Exchanges) (s : State) → ShowsFlow number l f s → (n : ℕ) (e : Exchange) → exchange s n ≡ Some e → IsKept number f n e
is_kept number l f s shows n e there = by (entry_of n f) refl (subst (λ (o : Option Exchange). AreBoth (ShowsExchange number) (entry_of n f) o) there (shows.each n))
  where
    by : (o : Option Entry) → entry_of n f ≡ o → AreBoth (ShowsExchange number) o (Some e) → IsKept number f n e
    by None is both = absurd both
    by (Some x) is both = record { seen = x; here = is; shows = both }

-- it holds of each exchange of the program where it holds of that of the law
abbrev pub AreAlike : (ℕ → ℕ) → Exchanges → State → (Entry → Bool) → (Exchange → Bool) → Type 0
AreAlike number f s p q = (n : ℕ) (x : Entry) (e : Exchange) → entry_of n f ≡ Some x → exchange s n ≡ Some e → ShowsExchange number x e → p x ≡ q e

module _ (number : ℕ → ℕ) (l : Leaving) (f : Exchanges) (s : State) (shows : ShowsFlow number l f s) (p : Entry → Bool) (q : Exchange → Bool) (alike : AreAlike number f s p q) where
  to_law : (x : Entry) → find p (f.waiting ++ f.placed) ≡ Some x → list_any q s.exchanges ≡ true
  to_law x there = by (is_shown number l f s shows x.exchange.number x (found_itself number l f s shows p x there))
    where
      by : IsShown number s x.exchange.number x → list_any q s.exchanges ≡ true
      by one =
          any_by q (is_exchange x.exchange.number) s.exchanges one.known one.there
          (sym (alike x.exchange.number x one.known (found_itself number l f s shows p x there) one.there one.shows) ∙ find_passes p (f.waiting ++ f.placed) x there)

  from_law : (e : Exchange) → find q s.exchanges ≡ Some e → list_any p (f.waiting ++ f.placed) ≡ true
  from_law e there = by (is_kept number l f s shows e.number e (known_itself number l f s shows q e there))
    where
      by : IsKept number f e.number e → list_any p (f.waiting ++ f.placed) ≡ true
      by one =
          any_by p (is_number e.number) (f.waiting ++ f.placed) one.seen (sym (entry_among e.number f) ∙ one.here)
          (alike e.number one.seen e one.here (known_itself number l f s shows q e there) one.shows ∙ find_passes q s.exchanges e there)

  pub any_alike : list_any p (f.waiting ++ f.placed) ≡ list_any q s.exchanges
  any_alike = by (find p (f.waiting ++ f.placed)) (find q s.exchanges) refl refl
    where
      by : (u : Option Entry) (v : Option Exchange) → find p (f.waiting ++ f.placed) ≡ u → find q s.exchanges ≡ v → list_any p (f.waiting ++ f.placed) ≡ list_any q s.exchanges
      by None None a b = none_of_them p (f.waiting ++ f.placed) a ∙ sym (none_of_them q s.exchanges b)
      by (Some x) v a b = any_by p p (f.waiting ++ f.placed) x a (find_passes p (f.waiting ++ f.placed) x a) ∙ sym (to_law x a)
      by None (Some e) a b = from_law e b ∙ sym (any_by q q s.exchanges e b (find_passes q s.exchanges e b))
