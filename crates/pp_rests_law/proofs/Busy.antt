-- The bodies that belong to instances are those of the law, so no more than 64 come.
use Rattle.std.proofs.Common.{◌≡◌, ◌≤◌, inl, inr, refl, sym, ap, ◌∙◌, ℕ, ◌+◌, Bool, true, false, cond, filter, filter_map, find, length, List, [], ◌∷◌, map, Option, Some, None, le_trans, arith}
use Rattle.std.specs.Prelude.{count_by, is_some, option_map}
use Rattle.pp_cache_law.proofs.Finds.{find_joined}
use Rattle.pp_cache_law.proofs.Numbers.{same_test}
use Rattle.pp_cache_law.proofs.PairLemmas.{count_first}
use Rattle.pp_flow.specs.Changes.{Exchanges, entry_of}
use Rattle.pp_flow.specs.Entries.{Span, is_number}
use Rattle.pp_flow.specs.declared.entry.Entry.{Entry}
use Rattle.pp_flow_law.proofs.Standing.{IsShown, is_shown}
use Rattle.pp_flow_law.specs.Tables.{Leaving, ShowsFlow}
use Rattle.pp_law.specs.Connections.{is_exchange}
use Rattle.pp_law.specs.Stages.{bound_of}
use Rattle.pp_law.specs.State.{State, Bound, Exchange}
use Rattle.pp_laws.proofs.Lists.{From, in_find, in_map}
use Rattle.pp_laws.specs.Numbers.{AreDistinct}
use Rattle.pp_laws.specs.Runs.{IsIn}
use Rattle.pp_laws_bounds.proofs.Counts.{in_filter_of}
use Rattle.pp_laws_bounds.proofs.Pigeons.{length-made, pigeons}
use Rattle.pp_laws_bounds.specs.Bounds.{HasFewBodies, belongs_to_row}
use Rattle.pp_objects.specs.declared.id.ObjectId.{ObjectId}
use Rattle.pp_seats_law.proofs.Entries.{exchanges}
use Rattle.pp_seats_law.specs.Exchanges.{ShowsBound}
use Rattle.pp_state.specs.Pins.{busy_row, exchanges_of}

-- ---- no two have one number

abbrev number_of : Entry → ℕ
number_of x = x.exchange.number

count_in : {A : Type 0} (p : A → Bool) (xs : List A) (x : A) → IsIn x xs → p x ≡ true → 1 ≤ count_by p xs
count_in p [] x i is = absurd i
count_in p (y ∷ ys) x (inl e) is = let one : cond (p y) 1 0 + 0 ≡ 1 + 0 = ap (λ (b : Bool). cond b 1 0 + 0) (ap p (sym e) ∙ is) in omega (arith, one, count_first p y ys)
count_in p (y ∷ ys) x (inr j) is = omega (arith, count_in p ys x j is, count_first p y ys)

fewer : (n : ℕ) (x : Entry) (xs : List Entry) → count_by (is_number n) (x ∷ xs) ≤ 1 → count_by (is_number n) xs ≤ 1
fewer n x xs few = omega (arith, few, count_first (is_number n) x xs)

distinct : (xs : List Entry) → ((n : ℕ) → count_by (is_number n) xs ≤ 1) → AreDistinct (map number_of xs)
distinct [] few = tt
distinct (x ∷ xs) few = (not_twice, distinct xs (λ n. fewer n x xs (few n)))
  where
    not_twice : ¬ (IsIn (number_of x) (map number_of xs))
    not_twice i =
        let other : From number_of xs (number_of x) = in_map number_of (number_of x) xs i in
        let there : 1 ≤ count_by (is_number (number_of x)) xs = count_in (is_number (number_of x)) xs other.was other.there (same_test (number_of other.was) (number_of x) (sym other.is)) in
        let one : cond (is_number (number_of x) x) 1 0 + 0 ≡ 1 + 0 = ap (λ (b : Bool). cond b 1 0 + 0) (same_test (number_of x) (number_of x) refl) in
        absurd (omega (arith, there, one, few (number_of x), count_first (is_number (number_of x)) x xs))

found_in : {A : Type 0} (p : A → Bool) (xs : List A) (x : A) → IsIn x xs → p x ≡ true → count_by p xs ≤ 1 → find p xs ≡ Some x
found_in p [] x i is few = absurd i
found_in {A} p (y ∷ ys) x i is few = by (p y) refl i (λ j less. found_in p ys x j is less)
  where
    by : (b : Bool) → p y ≡ b → IsIn x (y ∷ ys) → (IsIn x ys → count_by p ys ≤ 1 → find p ys ≡ Some x) → cond b (Some y) (find p ys) ≡ Some x
    by true at (inl e) rest = ap (λ (z : A). Some z) (sym e)
    by true at (inr j) rest =
        let one : cond (p y) 1 0 + 0 ≡ 1 + 0 = ap (λ (b : Bool). cond b 1 0 + 0) at in
        absurd (omega (arith, one, count_in p ys x j is, few, count_first p y ys))
    by false at (inl e) rest = let both : true ≡ false = sym is ∙ ap p e ∙ at in absurd (cc both)
    by false at (inr j) rest = rest j (omega (arith, few, count_first p y ys))

-- ---- each is bound where the law's is

abbrev is_bound : Entry → Bool
is_bound x = is_some x.exchange.bound

bound_too : (number : ℕ → ℕ) (u : Option Span) (v : Option Bound) → ShowsBound number u v → is_some u ≡ true → is_some v ≡ true
bound_too number None v shows is = absurd (cc is)
bound_too number (Some x) None shows is = absurd shows
bound_too number (Some x) (Some b) shows is = refl

is_busy : (x : Entry) (id : ObjectId) → busy_row x ≡ Some id → is_bound x ≡ true
is_busy x id = by x.exchange.bound
  where
    by : (o : Option Span) → option_map (λ (b : Span). b.0) o ≡ Some id → is_some o ≡ true
    by None is = absurd (cc is)
    by (Some b) is = refl

module _ (number : ℕ → ℕ) (l : Leaving) (f : Exchanges) (s : State) (shows : ShowsFlow number l f s) where
  its : (x : Entry) → IsIn x (exchanges_of f) → is_bound x ≡ true → (e : Exchange) × IsIn e (filter belongs_to_row s.exchanges) × (Some e.number ≡ Some (number_of x))
  its x i is =
      let among : find (is_number (number_of x)) (exchanges_of f) ≡ Some x = found_in (is_number (number_of x)) (exchanges_of f) x i (same_test (number_of x) (number_of x) refl) (shows.once (number_of x)) in
      let here : entry_of (number_of x) f ≡ Some x = sym (find_joined (is_number (number_of x)) f.waiting f.placed) ∙ among in
      let one : IsShown number s (number_of x) x = is_shown number l f s shows (number_of x) x here in
      let bound : belongs_to_row one.known ≡ true = bound_too number x.exchange.bound (bound_of one.known) (exchanges number x one.known one.shows).bound is in
      (one.known, in_filter_of belongs_to_row one.known s.exchanges (in_find (is_exchange (number_of x)) one.known s.exchanges one.there).0 bound, ap (λ (n : ℕ). Some n) (sym one.shows.number))

  pub few_busy : HasFewBodies s → length (filter_map busy_row (exchanges_of f)) ≤ 64
  few_busy few =
      le_trans (length-made busy_row is_bound (exchanges_of f) is_busy)
      (le_trans (pigeons number_of (λ (e : Exchange). Some e.number) is_bound (exchanges_of f) (filter belongs_to_row s.exchanges) (distinct (exchanges_of f) shows.once) its) few)
