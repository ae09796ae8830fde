-- No more chunks are pinned than there is room for: the program has as many clients as the law, and no more bodies that belong to a row.
use Rattle.std.proofs.Common.{◌≡◌, ◌≤◌, refl, ap, ◌∙◌, ℕ, ◌+◌, Bool, true, false, ◌==◌, not, cond, filter, find, is_some, length, List, [], ◌∷◌, Option, Some, None, arith}
use Rattle.std.specs.List.{cons_option, filter_map}
use Rattle.std.specs.Prelude.{count_by, option_and_then}
use Rattle.pp_cache_law.proofs.Finds.{find_kept, found_counted}
use Rattle.pp_cache_law.proofs.Numbers.{is_same, same_test}
use Rattle.pp_cache_law.proofs.PairLemmas.{count_first, fewer_kept}
use Rattle.pp_flow.specs.Changes.{Exchanges}
use Rattle.pp_flow.specs.Entries.{Span, is_number}
use Rattle.pp_flow.specs.declared.entry.Entry.{Entry}
use Rattle.pp_flow_law.proofs.Entries.{other_way}
use Rattle.pp_flow_law.proofs.Standing.{IsShown, is_shown}
use Rattle.pp_flow_law.specs.Tables.{Leaving, ShowsFlow}
use Rattle.pp_law.specs.Connections.{is_exchange}
use Rattle.pp_law.specs.Stages.{bound_of}
use Rattle.pp_law.specs.State.{State, Bound, Exchange}
use Rattle.pp_laws_bounds.specs.Bounds.{HasFewBodies, belongs_to_row}
use Rattle.pp_objects.specs.Instances.{Instance}
use Rattle.pp_seats.specs.declared.seat.Seat.{Seat}
use Rattle.pp_seats_law.proofs.Entries.{exchanges}
use Rattle.pp_seats_law.specs.Exchanges.{ShowsBound}
use Rattle.pp_state.specs.Pins.{exchanges_of, pin_of_entry, pin_of_seat, pin_of_span}
use Rattle.pp_turns_law.proofs.AllCome.{entry_among}

-- ---- each client and each such exchange pins one at most

one_more : (o : Option (ℕ × ℕ)) (ps : List (ℕ × ℕ)) (n : ℕ) → length ps ≤ n → length (cons_option o ps) ≤ 1 + n
one_more None ps n few = omega (arith, few)
one_more (Some p) ps n few = omega (arith, few)

pub few_seats : (seats : List Seat) → length (filter_map pin_of_seat seats) ≤ length seats
few_seats [] = omega arith
few_seats (seat ∷ seats) = let one : length (cons_option (pin_of_seat seat) (filter_map pin_of_seat seats)) ≤ 1 + length seats = one_more (pin_of_seat seat) (filter_map pin_of_seat seats) (length seats) (few_seats seats) in omega (arith, one)

abbrev is_bound : Entry → Bool
is_bound x = is_some x.exchange.bound

few_bound : (is : List Instance) (xs : List Entry) → length (filter_map (pin_of_entry is) xs) ≤ count_by is_bound xs
few_bound is [] = omega arith
few_bound is (x ∷ xs) =
    let one : length (filter_map (pin_of_entry is) (x ∷ xs)) ≤ cond (is_bound x) 1 0 + count_by is_bound xs = by x.exchange.bound (few_bound is xs) in
    omega (arith, one, count_first is_bound x xs)
  where
    by : (o : Option Span) → length (filter_map (pin_of_entry is) xs) ≤ count_by is_bound xs → length (cons_option (option_and_then (pin_of_span is) o) (filter_map (pin_of_entry is) xs)) ≤ cond (is_some o) 1 0 + count_by is_bound xs
    by None few = omega (arith, few)
    by (Some b) few = one_more (pin_of_span is b) (filter_map (pin_of_entry is) xs) (count_by is_bound xs) few

-- ---- no more of these than in the law

record IsThere (n : ℕ) (es : List Exchange) : Type 0 where
  known : Exchange
  there : find (is_exchange n) es ≡ Some known
  bound : belongs_to_row known ≡ true

apart : (x : Entry) (xs : List Entry) (n : ℕ) (y : Entry) → count_by (is_number n) (x ∷ xs) ≤ 1 → find (is_number n) xs ≡ Some y → is_number n x ≡ false
apart x xs n y few found = by (is_number n x) refl
  where
    by : (b : Bool) → is_number n x ≡ b → is_number n x ≡ false
    by false is = is
    by true is =
        let first : count_by (is_number n) (x ∷ xs) ≡ 1 + count_by (is_number n) xs = count_first (is_number n) x xs ∙ ap (λ (c : Bool). cond c 1 0 + count_by (is_number n) xs) is in
        absurd (omega (arith, first, few, found_counted (is_number n) xs y found))

abbrev others : ℕ → List Exchange → List Exchange
others m es = filter (λ e. not (is_exchange m e)) es

there_still : (m n : ℕ) (es : List Exchange) → (m == n) ≡ false → IsThere n es → IsThere n (others m es)
there_still m n es off one = record {
  known = one.known;
  there = find_kept (is_exchange n) (λ (e : Exchange). not (is_exchange m e)) es (λ e is. ap not (ap (λ (k : ℕ). k == m) (is_same e.number n is) ∙ other_way m n off)) ∙ one.there;
  bound = one.bound;
}

no_more : (xs : List Entry) (es : List Exchange) → ((n : ℕ) → count_by (is_number n) xs ≤ 1) → ((n : ℕ) (x : Entry) → find (is_number n) xs ≡ Some x → is_bound x ≡ true → IsThere n es) → count_by is_bound xs ≤ count_by belongs_to_row es
no_more [] es once all = omega arith
no_more (x ∷ xs) es once all = by (is_bound x) refl (no_more xs es less behind) (no_more xs (others x.exchange.number es) less (λ n y found bound. there_still x.exchange.number n es (apart x xs n y (once n) found) (behind n y found bound)))
  where
    less : (n : ℕ) → count_by (is_number n) xs ≤ 1
    less n = omega (arith, once n, count_first (is_number n) x xs)

    behind : (n : ℕ) (y : Entry) → find (is_number n) xs ≡ Some y → is_bound y ≡ true → IsThere n es
    behind n y found bound = all n y (ap (λ (c : Bool). cond c (Some x) (find (is_number n) xs)) (apart x xs n y (once n) found) ∙ found) bound

    by : (b : Bool) → is_bound x ≡ b → count_by is_bound xs ≤ count_by belongs_to_row es → count_by is_bound xs ≤ count_by belongs_to_row (others x.exchange.number es) → count_by is_bound (x ∷ xs) ≤ count_by belongs_to_row es
    by false is rest other =
        let first : count_by is_bound (x ∷ xs) ≡ 0 + count_by is_bound xs = count_first is_bound x xs ∙ ap (λ (c : Bool). cond c 1 0 + count_by is_bound xs) is in omega (arith, first, rest)
    by true is rest other =
        let first : count_by is_bound (x ∷ xs) ≡ 1 + count_by is_bound xs = count_first is_bound x xs ∙ ap (λ (c : Bool). cond c 1 0 + count_by is_bound xs) is in
        let one : IsThere x.exchange.number es = all x.exchange.number x (ap (λ (c : Bool). cond c (Some x) (find (is_number x.exchange.number) xs)) (same_test x.exchange.number x.exchange.number refl)) is in
        let fewer : count_by belongs_to_row (others x.exchange.number es) + 1 ≤ count_by belongs_to_row es = fewer_kept belongs_to_row (is_exchange x.exchange.number) es one.known one.there one.bound in
        omega (arith, first, other, fewer)

count_is : (es : List Exchange) → count_by belongs_to_row es ≡ length (filter belongs_to_row es)
count_is [] = refl
count_is (e ∷ es) = by (belongs_to_row e) (count_is es) (count_first belongs_to_row e es)
  where
    by : (b : Bool) → count_by belongs_to_row es ≡ length (filter belongs_to_row es) → count_by belongs_to_row (e ∷ es) ≡ cond b 1 0 + count_by belongs_to_row es → count_by belongs_to_row (e ∷ es) ≡ length (cond b (e ∷ filter belongs_to_row es) (filter belongs_to_row es))
    by true rest first = omega (arith, rest, first)
    by false rest first = omega (arith, rest, first)

-- ---- of what is shown

both_bound : (number : ℕ → ℕ) (u : Option Span) (v : Option Bound) → ShowsBound number u v → is_some u ≡ true → is_some v ≡ true
both_bound number None None same is = is
both_bound number (Some b) (Some c) same is = refl
both_bound number None (Some c) same is = absurd same
both_bound number (Some b) None same is = absurd same

pub few_entries : (number : ℕ → ℕ) (l : Leaving) (f : Exchanges) (s : State) (is : List Instance) → ShowsFlow number l f s → HasFewBodies s → length (filter_map (pin_of_entry is) (exchanges_of f)) ≤ 64
few_entries number l f s is shows few =
    let in_law : count_by is_bound (exchanges_of f) ≤ count_by belongs_to_row s.exchanges = no_more (exchanges_of f) s.exchanges shows.once there in
    omega (arith, few_bound is (exchanges_of f), in_law, count_is s.exchanges, few)
  where
    there : (n : ℕ) (x : Entry) → find (is_number n) (exchanges_of f) ≡ Some x → is_bound x ≡ true → IsThere n s.exchanges
    there n x found bound =
        let one : IsShown number s n x = is_shown number l f s shows n x (entry_among n f ∙ found) in
        record { known = one.known; there = one.there; bound = both_bound number x.exchange.bound (bound_of one.known) (exchanges number x one.known one.shows).bound bound }
