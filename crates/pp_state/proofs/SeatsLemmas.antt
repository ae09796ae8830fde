-- What a search finds among the clients, and what is left of them where one, or each, is changed.
use Rattle.std.proofs.Common.{◌≡◌, ◌≢◌, ◌<◌, ◌≤◌, ◌+◌, ℕ, zero, suc, eqb, Bool, true, false, cond, ◌||◌, List, [], ◌∷◌, ◌++◌, length, map, take, get_or, slice_get, slice_set, Option, Some, None, IfSome, option_map, Result, Ok, Err, MatchResult, refl, sym, ap, ◌∙◌, add-one, arith}
use Rattle.std.specs.List.Sorted.{IsBinarySearchResult, IsSearchInRange, IsNonDecreasingBy}
use Rattle.std.specs.Ordering.{nat_cmp, ordering_index}
use Rattle.std.proofs.lemmas.Cmp.{ranked}
use Rattle.std.proofs.lemmas.List.{get_or-map, length-map, take_more}
use Rattle.std.proofs.lemmas.Option.{slice_get-get_or, slice_get_read}
use Rattle.std.specs.Result.{result_ok}
use Rattle.std.proofs.lemmas.List.Sorted.{searched}
use Rattle.std.proofs.lemmas.Bool.Decides.{nat_tests}
use Rattle.pp_seats.specs.declared.seat.Seat.{Seat}
use Rattle.pp_cache.specs.Memory.{Memory}
use Rattle.pp_cache.specs.Notes.{has_noted}
use Rattle.pp_seats.specs.Courses.{has_begun, without_row}
use Rattle.pp_seats.specs.Follows.{next_of}
use Rattle.pp_seats.specs.Seats.{has_key}
use Rattle.pp_seats.specs.declared.seat.Course.TheVariants.{Trying}
use Rattle.pp_state.specs.Ends.{AreInOrder, all_decided_anew, all_regained, changed_at, decided_anew, is_regained, numbers_of, place_of, regained, useless_if_refused}

-- ---- a number that is there is found at its place, and one that is not is not found

in-front : (m : ℕ) (ms : List ℕ) → AreInOrder (m ∷ ms) → AreInOrder ms
in-front m ms rises i j before within = rises (suc i) (suc j) (omega (arith, before)) (omega (arith, within))

pub found-at : (n : ℕ) (ms : List ℕ) (i : ℕ) → AreInOrder ms → i < length ms → get_or ms i 0 ≡ n → place_of n ms ≡ Some i
found-at n [] i rises within here = absurd (omega (arith, within))
found-at n (m ∷ ms) zero rises within here =
    let same : eqb m n ≡ true = grind (arith, nat_tests, here) in
    ap (λ b. cond b (Some 0) (option_map suc (place_of n ms))) same
found-at n (m ∷ ms) (suc i) rises within here =
    let below : m < n = rw (← here) (rises 0 (suc i) (omega arith) within) in
    let other : eqb m n ≡ false = grind (arith, nat_tests, below) in
    ap (λ b. cond b (Some 0) (option_map suc (place_of n ms))) other
    ∙ ap (option_map suc) (found-at n ms i (in-front m ms rises) (omega (arith, within)) here)

pub found-nowhere : (n : ℕ) (ms : List ℕ) → ((i : ℕ) → i < length ms → get_or ms i 0 ≢ n) → place_of n ms ≡ None
found-nowhere n [] none = refl
found-nowhere n (m ∷ ms) none =
    let other : eqb m n ≡ false = grind (arith, nat_tests, none 0 (omega arith)) in
    ap (λ b. cond b (Some 0) (option_map suc (place_of n ms))) other
    ∙ ap (option_map suc) (found-nowhere n ms (λ i within. none (suc i) (omega (arith, within))))

-- ---- what the search of the seats says, of their numbers

of-numbers : (n : ℕ) (seats : List Seat) (r : Result ℕ ℕ) → IsSearchInRange r (length seats) → IsBinarySearchResult (λ seat. nat_cmp seat.client.id n) seats r → IsBinarySearchResult (λ m. nat_cmp m n) (numbers_of seats) r
of-numbers n [] (Ok i) within equal = absurd (omega (arith, within))
of-numbers n (s ∷ ss) (Ok i) within equal = λ d. ap (λ m. nat_cmp m n) (get_or-map (λ seat. seat.client.id) (s ∷ ss) i s d within) ∙ equal s
of-numbers n [] (Err i) within parted = λ up. (λ k d a b. absurd (omega (arith, within, b)), λ k d a b. absurd (omega (arith, b)))
of-numbers n (s ∷ ss) (Err i) within parted = λ up.
    let at : (k : ℕ) (d : ℕ) → k < length (s ∷ ss) → nat_cmp (get_or (numbers_of (s ∷ ss)) k d) n ≡ nat_cmp (get_or (s ∷ ss) k s).client.id n = λ k d in'. ap (λ m. nat_cmp m n) (get_or-map (λ seat. seat.client.id) (s ∷ ss) k s d in') in
    let seats-up : IsNonDecreasingBy (λ seat. ordering_index (nat_cmp seat.client.id n)) (s ∷ ss) = λ a b d le lt. rising (s ∷ ss) n up a b d le lt in
    let here = parted seats-up in (
      (λ k d a b. at k d (omega (arith, within, b)) ∙ here.0 k s a b),
      (λ k d a b. at k d (omega (arith, b, length-map (s ∷ ss) (λ (seat : Seat). seat.client.id))) ∙ here.1 k s a (omega (arith, b, length-map (s ∷ ss) (λ (seat : Seat). seat.client.id)))),
    )
  where
    rising : (seats : List Seat) (n : ℕ) → IsNonDecreasingBy (λ m. ordering_index (nat_cmp m n)) (numbers_of seats) → (a b : ℕ) (d : Seat) → a ≤ b → b < length seats
        → ordering_index (nat_cmp (get_or seats a d).client.id n) ≤ ordering_index (nat_cmp (get_or seats b d).client.id n)
    rising seats n up a b d le lt =
        rw (← get_or-map (λ seat. seat.client.id) seats a d d.client.id (omega (arith, le, lt)), ← get_or-map (λ seat. seat.client.id) seats b d d.client.id lt)
        (up a b d.client.id le (omega (arith, lt, length-map seats (λ (seat : Seat). seat.client.id))))

numbers-rise : (ms : List ℕ) → AreInOrder ms → (i j : ℕ) → i ≤ j → j < length ms → get_or ms i 0 ≤ get_or ms j 0
numbers-rise ms rises i j le within = grind (arith, rises i j, λ (same : i ≡ j). ap (λ k. get_or ms k 0) same)

module _ (n : ℕ) (seats : List Seat) (r : Result ℕ ℕ) (range : IsSearchInRange r (length seats)) (found : IsBinarySearchResult (λ seat. nat_cmp seat.client.id n) seats r) where
  -- without the order, what is found is there
  pub search-within : IfSome (result_ok r) (λ i. i < length seats)
  search-within = by r range
    where
      by : (r : Result ℕ ℕ) → IsSearchInRange r (length seats) → IfSome (result_ok r) (λ i. i < length seats)
      by (Ok i) within = within
      by (Err i) within = tt

  pub search-number : IfSome (result_ok r) (λ i. slice_get (numbers_of seats) i ≡ Some n)
  search-number = by r range (of-numbers n seats r range found)
    where
      by : (r : Result ℕ ℕ) → IsSearchInRange r (length seats) → IsBinarySearchResult (λ m. nat_cmp m n) (numbers_of seats) r → IfSome (result_ok r) (λ i. slice_get (numbers_of seats) i ≡ Some n)
      by (Ok i) within equal = slice_get-get_or (numbers_of seats) i 0 (omega (arith, within, length-map seats (λ (seat : Seat). seat.client.id))) ∙ ap Some (ranked (get_or (numbers_of seats) i 0) n _ (sym (equal 0)))
      by (Err i) within parted = tt

  -- with it, it is the place of that number
  pub search-finds : AreInOrder (numbers_of seats) → result_ok r ≡ place_of n (numbers_of seats)
  search-finds rises = by r (searched (numbers_of seats) n r (of-numbers n seats r range found) (numbers-rise (numbers_of seats) rises))
    where
      by : (r : Result ℕ ℕ) → MatchResult r (λ i. (i < length (numbers_of seats)) × (get_or (numbers_of seats) i 0 ≡ n)) (λ i. (i ≤ length (numbers_of seats)) × ((k : ℕ) → k < i → get_or (numbers_of seats) k 0 < n) × ((k : ℕ) → i ≤ k → k < length (numbers_of seats) → n < get_or (numbers_of seats) k 0))
          → result_ok r ≡ place_of n (numbers_of seats)
      by (Ok i) here = sym (found-at n (numbers_of seats) i rises here.0 here.1)
      by (Err i) apart = sym (found-nowhere n (numbers_of seats) (λ k within same. grind (arith, apart.1 k, apart.2 k)))

-- ---- where one client is changed

pub changed_here : (i : ℕ) (f : Seat → Seat) (seats : List Seat) (seat : Seat) → i < length seats → seat ≡ get_or seats i seat → slice_set seats i (f seat) ≡ changed_at i f seats
changed_here i f seats seat within is = ap (λ (x : Option Seat). elim x [ None ↦ seats | Some s ↦ slice_set seats i (f s) ]) (sym (slice_get_read seats (length seats) i seat refl within is))

-- where it keeps its number, all do
pub changed_numbers : (i : ℕ) (f : Seat → Seat) (seats : List Seat) → ((seat : Seat) → (f seat).client.id ≡ seat.client.id) → numbers_of (changed_at i f seats) ≡ numbers_of seats
changed_numbers i f [] keeps = refl
changed_numbers zero f (seat ∷ seats) keeps = ap (λ n. n ∷ numbers_of seats) (keeps seat)
changed_numbers (suc i) f (seat ∷ seats) keeps = changed-later i f seat seats (changed_numbers i f seats keeps)
  where
    changed-later : (i : ℕ) (f : Seat → Seat) (seat : Seat) (seats : List Seat) → numbers_of (changed_at i f seats) ≡ numbers_of seats → numbers_of (changed_at (suc i) f (seat ∷ seats)) ≡ numbers_of (seat ∷ seats)
    changed-later i f seat seats same = by (slice_get seats i) same
      where
        by : (x : Option Seat) → numbers_of (elim x [ None ↦ seats | Some s ↦ slice_set seats i (f s) ]) ≡ numbers_of seats → numbers_of (elim x [ None ↦ seat ∷ seats | Some s ↦ slice_set (seat ∷ seats) (suc i) (f s) ]) ≡ numbers_of (seat ∷ seats)
        by None e = refl
        by (Some s) e = ap (λ ns. seat.client.id ∷ ns) e

-- each by what keeps it
pub mapped_numbers : (f : Seat → Seat) (seats : List Seat) → ((seat : Seat) → (f seat).client.id ≡ seat.client.id) → numbers_of (map f seats) ≡ numbers_of seats
mapped_numbers f [] keeps = refl
mapped_numbers f (seat ∷ seats) keeps = ap (λ n. n ∷ numbers_of (map f seats)) (keeps seat) ∙ ap (λ ns. seat.client.id ∷ ns) (mapped_numbers f seats keeps)

-- what is written there keeps its number
pub set_numbers : (i : ℕ) (seats : List Seat) (old new : Seat) → i < length seats → old ≡ get_or seats i old → new.client.id ≡ old.client.id → numbers_of (slice_set seats i new) ≡ numbers_of seats
set_numbers i [] old new within is same = absurd (omega (arith, within))
set_numbers zero (seat ∷ seats) old new within is same = ap (λ n. n ∷ numbers_of seats) (same ∙ ap (λ (s : Seat). s.client.id) is)
set_numbers (suc i) (seat ∷ seats) old new within is same = ap (λ ns. seat.client.id ∷ ns) (set_numbers i seats old new (omega (arith, within)) is same)

anew-number : (key : List ℕ) (seat : Seat) → (decided_anew key seat).client.id ≡ seat.client.id
anew-number key seat = by (has_key key seat)
  where
    by : (b : Bool) → (cond b (record seat { brought = useless_if_refused seat.brought }) seat).client.id ≡ seat.client.id
    by true = refl
    by false = refl

pub anew_numbers : (key : List ℕ) (refused : List (List ℕ)) (seats : List Seat) → numbers_of (all_decided_anew key refused seats) ≡ numbers_of seats
anew_numbers key refused seats = by (has_noted key refused)
  where
    by : (b : Bool) → numbers_of (cond b (map (decided_anew key) seats) seats) ≡ numbers_of seats
    by true = mapped_numbers (decided_anew key) seats (anew-number key)
    by false = refl

-- ---- where each is changed, one behind the other

abbrev pub front-mapped : (Seat → Seat) → ℕ → List Seat → List Seat
front-mapped f zero seats = seats
front-mapped f (suc n) [] = []
front-mapped f (suc n) (seat ∷ seats) = f seat ∷ front-mapped f n seats

pub front-all : (f : Seat → Seat) (seats : List Seat) → front-mapped f (length seats) seats ≡ map f seats
front-all f [] = refl
front-all f (seat ∷ seats) = ap (λ xs. f seat ∷ xs) (front-all f seats)

pub front-at : (f : Seat → Seat) (n : ℕ) (seats : List Seat) (d : Seat) → get_or (front-mapped f n seats) n d ≡ get_or seats n d
front-at f zero seats d = refl
front-at f (suc n) [] d = refl
front-at f (suc n) (seat ∷ seats) d = front-at f n seats d

pub front-next : (f : Seat → Seat) (n : ℕ) (seats : List Seat) (d : Seat) → n < length seats → slice_set (front-mapped f n seats) n (f (get_or seats n d)) ≡ front-mapped f (suc n) seats
front-next f n [] d within = absurd (omega (arith, within))
front-next f zero (seat ∷ seats) d within = refl
front-next f (suc n) (seat ∷ seats) d within = ap (λ xs. f seat ∷ xs) (front-next f n seats d (omega (arith, within)))

-- the next is changed too
pub front-done : (f : Seat → Seat) (i : ℕ) (old now : List Seat) (new d : Seat) → now ≡ front-mapped f i old → i < length old → new ≡ f (get_or now i d) → slice_set now i new ≡ front-mapped f (i + 1) old
front-done f i old now new d so-far within is =
    ap (slice_set now i) is ∙ ap (λ (s : List Seat). slice_set s i (f (get_or s i d))) so-far ∙ ap (λ (x : Seat). slice_set (front-mapped f i old) i (f x)) (front-at f i old d) ∙ front-next f i old d within
    ∙ ap (λ n. front-mapped f n old) (sym (add-one i))

abbrev without_row-by : Bool → Seat → Seat
without_row-by b seat = elim b [ true ↦ seat | false ↦ record seat { course = Trying 0; has_given_up = true } ]

pub without_row-number : (seat : Seat) → (without_row seat).client.id ≡ seat.client.id
without_row-number seat = by (has_begun seat || seat.has_given_up)
  where
    by : (b : Bool) → (without_row-by b seat).client.id ≡ seat.client.id
    by true = refl
    by false = refl

-- all of a list that is written over
pub refilled : (ys zs : List Seat) → take (length ys) (ys ++ zs) ≡ ys
refilled [] zs = refl
refilled (y ∷ ys) zs = ap (λ xs. y ∷ xs) (refilled ys zs)

-- ---- where attempts count anew

pub all_regained-append : (m : Memory) (is js : List ℕ) (seats : List Seat) → all_regained m (is ++ js) seats ≡ all_regained m js (all_regained m is seats)
all_regained-append m [] js seats = refl
all_regained-append m (i ∷ is) js seats = all_regained-append m is js (changed_at i (regained m) seats)

-- the next of these places
pub all_regained-next : (m : Memory) (is : List ℕ) (n : ℕ) (seats : List Seat) → n < length is → all_regained m (take (n + 1) is) seats ≡ changed_at (get_or is n 0) (regained m) (all_regained m (take n is) seats)
all_regained-next m is n seats within = ap (λ xs. all_regained m xs seats) (take_more is n 0 within) ∙ all_regained-append m (take n is) (get_or is n 0 ∷ []) seats

-- each keeps its number
regained_number : (m : Memory) (seat : Seat) → (regained m seat).client.id ≡ seat.client.id
regained_number m seat = by (is_regained m seat)
  where
    by : (b : Bool) → (cond b (record seat { course = Trying 0 }) seat).client.id ≡ seat.client.id
    by true = refl
    by false = refl

pub regained_numbers : (m : Memory) (is : List ℕ) (seats : List Seat) → numbers_of (all_regained m is seats) ≡ numbers_of seats
regained_numbers m [] seats = refl
regained_numbers m (i ∷ is) seats = regained_numbers m is (changed_at i (regained m) seats) ∙ changed_numbers i (regained m) seats (regained_number m)
