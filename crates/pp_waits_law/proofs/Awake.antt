-- Nobody falls asleep: what that keeps, and where it is so.
use Rattle.std.proofs.Common.{◌≡◌, ◌≤◌, ◌<◌, ◌⊎◌, inl, inr, refl, sym, subst, ap, ◌∙◌, ℕ, zero, suc, Bool, true, false, ◌||◌, ◌==◌, nat_lt, length, List, [], ◌∷◌, ◌++◌, Some, None, arith}
use Rattle.std.proofs.lemmas.Bool.Decides.{nat_tests}
use Rattle.std.proofs.lemmas.Option.{slice_get_within}
use Rattle.std.specs.Prelude.{slice_get, vec_capacity}
use Rattle.pp_law.specs.Lists.{has_number}
use Rattle.pp_seats.specs.declared.seat.Seat.{Seat}
use Rattle.pp_state.specs.Ends.{numbers_of}
use Rattle.pp_state.specs.Numbers.{places}
use Rattle.pp_state.specs.declared.state.State.{State}
use Rattle.pp_waits_law.proofs.Like.{as_many, count_same}
use Rattle.pp_waits_law.proofs.Rising.{false_true}
use Rattle.pp_waits_law.proofs.Waited.{grouped}
use Rattle.pp_waits_law.proofs.Written.{at_end}
use Rattle.pp_waits_law.specs.Asleep.{AwakeByAndBy, KeepsAwake, LooksAtAll, NobodyWasRead, ReadStay}
use Rattle.pp_waits_law.specs.Steps.{HasRoom}

-- ---- lists

in_front : (xs ys : List ℕ) (i : ℕ) → i < length xs → slice_get (xs ++ ys) i ≡ slice_get xs i
in_front [] ys i less = absurd (omega (arith, less))
in_front (x ∷ xs) ys zero less = refl
in_front (x ∷ xs) ys (suc i) less = in_front xs ys i (omega (arith, less))

stays_in : (n : ℕ) (xs ys : List ℕ) → has_number n xs ≡ true → has_number n (xs ++ ys) ≡ true
stays_in n [] ys has = absurd (cc has)
stays_in n (x ∷ xs) ys has = by (x == n) has (λ rest. stays_in n xs ys rest)
  where
    by : (b : Bool) → (b || has_number n xs) ≡ true → (has_number n xs ≡ true → has_number n (xs ++ ys) ≡ true) → (b || has_number n (xs ++ ys)) ≡ true
    by true is rest = refl
    by false is rest = rest is

pub none_behind : (xs : List ℕ) → xs ≡ xs ++ []
none_behind [] = refl
none_behind (x ∷ xs) = ap (λ (ns : List ℕ). x ∷ ns) (none_behind xs)

-- each place below so many
in_places : (n k : ℕ) → k < n → has_number k (places n) ≡ true
in_places zero k less = absurd (omega (arith, less))
in_places (suc n) k less = at_end k n (places n) ∙ by (n == k) refl (λ lt. in_places n k lt)
  where
    or_all : (b : Bool) → (b || true) ≡ true
    or_all true = refl
    or_all false = refl

    by : (b : Bool) → (n == k) ≡ b → (k < n → has_number k (places n) ≡ true) → (has_number k (places n) || b) ≡ true
    by true is rest = or_all (has_number k (places n))
    by false is rest = let lt : k < n = grind (arith, nat_tests, less, is) in ap (λ (b : Bool). b || false) (rest lt)

-- ---- one behind the other

pub then_awake : AwakeByAndBy
then_awake a b c one (inr all) = inr all
then_awake a b c (inl one) (inl two) = inl (record {
  come = one.come ++ two.come;
  numbers = two.numbers ∙ ap (λ (ns : List ℕ). ns ++ two.come) one.numbers ∙ grouped (numbers_of a.seats.items) one.come two.come;
  awake = λ i is. two.awake i (one.awake i is);
  newcomers = λ i from less. by i from less (nat_lt i (length b.seats.items)) refl;
})
  where
    by : (i : ℕ) → length a.seats.items ≤ i → i < length c.seats.items → (t : Bool) → nat_lt i (length b.seats.items) ≡ t → has_number i c.awake.items ≡ true
    by i from less true is = two.awake i (one.newcomers i from (grind (arith, nat_tests, is)))
    by i from less false is = two.newcomers i (grind (arith, nat_tests, is)) less
then_awake a b c (inr all) (inl two) = inr (λ i less. by i less (nat_lt i (length b.seats.items)) refl)
  where
    by : (i : ℕ) → i < length c.seats.items → (t : Bool) → nat_lt i (length b.seats.items) ≡ t → has_number i c.awake.items ≡ true
    by i less true is = two.awake i (all i (grind (arith, nat_tests, is)))
    by i less false is = two.newcomers i (grind (arith, nat_tests, is)) less

-- ---- those who were read

pub read_stay : ReadStay
read_stay before old new (inr all) were = record {
  order = were.order;
  asleep = λ i n at out. absurd (false_true out (all i (subst (λ (k : ℕ). i < k) (as_many new.seats.items) (slice_get_within (numbers_of new.seats.items) i n at))));
  known = inl all;
}
read_stay before old new (inl on) were = record { order = were.order; asleep = λ i n at out. asleep i n at out (nat_lt i (length old.seats.items)) refl; known = known were.known }
  where
    asleep : (i n : ℕ) → slice_get (numbers_of new.seats.items) i ≡ Some n → has_number i new.awake.items ≡ false → (t : Bool) → nat_lt i (length old.seats.items) ≡ t → has_number n before ≡ true
    asleep i n at out true is =
        were.asleep i n (sym (in_front (numbers_of old.seats.items) on.come i (subst (λ (k : ℕ). i < k) (sym (as_many old.seats.items)) (grind (arith, nat_tests, is)))) ∙ ap (λ (ns : List ℕ). slice_get ns i) (sym on.numbers) ∙ at)
        (was (has_number i old.awake.items) refl)
      where
        was : (b : Bool) → has_number i old.awake.items ≡ b → has_number i old.awake.items ≡ false
        was true in_it = absurd (false_true out (on.awake i in_it))
        was false out_of = out_of
    asleep i n at out false is =
        absurd (false_true out (on.newcomers i (grind (arith, nat_tests, is)) (subst (λ (k : ℕ). i < k) (as_many new.seats.items) (slice_get_within (numbers_of new.seats.items) i n at))))

    all_by : LooksAtAll old → (i : ℕ) → i < length new.seats.items → (t : Bool) → nat_lt i (length old.seats.items) ≡ t → has_number i new.awake.items ≡ true
    all_by all i less true is = on.awake i (all i (grind (arith, nat_tests, is)))
    all_by all i less false is = on.newcomers i (grind (arith, nat_tests, is)) less

    known : LooksAtAll old ⊎ ((n : ℕ) → has_number n before ≡ true → has_number n (numbers_of old.seats.items) ≡ true) → LooksAtAll new ⊎ ((n : ℕ) → has_number n before ≡ true → has_number n (numbers_of new.seats.items) ≡ true)
    known (inl all) = inl (λ i less. all_by all i less (nat_lt i (length old.seats.items)) refl)
    known (inr there) = inr (λ n has. ap (λ (ns : List ℕ). has_number n ns) on.numbers ∙ stays_in n (numbers_of old.seats.items) on.come (there n has))

none_there : (i n : ℕ) → None ≡ Some n → ⊥
none_there i n is = cc is

pub nobody_read : NobodyWasRead
nobody_read s none = record {
  order = λ i j before within. absurd (omega (arith, within));
  asleep = λ i n at out. absurd (none_there i n (ap (λ (seats : List Seat). slice_get (numbers_of seats) i) (sym none) ∙ at));
  known = inr (λ n has. absurd (let no : false ≡ true = has in cc no));
}

-- ---- where it is so

-- the same clients, and the same of them are looked at
pub stay : (old new : State) → numbers_of new.seats.items ≡ numbers_of old.seats.items → ((i : ℕ) → has_number i old.awake.items ≡ true → has_number i new.awake.items ≡ true) → KeepsAwake old new
stay old new same awake = inl (record {
  come = [];
  numbers = same ∙ none_behind (numbers_of old.seats.items);
  awake = awake;
  newcomers = λ i from less. absurd (let count : length new.seats.items ≡ length old.seats.items = count_same new.seats.items old.seats.items same in omega (arith, from, less, count));
})

pub all_awake : (old new : State) → new.awake.items ≡ places (length new.seats.items) → KeepsAwake old new
all_awake old new is = inr (λ i less. ap (λ (ns : List ℕ). has_number i ns) is ∙ in_places (length new.seats.items) i less)

-- ---- with room for all

abbrev pub Goes : State → State → Type 0
Goes old new = HasRoom old → KeepsAwake old new × HasRoom new

pub goes_then : (a b c : State) → Goes a b → Goes b c → Goes a c
goes_then a b c one two room =
    let first : KeepsAwake a b × HasRoom b = one room in
    let second : KeepsAwake b c × HasRoom c = two first.1 in
    (then_awake a b c first.0 second.0, second.1)

-- where none comes, and the same are looked at
pub goes : (old new : State) → numbers_of new.seats.items ≡ numbers_of old.seats.items → new.awake ≡ old.awake → Goes old new
goes old new same awake room =
    let count : length new.seats.items ≡ length old.seats.items = count_same new.seats.items old.seats.items same in
    (stay old new same (λ i is. subst (λ a. has_number i a.items ≡ true) (sym awake) is), subst (λ a. length new.seats.items ≤ vec_capacity a) (sym awake) (subst (λ (k : ℕ). k ≤ vec_capacity old.awake) (sym count) room))
