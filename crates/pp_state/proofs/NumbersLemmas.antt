-- A number takes its place among those that rise, or leaves them, and they rise still.
use Rattle.std.proofs.Common.{◌≡◌, ◌≢◌, ◌<◌, ◌≤◌, ◌+◌, ℕ, zero, suc, Bool, true, false, cond, List, [], ◌∷◌, ◌++◌, length, take, get_or, Option, Some, None, OnSome, Result, Ok, Err, IsOk, OnOk, OnErr, is_ok, slice_get, length-append, refl, sym, ap, subst, ◌∙◌, add-one, arith}
use Rattle.std.specs.Prelude.{nat_lt, ◌==◌, ⊤}
use Rattle.std.specs.List.{fold, insert, remove}
use Rattle.std.specs.List.Sorted.{IsBinarySearchResult}
use Rattle.std.specs.Ordering.{nat_cmp}
use Rattle.std.proofs.lemmas.Bool.Decides.{nat_tests}
use Rattle.std.proofs.lemmas.List.Sorted.{searched}
use Rattle.pp_state.specs.Ends.{AreInOrder}
use Rattle.std.proofs.lemmas.Option.{slice_get-get_or}
use Rattle.pp_state.specs.Numbers.{if_room, is_other, places, with_read_by, with_number, without_number}

-- ---- in its place

behind : (m : ℕ) (ms : List ℕ) → AreInOrder (m ∷ ms) → AreInOrder ms
behind m ms rises i j before within = rises (suc i) (suc j) (omega (arith, before)) (omega (arith, within))

abbrev placed : Bool → Bool → ℕ → ℕ → List ℕ → List ℕ
placed before same n m ms = cond before (n ∷ m ∷ ms) (cond same (m ∷ ms) (m ∷ with_number n ms))

before_it : (n m : ℕ) (ms : List ℕ) → n < m → with_number n (m ∷ ms) ≡ n ∷ m ∷ ms
before_it n m ms less = let first : nat_lt n m ≡ true = grind (arith, nat_tests, less) in ap (λ b. placed b (m == n) n m ms) first

is_it : (n m : ℕ) (ms : List ℕ) → m ≡ n → with_number n (m ∷ ms) ≡ m ∷ ms
is_it n m ms same =
    let first : nat_lt n m ≡ false = grind (arith, nat_tests, same) in
    let equal : (m == n) ≡ true = grind (arith, nat_tests, same) in
    ap (λ b. placed b (m == n) n m ms) first ∙ ap (λ b. placed false b n m ms) equal

behind_it : (n m : ℕ) (ms : List ℕ) → m < n → with_number n (m ∷ ms) ≡ m ∷ with_number n ms
behind_it n m ms less =
    let first : nat_lt n m ≡ false = grind (arith, nat_tests, less) in
    let equal : (m == n) ≡ false = grind (arith, nat_tests, less) in
    ap (λ b. placed b (m == n) n m ms) first ∙ ap (λ b. placed false b n m ms) equal

pub inserted : (n : ℕ) (ms : List ℕ) (i : ℕ) → i ≤ length ms → ((k : ℕ) → k < i → get_or ms k 0 < n) → ((k : ℕ) → i ≤ k → k < length ms → n < get_or ms k 0) → insert ms i n ≡ with_number n ms
inserted n [] zero within below above = refl
inserted n [] (suc i) within below above = absurd (omega (arith, within))
inserted n (m ∷ ms) zero within below above = sym (before_it n m ms (above 0 (omega arith) (omega arith)))
inserted n (m ∷ ms) (suc i) within below above =
    ap (λ xs. m ∷ xs) (inserted n ms i (omega (arith, within)) (λ k less. below (suc k) (omega (arith, less))) (λ k more less. above (suc k) (omega (arith, more)) (omega (arith, less))))
    ∙ sym (behind_it n m ms (below 0 (omega arith)))

pub there : (n : ℕ) (ms : List ℕ) (i : ℕ) → AreInOrder ms → i < length ms → get_or ms i 0 ≡ n → with_number n ms ≡ ms
there n [] i rises within is = absurd (omega (arith, within))
there n (m ∷ ms) zero rises within is = is_it n m ms is
there n (m ∷ ms) (suc i) rises within is =
    behind_it n m ms (subst (λ x. m < x) is (rises 0 (suc i) (omega arith) within)) ∙ ap (λ xs. m ∷ xs) (there n ms i (behind m ms rises) (omega (arith, within)) is)

-- ---- it leaves

abbrev left_by : Bool → ℕ → List ℕ → List ℕ
left_by other m ms = cond other (m ∷ ms) ms

other_stays : (n m : ℕ) (ms : List ℕ) → m ≢ n → without_number n (m ∷ ms) ≡ m ∷ without_number n ms
other_stays n m ms other = let is : is_other n m ≡ true = grind (arith, nat_tests, other) in ap (λ b. left_by b m (without_number n ms)) is

it_leaves : (n m : ℕ) (ms : List ℕ) → m ≡ n → without_number n (m ∷ ms) ≡ without_number n ms
it_leaves n m ms same = let is : is_other n m ≡ false = grind (arith, nat_tests, same) in ap (λ b. left_by b m (without_number n ms)) is

pub all_stay : (n : ℕ) (ms : List ℕ) → ((k : ℕ) → k < length ms → get_or ms k 0 ≢ n) → without_number n ms ≡ ms
all_stay n [] none = refl
all_stay n (m ∷ ms) none = other_stays n m ms (none 0 (omega arith)) ∙ ap (λ xs. m ∷ xs) (all_stay n ms (λ k less. none (suc k) (omega (arith, less))))

pub removed : (n : ℕ) (ms : List ℕ) (i : ℕ) → AreInOrder ms → i < length ms → get_or ms i 0 ≡ n → remove ms i ≡ without_number n ms
removed n [] i rises within is = absurd (omega (arith, within))
removed n (m ∷ ms) zero rises within is =
    sym (it_leaves n m ms is ∙ all_stay n ms (λ k less same. let above : m < get_or ms k 0 = rises 0 (suc k) (omega arith) (omega (arith, less)) in omega (arith, above, same, is)))
removed n (m ∷ ms) (suc i) rises within is =
    let below : m < n = subst (λ x. m < x) is (rises 0 (suc i) (omega arith) within) in
    ap (λ xs. m ∷ xs) (removed n ms i (behind m ms rises) (omega (arith, within)) is) ∙ sym (other_stays n m ms (λ same. omega (arith, below, same)))

-- ---- they rise still

abbrev pub Above : ℕ → List ℕ → Type 0
Above low [] = ⊤
Above low (m ∷ ms) = (low ≤ m) × Above (m + 1) ms

above : (low : ℕ) (ms : List ℕ) → AreInOrder ms → ((k : ℕ) → k < length ms → low ≤ get_or ms k 0) → Above low ms
above low [] rises least = tt
above low (m ∷ ms) rises least =
    (least 0 (omega arith), above (m + 1) ms (behind m ms rises) (λ k less. let more : m < get_or ms k 0 = rises 0 (suc k) (omega arith) (omega (arith, less)) in omega (arith, more)))

at_least : (low : ℕ) (ms : List ℕ) → Above low ms → (k : ℕ) → k < length ms → low ≤ get_or ms k 0
at_least low [] up k less = absurd (omega (arith, less))
at_least low (m ∷ ms) up zero less = up.0
at_least low (m ∷ ms) up (suc k) less = let more : m + 1 ≤ get_or ms k 0 = at_least (m + 1) ms up.1 k (omega (arith, less)) in omega (arith, more, up.0)

pub in_order : (low : ℕ) (ms : List ℕ) → Above low ms → AreInOrder ms
in_order low [] up i j before within = absurd (omega (arith, within))
in_order low (m ∷ ms) up i zero before within = absurd (omega (arith, before))
in_order low (m ∷ ms) up zero (suc j) before within = let more : m + 1 ≤ get_or ms j 0 = at_least (m + 1) ms up.1 j (omega (arith, within)) in omega (arith, more)
in_order low (m ∷ ms) up (suc i) (suc j) before within = in_order (m + 1) ms up.1 i j (omega (arith, before)) (omega (arith, within))

pub above_none : (ms : List ℕ) → AreInOrder ms → Above 0 ms
above_none ms rises = above 0 ms rises (λ k less. omega arith)

pub lower : (low high : ℕ) (ms : List ℕ) → low ≤ high → Above high ms → Above low ms
lower low high [] less up = tt
lower low high (m ∷ ms) less up = (omega (arith, less, up.0), up.1)

with_above : (low n : ℕ) (ms : List ℕ) → low ≤ n → Above low ms → Above low (with_number n ms)
with_above low n [] least up = (least, tt)
with_above low n (m ∷ ms) least up = by (nat_lt n m) refl (m == n) refl (λ past. with_above (m + 1) n ms past up.1)
  where
    by : (b : Bool) → nat_lt n m ≡ b → (e : Bool) → (m == n) ≡ e → (m + 1 ≤ n → Above (m + 1) (with_number n ms)) → Above low (placed b e n m ms)
    by true less e is behind_that = (least, let below : n < m = grind (arith, nat_tests, less) in (omega (arith, below), up.1))
    by false more true is behind_that = up
    by false more false is behind_that = (up.0, let past : m + 1 ≤ n = grind (arith, nat_tests, more, is) in behind_that past)

without_above : (low n : ℕ) (ms : List ℕ) → Above low ms → Above low (without_number n ms)
without_above low n [] up = tt
without_above low n (m ∷ ms) up = by (is_other n m) (without_above (m + 1) n ms up.1)
  where
    by : (b : Bool) → Above (m + 1) (without_number n ms) → Above low (left_by b m (without_number n ms))
    by true rest = (up.0, rest)
    by false rest = lower low (m + 1) (without_number n ms) (omega (arith, up.0)) rest

pub with_in_order : (n : ℕ) (ms : List ℕ) → AreInOrder ms → AreInOrder (with_number n ms)
with_in_order n ms rises = in_order 0 (with_number n ms) (with_above 0 n ms (omega arith) (above_none ms rises))

pub without_in_order : (n : ℕ) (ms : List ℕ) → AreInOrder ms → AreInOrder (without_number n ms)
without_in_order n ms rises = in_order 0 (without_number n ms) (without_above 0 n ms (above_none ms rises))

-- ---- by a search

numbers_rise : (ms : List ℕ) → AreInOrder ms → (i j : ℕ) → i ≤ j → j < length ms → get_or ms i 0 ≤ get_or ms j 0
numbers_rise ms rises i j le within = grind (arith, rises i j, λ (same : i ≡ j). ap (λ k. get_or ms k 0) same)

never : false ≡ true → ⊥
never e = absurd (cc e)

abbrev pub Finds : ℕ → List ℕ → Result ℕ ℕ → Type 0
Finds n ms r = IsBinarySearchResult (λ m. nat_cmp m n) ms r

module _ (n : ℕ) (ms : List ℕ) (i : ℕ) (rises : AreInOrder ms) where
  pub put : Finds n ms (Err i) → insert ms i n ≡ with_number n ms
  put finds = let at = searched ms n (Err i) finds (numbers_rise ms rises) in inserted n ms i at.0 at.1 at.2

  pub stays : Finds n ms (Ok i) → with_number n ms ≡ ms
  stays finds = let at = searched ms n (Ok i) finds (numbers_rise ms rises) in there n ms i rises at.0 at.1

  pub none_leaves : Finds n ms (Err i) → without_number n ms ≡ ms
  none_leaves finds = let at = searched ms n (Err i) finds (numbers_rise ms rises) in all_stay n ms (λ k less same. grind (arith, at.1 k, at.2 k))

  -- where what was found is taken out
  pub popped : (new : List ℕ) (r : Option ℕ) → Finds n ms (Ok i) → r ≡ slice_get ms i → OnSome r (new ≡ remove ms i) → new ≡ without_number n ms
  popped new r finds value on = by r value on
    where
      within : i < length ms
      within = let at = searched ms n (Ok i) finds (numbers_rise ms rises) in at.0

      its : get_or ms i 0 ≡ n
      its = let at = searched ms n (Ok i) finds (numbers_rise ms rises) in at.1

      none : slice_get ms i ≡ None → ⊥
      none is = let some : slice_get ms i ≡ Some (get_or ms i 0) = slice_get-get_or ms i 0 within in absurd (cc is)

      by : (r : Option ℕ) → r ≡ slice_get ms i → OnSome r (new ≡ remove ms i) → new ≡ without_number n ms
      by None value on = absurd (none (sym value))
      by (Some x) value on = on ∙ removed n ms i rises within its

  -- where it is put in, as long as there is room
  pub put_in : {A B : Type 0} (new : List ℕ) (r : Result A B) → Finds n ms (Err i) → (length ms < 320 → IsOk r) → OnOk r (new ≡ insert ms i n) → OnOk r (length ms < 320) → OnErr r (new ≡ ms) → new ≡ if_room (with_number n ms) ms
  put_in new (Ok x) finds room on less off = on ∙ put finds ∙ sym (ap (λ b. cond b (with_number n ms) ms) (let is : nat_lt (length ms) 320 ≡ true = grind (arith, nat_tests, less) in is))
  put_in new (Err e) finds room on less off = off ∙ sym (ap (λ b. cond b (with_number n ms) ms) (full (nat_lt (length ms) 320) refl))
    where
      full : (b : Bool) → nat_lt (length ms) 320 ≡ b → nat_lt (length ms) 320 ≡ false
      full true is = absurd (never (room (let less : length ms < 320 = grind (arith, nat_tests, is) in less)))
      full false is = is

  -- where there is room for it
  pub roused : {A B : Type 0} (new : List ℕ) (r : Result A B) → Finds n ms (Err i) → IsOk r → new ≡ cond (is_ok r) (insert ms i n) ms → new ≡ with_number n ms
  roused new (Ok x) finds ok is = is ∙ put finds
  roused new (Err e) finds ok is = absurd (never ok)

pub if_same : (more ms : List ℕ) → more ≡ ms → ms ≡ if_room more ms
if_same more ms same = by (nat_lt (length ms) 320)
  where
    by : (b : Bool) → ms ≡ cond b more ms
    by true = sym same
    by false = refl

pub read_in_order : (b : Bool) (n : ℕ) (ms : List ℕ) → AreInOrder ms → AreInOrder (with_read_by b n ms)
read_in_order false n ms rises = without_in_order n ms rises
read_in_order true n ms rises = by (nat_lt (length ms) 320)
  where
    by : (b : Bool) → AreInOrder (cond b (with_number n ms) ms)
    by true = with_in_order n ms rises
    by false = rises

-- ---- one behind the other

folded_by : {A : Type 0} (f : A → ℕ → A) (z : A) (is : List ℕ) (n : ℕ) → n < length is → fold f z (take (suc n) is) ≡ f (fold f z (take n is)) (get_or is n 0)
folded_by f z [] n within = absurd (omega (arith, within))
folded_by f z (i ∷ is) zero within = refl
folded_by f z (i ∷ is) (suc n) within = folded_by f (f z i) is n (omega (arith, within))

pub folded_next : {A : Type 0} (f : A → ℕ → A) (z before after : A) (is js : List ℕ) (n : ℕ) → js ≡ is → n < length js → before ≡ fold f z (take n is) → after ≡ f before (get_or js n 0) → after ≡ fold f z (take (n + 1) is)
folded_next f z before after is js n same within first next =
    next ∙ ap (λ a. f a (get_or js n 0)) first ∙ ap (λ (ks : List ℕ). f (fold f z (take n is)) (get_or ks n 0)) same
    ∙ sym (ap (λ (k : ℕ). fold f z (take k is)) (add-one n) ∙ folded_by f z is n (omega (arith, within, ap length same)))

-- ---- all places

length_places : (n : ℕ) → length (places n) ≡ n
length_places zero = refl
length_places (suc n) = length-append (places n) (n ∷ []) ∙ ap (λ k. k + 1) (length_places n) ∙ add-one n

pub one_place_more : {A B : Type 0} (i n first room : ℕ) (ms new : List ℕ) (r : Result A B) → ms ≡ places i → i < n → n ≤ first → first ≤ room → (length ms < room → IsOk r) → new ≡ cond (is_ok r) (ms ++ i ∷ []) ms → new ≡ places (i + 1)
one_place_more {A = A} {B = B} i n first room ms new r before within most grown ok is = by r (ok (let len : length ms ≡ i = ap length before ∙ length_places i in omega (arith, len, within, most, grown))) is
  where
    by : (r : Result A B) → IsOk r → new ≡ cond (is_ok r) (ms ++ i ∷ []) ms → new ≡ places (i + 1)
    by (Ok x) fine is = is ∙ ap (λ (ks : List ℕ). ks ++ i ∷ []) before ∙ sym (ap places (add-one i))
    by (Err e) fine is = absurd (never fine)
