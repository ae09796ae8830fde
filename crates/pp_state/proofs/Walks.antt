-- What holds of the elements before one, and of that, holds of those up to it.
use Rattle.std.proofs.Common.{Bool, List, None, Option, Some, [], add-one, ap, arith, cond, false, get_or, length, refl, slice_get, suc, sym, take, true, zero, ℕ, ◌+◌, ◌<◌, ◌||◌, ◌∙◌, ◌∷◌, ◌≡◌, ◌≤◌}
use Rattle.std.specs.List.{cons_option, filter_map, find, list_any, reduce}
use Rattle.std.specs.Option.{option_to_list}
use Rattle.std.specs.Prelude.{max, option_and_then, ◌++◌}
use Rattle.std.proofs.lemmas.List.{append-nil}
use Rattle.std.proofs.lemmas.List.Sums.{fold-append}
use Rattle.pp_state.specs.Readers.{of_both}
use Rattle.std.proofs.lemmas.Grind.{common_steps}

-- the element is there, and it holds of it
abbrev pub holds_of : {A : Type 0} → (A → Bool) → Option A → Bool
holds_of is None = false
holds_of is (Some x) = is x

or_none : (b : Bool) → (b || false) ≡ (false || b)
or_none b = grind (arith, common_steps)

or_three : (a b c : Bool) → (a || (b || c)) ≡ ((a || b) || c)
or_three a b c = grind (arith, common_steps)

any_step : {A : Type 0} (is : A → Bool) (xs : List A) (i : ℕ) → list_any is (take (suc i) xs) ≡ (list_any is (take i xs) || holds_of is (slice_get xs i))
any_step is [] zero = refl
any_step is [] (suc i) = refl
any_step is (x ∷ xs) zero = or_none (is x)
any_step is (x ∷ xs) (suc i) = ap (λ b. is x || b) (any_step is xs i) ∙ or_three (is x) (list_any is (take i xs)) (holds_of is (slice_get xs i))

-- it holds of none before, and not of that one
pub none_next : {A : Type 0} (is : A → Bool) (xs : List A) (i : ℕ) (x : Option A) → x ≡ slice_get xs i → list_any is (take i xs) ≡ false → holds_of is x ≡ false → list_any is (take (i + 1) xs) ≡ false
none_next is xs i x at none not =
    ap (λ n. list_any is (take n xs)) (add-one i) ∙ any_step is xs i ∙ ap (λ b. b || holds_of is (slice_get xs i)) none ∙ ap (holds_of is) (sym at) ∙ not

-- it holds of one
pub some_at : {A : Type 0} (is : A → Bool) (xs : List A) (i : ℕ) (x : Option A) → x ≡ slice_get xs i → holds_of is x ≡ true → list_any is xs ≡ true
some_at is [] i x at holds = absurd (let h : holds_of is x ≡ false = ap (holds_of is) at in let g : true ≡ false = sym holds ∙ h in cc)
some_at is (y ∷ xs) zero x at holds = ap (λ b. b || list_any is xs) (sym (ap (holds_of is) at) ∙ holds)
some_at is (y ∷ xs) (suc i) x at holds = let rest : list_any is xs ≡ true = some_at is xs i x at holds in grind (arith, common_steps, rest)

-- ---- what is made of those of which there is a number

reduced_more : (f : ℕ → ℕ → ℕ) (ns : List ℕ) (n : Option ℕ) → reduce f (ns ++ option_to_list n) ≡ of_both f (reduce f ns) n
reduced_more f [] None = refl
reduced_more f [] (Some n) = refl
reduced_more f (m ∷ ns) None = ap (reduce f) (append-nil (m ∷ ns))
reduced_more f (m ∷ ns) (Some n) = ap Some (fold-append f m ns (n ∷ []))

first_seen : (n : Option ℕ) → cons_option n [] ≡ option_to_list n
first_seen None = refl
first_seen (Some n) = refl

seen_before : (n : Option ℕ) (ms ns : List ℕ) → cons_option n (ms ++ ns) ≡ cons_option n ms ++ ns
seen_before None ms ns = refl
seen_before (Some n) ms ns = refl

seen_step : {A : Type 0} (see : A → Option ℕ) (xs : List A) (i : ℕ) → filter_map see (take (suc i) xs) ≡ filter_map see (take i xs) ++ option_to_list (option_and_then see (slice_get xs i))
seen_step see [] zero = refl
seen_step see [] (suc i) = refl
seen_step see (x ∷ xs) zero = first_seen (see x)
seen_step see (x ∷ xs) (suc i) = ap (cons_option (see x)) (seen_step see xs i) ∙ seen_before (see x) (filter_map see (take i xs)) (option_to_list (option_and_then see (slice_get xs i)))

pub reduced_next : {A : Type 0} (f : ℕ → ℕ → ℕ) (see : A → Option ℕ) (xs : List A) (i : ℕ) (x : Option A) → x ≡ slice_get xs i
    → reduce f (filter_map see (take (i + 1) xs)) ≡ of_both f (reduce f (filter_map see (take i xs))) (option_and_then see x)
reduced_next f see xs i x at =
    ap (λ n. reduce f (filter_map see (take n xs))) (add-one i) ∙ ap (reduce f) (seen_step see xs i)
    ∙ reduced_more f (filter_map see (take i xs)) (option_and_then see (slice_get xs i)) ∙ ap (λ y. of_both f (reduce f (filter_map see (take i xs))) (option_and_then see y)) (sym at)

there_at : (xs : List ℕ) (i : ℕ) → i < length xs → Some (get_or xs i 0) ≡ slice_get xs i
there_at [] i less = absurd (omega (arith, less))
there_at (x ∷ xs) zero less = refl
there_at (x ∷ xs) (suc i) less = there_at xs i (omega (arith, less))

further_by : (see : ℕ → Option ℕ) (xs : List ℕ) (i : ℕ) (before after at : Option ℕ) → i < length xs → before ≡ reduce max (filter_map see (take i xs)) → at ≡ see (get_or xs i 0) → after ≡ of_both max before at
    → after ≡ reduce max (filter_map see (take (i + 1) xs))
further_by see xs i before after at less first is more =
    more ∙ ap (of_both max before) is ∙ ap (λ b. of_both max b (see (get_or xs i 0))) first ∙ sym (reduced_next max see xs i (Some (get_or xs i 0)) (there_at xs i less))

-- the furthest of those before, and of one more
pub further_next : (see : ℕ → Option ℕ) (xs ys : List ℕ) (i : ℕ) (before after at : Option ℕ) → ys ≡ xs → i < length ys → before ≡ reduce max (filter_map see (take i xs)) → at ≡ see (get_or ys i 0) → after ≡ of_both max before at
    → after ≡ reduce max (filter_map see (take (i + 1) xs))
further_next see xs ys i before after at same less first is more =
    further_by see xs i before after at (omega (arith, less, ap length same)) first (is ∙ ap (λ zs. see (get_or zs i 0)) same) more

-- ---- the first that is found of some

found_step : {A : Type 0} (is : A → Bool) (xs : List A) (i : ℕ) → find is (take i xs) ≡ None → holds_of is (slice_get xs i) ≡ false → find is (take (suc i) xs) ≡ None
found_step is [] zero none not = refl
found_step is [] (suc i) none not = refl
found_step is (x ∷ xs) zero none not = ap (λ b. cond b (Some x) None) not
found_step {A = A} is (x ∷ xs) (suc i) none not = by (is x) none (λ rest. found_step is xs i rest not)
  where
    by : (b : Bool) → cond b (Some x) (find is (take i xs)) ≡ None → (find is (take i xs) ≡ None → find is (take (suc i) xs) ≡ None) → cond b (Some x) (find is (take (suc i) xs)) ≡ None
    by true some go = some
    by false rest go = go rest

pub none_found_next : {A : Type 0} (is : A → Bool) (xs : List A) (i : ℕ) (x : Option A) → x ≡ slice_get xs i → find is (take i xs) ≡ None → holds_of is x ≡ false → find is (take (i + 1) xs) ≡ None
none_found_next is xs i x at none not = ap (λ n. find is (take n xs)) (add-one i) ∙ found_step is xs i none (ap (holds_of is) (sym at) ∙ not)

pub found_there : {A : Type 0} (is : A → Bool) (xs : List A) (i n : ℕ) (x : A) → i < n → Some x ≡ slice_get xs i → find is (take i xs) ≡ None → is x ≡ true → find is (take n xs) ≡ Some x
found_there is xs i zero x less at none holds = absurd (omega (arith, less))
found_there is [] i (suc n) x less at none holds = absurd (let e : Some x ≡ None = at in cc)
found_there is (y ∷ xs) zero (suc n) x less at none holds = let same : x ≡ y = cc in ap (λ b. cond b (Some y) (find is (take n xs))) (ap is (sym same) ∙ holds) ∙ sym (ap (λ z. Some z) same)
found_there {A = A} is (y ∷ xs) (suc i) (suc n) x less at none holds = by (is y) none (λ rest. found_there is xs i n x (omega (arith, less)) at rest holds)
  where
    by : (b : Bool) → cond b (Some y) (find is (take i xs)) ≡ None → (find is (take i xs) ≡ None → find is (take n xs) ≡ Some x) → cond b (Some y) (find is (take n xs)) ≡ Some x
    by true some go = absurd (let e : Some y ≡ None = some in cc)
    by false rest go = go rest

-- where the list ends there, no more is found
pub none_behind : {A : Type 0} (is : A → Bool) (xs : List A) (i n : ℕ) → i ≤ n → None ≡ slice_get xs i → find is (take i xs) ≡ None → find is (take n xs) ≡ None
none_behind is [] zero zero less at none = refl
none_behind is [] zero (suc n) less at none = refl
none_behind is [] (suc i) zero less at none = refl
none_behind is [] (suc i) (suc n) less at none = refl
none_behind is (x ∷ xs) zero n less at none = absurd (let e : None ≡ Some x = at in cc)
none_behind is (x ∷ xs) (suc i) zero less at none = absurd (omega (arith, less))
none_behind {A = A} is (x ∷ xs) (suc i) (suc n) less at none = by (is x) none (λ rest. none_behind is xs i n (omega (arith, less)) at rest)
  where
    by : (b : Bool) → cond b (Some x) (find is (take i xs)) ≡ None → (find is (take i xs) ≡ None → find is (take n xs) ≡ None) → cond b (Some x) (find is (take n xs)) ≡ None
    by true some go = absurd (let e : Some x ≡ None = some in cc)
    by false rest go = go rest

-- none of fewer is found either
pub none_of_fewer : {A : Type 0} (is : A → Bool) (xs : List A) (n i : ℕ) → n ≤ i → find is (take i xs) ≡ None → find is (take n xs) ≡ None
none_of_fewer is xs zero i less none = refl
none_of_fewer is xs (suc n) zero less none = absurd (omega (arith, less))
none_of_fewer is [] (suc n) (suc i) less none = refl
none_of_fewer {A = A} is (x ∷ xs) (suc n) (suc i) less none = by (is x) none (λ rest. none_of_fewer is xs n i (omega (arith, less)) rest)
  where
    by : (b : Bool) → cond b (Some x) (find is (take i xs)) ≡ None → (find is (take i xs) ≡ None → find is (take n xs) ≡ None) → cond b (Some x) (find is (take n xs)) ≡ None
    by true some go = some
    by false rest go = go rest
