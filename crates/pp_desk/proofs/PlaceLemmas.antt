-- Where an exchange stands in a line, place by place.
use Rattle.std.proofs.Common.{◌≡◌, ◌≢◌, ◌≤◌, ◌+◌, ℕ, zero, suc, eqb, Bool, true, false, cond, List, [], ◌∷◌, length, map, filter, take, slice_get, Option, Some, None, option_map, add-one, refl, sym, ap, ◌∙◌, arith}
use Rattle.std.proofs.lemmas.Bool.Decides.{nat_tests}
use Rattle.pp_flow.specs.Changes.{is_on, line_of}
use Rattle.pp_flow.specs.declared.entry.Entry.{Entry}
use Rattle.pp_state.specs.Ends.{place_of}

nothing_more : (o : Option ℕ) → option_map suc o ≡ None → o ≡ None
nothing_more None is = refl
nothing_more (Some n) is = absurd (let bad : Some (suc n) ≡ None = is in cc)

pub found : (n i : ℕ) (ms : List ℕ) → place_of n (take i ms) ≡ None → slice_get ms i ≡ Some n → place_of n ms ≡ Some i
found n i [] none at = absurd (let bad : None ≡ Some n = at in cc)
found n zero (k ∷ ms) none at =
    let here : k ≡ n = cc in
    let same : eqb k n ≡ true = grind (arith, nat_tests, here) in
    ap (λ b. cond b (Some 0) (option_map suc (place_of n ms))) same
found n (suc i) (k ∷ ms) none at = by (eqb k n) none (λ rest. found n i ms rest at)
  where
    by : (b : Bool) → cond b (Some 0) (option_map suc (place_of n (take i ms))) ≡ None → (place_of n (take i ms) ≡ None → place_of n ms ≡ Some i) → cond b (Some 0) (option_map suc (place_of n ms)) ≡ Some (suc i)
    by true bad go = absurd (let e : Some 0 ≡ None = bad in cc)
    by false rest go = ap (option_map suc) (go (nothing_more (place_of n (take i ms)) rest))

passed_one : (n i m : ℕ) (ms : List ℕ) → place_of n (take i ms) ≡ None → slice_get ms i ≡ Some m → m ≢ n → place_of n (take (suc i) ms) ≡ None
passed_one n zero m [] none at other = refl
passed_one n (suc i) m [] none at other = refl
passed_one n zero m (k ∷ ms) none at other =
    let here : k ≡ m = cc in
    let differs : eqb k n ≡ false = grind (arith, nat_tests, here, other) in
    ap (λ b. cond b (Some 0) (option_map suc (place_of n []))) differs
passed_one n (suc i) m (k ∷ ms) none at other = by (eqb k n) none (λ rest. passed_one n i m ms rest at other)
  where
    by : (b : Bool) → cond b (Some 0) (option_map suc (place_of n (take i ms))) ≡ None → (place_of n (take i ms) ≡ None → place_of n (take (suc i) ms) ≡ None) → cond b (Some 0) (option_map suc (place_of n (take (suc i) ms))) ≡ None
    by true bad go = absurd (let e : Some 0 ≡ None = bad in cc)
    by false rest go = ap (option_map suc) (go (nothing_more (place_of n (take i ms)) rest))

pub passed : (n i m : ℕ) (ms : List ℕ) → place_of n (take i ms) ≡ None → slice_get ms i ≡ Some m → m ≢ n → place_of n (take (i + 1) ms) ≡ None
passed n i m ms none at other = ap (λ j. place_of n (take j ms)) (add-one i) ∙ passed_one n i m ms none at other

whole : (ms : List ℕ) (i : ℕ) → length ms ≤ i → take i ms ≡ ms
whole [] zero all = refl
whole [] (suc i) all = refl
whole (m ∷ ms) zero all = absurd (omega (arith, all))
whole (m ∷ ms) (suc i) all = ap (λ xs. m ∷ xs) (whole ms i (omega (arith, all)))

pub over : (n i : ℕ) (ms : List ℕ) → length ms ≤ i → place_of n (take i ms) ≡ None → place_of n ms ≡ None
over n i ms all none = ap (place_of n) (sym (whole ms i all)) ∙ none

-- no line is longer than all that have a place
pub line_short : (k : ℕ) (es : List Entry) → length (line_of k es) ≤ length es
line_short k [] = omega arith
line_short k (e ∷ es) = by (is_on k e) (line_short k es)
  where
    by : (b : Bool) → length (line_of k es) ≤ length es → length (map (λ (x : Entry). x.exchange.number) (cond b (e ∷ filter (is_on k) es) (filter (is_on k) es))) ≤ suc (length es)
    by true rest = omega (arith, rest)
    by false rest = omega (arith, rest)
