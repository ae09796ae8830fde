-- Exchanges of both lists that belong together, behind the change of one.
use Rattle.std.proofs.Common.{◌≡◌, ◌≤◌, ◌<◌, ◌+◌, refl, sym, subst, ap, ◌∙◌, ℕ, Bool, true, false, not, ◌==◌, cond, nat_lt, find, List, [], ◌∷◌, filter, Option, Some, None, arith}
use Rattle.std.specs.Prelude.{count_by, option_map}
use Rattle.std.proofs.lemmas.Bool.Decides.{nat_tests}
use Rattle.pp_cache_law.proofs.Finds.{none_changed}
use Rattle.pp_cache_law.proofs.Numbers.{some_is, true_false}
use Rattle.pp_cache_law.proofs.PairLemmas.{count_first}
use Rattle.pp_cache_law.specs.Pairs.{AreAll, AreBoth}
use Rattle.pp_flow.specs.Changes.{changed, entered, without as without_number}
use Rattle.pp_flow.specs.Entries.{is_number}
use Rattle.pp_flow.specs.declared.entry.Entry.{Entry}
use Rattle.pp_law.specs.Connections.{is_exchange}
use Rattle.pp_law.specs.Lists.{change, without}
use Rattle.pp_law.specs.State.{Exchange}
use Rattle.pp_seats_law.specs.Exchanges.{ShowsExchange}
use Rattle.pp_flow_law.specs.Tables.{AreGiven}
use Rattle.pp_flow_law.proofs.Entries.{none_left, none_some, same_number}
use Rattle.pp_flow_law.proofs.Exchanges.{given_kept, none_below, numbers_of}

pub both_mapped : {A B C D : Type 0} (R : A → B → Type 0) (S : C → D → Type 0) (g : A → C) (h : B → D) (u : Option A) (v : Option B) → ((x : A) (y : B) → u ≡ Some x → v ≡ Some y → R x y → S (g x) (h y)) → AreBoth R u v
    → AreBoth S (option_map g u) (option_map h v)
both_mapped R S g h None None to both = tt
both_mapped R S g h None (Some y) to both = absurd both
both_mapped R S g h (Some x) None to both = absurd both
both_mapped R S g h (Some x) (Some y) to both = to x y refl refl both

pub both_as : (number : ℕ → ℕ) (u a : Option Entry) (v b : Option Exchange) → u ≡ a → v ≡ b → AreBoth (ShowsExchange number) a b → AreBoth (ShowsExchange number) u v
both_as number u a v b here there both = subst (λ (o : Option Entry). AreBoth (ShowsExchange number) o v) (sym here) (subst (λ (o : Option Exchange). AreBoth (ShowsExchange number) a o) (sym there) both)

-- none of that number: neither list changes
pub none_pairs : (number : ℕ → ℕ) (n : ℕ) (h : Exchange → Exchange) (xs : List Entry) (us : List Exchange) → AreAll (ShowsExchange number) xs us → find (is_number n) xs ≡ None → AreAll (ShowsExchange number) xs (change (is_exchange n) h us)
none_pairs number n h [] [] all none = tt
none_pairs number n h [] (u ∷ us) all none = absurd all
none_pairs number n h (x ∷ xs) [] all none = absurd all
none_pairs number n h (x ∷ xs) (u ∷ us) all none = by (is_number n x) (is_exchange n u) (ap (λ (i : ℕ). i == n) all.0.number) none (λ f. none_pairs number n h xs us all.1 f)
  where
    by : (b c : Bool) → b ≡ c → cond b (Some x) (find (is_number n) xs) ≡ None → (find (is_number n) xs ≡ None → AreAll (ShowsExchange number) xs (change (is_exchange n) h us))
        → AreAll (ShowsExchange number) (x ∷ xs) ((elim c as (λ t. Exchange) [ true ↦ h u | false ↦ u ]) ∷ change (is_exchange n) h us)
    by true c same f rest = absurd (none_some x (sym f))
    by false true same f rest = absurd cc
    by false false same f rest = (all.0, rest f)

pub pairs_changed : (number : ℕ → ℕ) (n : ℕ) (g : Entry → Entry) (h : Exchange → Exchange) (xs : List Entry) (us : List Exchange) → ((x : Entry) (e : Exchange) → find (is_number n) xs ≡ Some x → ShowsExchange number x e → ShowsExchange number (g x) (h e))
    → count_by (is_number n) xs ≤ 1 → AreAll (ShowsExchange number) xs us → AreAll (ShowsExchange number) (changed n g xs) (change (is_exchange n) h us)
pairs_changed number n g h [] [] to few all = tt
pairs_changed number n g h [] (u ∷ us) to few all = absurd all
pairs_changed number n g h (x ∷ xs) [] to few all = absurd all
pairs_changed number n g h (x ∷ xs) (u ∷ us) to few all =
    by (is_number n x) (is_exchange n u) (ap (λ (i : ℕ). i == n) all.0.number) (let e : cond (is_number n x) 1 0 + count_by (is_number n) xs ≤ 1 = omega (arith, few, count_first (is_number n) x xs) in e) to
    (λ these less. pairs_changed number n g h xs us these less all.1)
  where
    by : (b c : Bool) → b ≡ c → cond b 1 0 + count_by (is_number n) xs ≤ 1 → ((y : Entry) (e : Exchange) → cond b (Some x) (find (is_number n) xs) ≡ Some y → ShowsExchange number y e → ShowsExchange number (g y) (h e))
        → (((y : Entry) (e : Exchange) → find (is_number n) xs ≡ Some y → ShowsExchange number y e → ShowsExchange number (g y) (h e)) → count_by (is_number n) xs ≤ 1 → AreAll (ShowsExchange number) (changed n g xs) (change (is_exchange n) h us))
        → AreAll (ShowsExchange number) (cond b (g x ∷ xs) (x ∷ changed n g xs)) ((elim c as (λ t. Exchange) [ true ↦ h u | false ↦ u ]) ∷ change (is_exchange n) h us)
    by true true same less these rest = (these x u refl all.0, none_pairs number n h xs us all.1 (none_left (is_number n) xs (omega (arith, less))))
    by true false same less these rest = absurd cc
    by false true same less these rest = absurd cc
    by false false same less these rest = (all.0, rest these (omega (arith, less)))

none_out : (number : ℕ → ℕ) (n : ℕ) (xs : List Entry) (us : List Exchange) → AreAll (ShowsExchange number) xs us → find (is_number n) xs ≡ None → AreAll (ShowsExchange number) xs (without (is_exchange n) us)
none_out number n [] [] all none = tt
none_out number n [] (u ∷ us) all none = absurd all
none_out number n (x ∷ xs) [] all none = absurd all
none_out number n (x ∷ xs) (u ∷ us) all none = by (is_number n x) (is_exchange n u) (ap (λ (i : ℕ). i == n) all.0.number) none (λ f. none_out number n xs us all.1 f)
  where
    by : (b c : Bool) → b ≡ c → cond b (Some x) (find (is_number n) xs) ≡ None → (find (is_number n) xs ≡ None → AreAll (ShowsExchange number) xs (without (is_exchange n) us))
        → AreAll (ShowsExchange number) (x ∷ xs) (cond (not c) (u ∷ without (is_exchange n) us) (without (is_exchange n) us))
    by true c same f rest = absurd (none_some x (sym f))
    by false true same f rest = absurd cc
    by false false same f rest = (all.0, rest f)

pub pairs_without : (number : ℕ → ℕ) (n : ℕ) (xs : List Entry) (us : List Exchange) → count_by (is_number n) xs ≤ 1 → AreAll (ShowsExchange number) xs us → AreAll (ShowsExchange number) (without_number n xs) (without (is_exchange n) us)
pairs_without number n [] [] few all = tt
pairs_without number n [] (u ∷ us) few all = absurd all
pairs_without number n (x ∷ xs) [] few all = absurd all
pairs_without number n (x ∷ xs) (u ∷ us) few all =
    by (is_number n x) (is_exchange n u) (ap (λ (i : ℕ). i == n) all.0.number) (let e : cond (is_number n x) 1 0 + count_by (is_number n) xs ≤ 1 = omega (arith, few, count_first (is_number n) x xs) in e)
    (λ less. pairs_without number n xs us less all.1)
  where
    by : (b c : Bool) → b ≡ c → cond b 1 0 + count_by (is_number n) xs ≤ 1 → (count_by (is_number n) xs ≤ 1 → AreAll (ShowsExchange number) (without_number n xs) (without (is_exchange n) us))
        → AreAll (ShowsExchange number) (cond b xs (x ∷ without_number n xs)) (cond (not c) (u ∷ without (is_exchange n) us) (without (is_exchange n) us))
    by true true same less rest = none_out number n xs us all.1 (none_left (is_number n) xs (omega (arith, less)))
    by true false same less rest = absurd cc
    by false true same less rest = absurd cc
    by false false same less rest = (all.0, rest (omega (arith, less)))

-- ---- one comes in before those that began later

sooner : (n m k : ℕ) → n + 1 ≤ k → m ≡ k → nat_lt n m ≡ true
sooner n m k less is = grind (arith, nat_tests)

entered_first : (number : ℕ → ℕ) (y : Entry) (next : ℕ) (xs : List Entry) (us : List Exchange) → AreAll (ShowsExchange number) xs us → AreGiven (y.exchange.number + 1) next (numbers_of us) → entered y xs ≡ y ∷ xs
entered_first number y next [] us all given = refl
entered_first number y next (x ∷ xs) [] all given = absurd all
entered_first number y next (x ∷ xs) (u ∷ us) all given =
    ap (λ (t : Bool). cond t (y ∷ x ∷ xs) (x ∷ entered y xs)) (sooner y.exchange.number x.exchange.number u.number given.0 all.0.number)

later : (n m k : ℕ) → m ≡ k → (n < k + 1 → ⊥) → nat_lt n m ≡ false
later n m k is not_less = by (nat_lt n m) refl
  where
    by : (b : Bool) → nat_lt n m ≡ b → b ≡ false
    by false so = refl
    by true so = let less : n < m = grind (arith, nat_tests) in absurd (not_less (omega (arith, less, is)))

pub pairs_entered : (number : ℕ → ℕ) (n : ℕ) (y : Entry) (h : Exchange → Exchange) (p : Exchange → Bool) (d : Exchange) (a next : ℕ) (xs : List Entry) (es : List Exchange) → AreGiven a next (numbers_of es) → AreAll (ShowsExchange number) xs (filter p es)
    → y.exchange.number ≡ n → ((e : Exchange) → p (h e) ≡ true) → find (is_exchange n) es ≡ Some d → p d ≡ false → ShowsExchange number y (h d) → AreAll (ShowsExchange number) (entered y xs) (filter p (change (is_exchange n) h es))
pairs_entered number n y h p d a next xs [] given all num in_it here out shows = absurd (none_some d here)
pairs_entered number n y h p d a next xs (e ∷ es) given all num in_it here out shows =
    by (is_exchange n e) (p e) xs refl refl all here (λ ys these there. pairs_entered number n y h p d (e.number + 1) next ys es given.1 these num in_it there out shows)
  where
    none_before : (o : Option Exchange) → find (is_exchange n) es ≡ o → o ≡ Some d → n < e.number + 1 → ⊥
    none_before o is some less = none_some d (sym (none_below n (e.number + 1) next es less given.1) ∙ is ∙ some)

    by : (b c : Bool) (ys : List Entry) → is_exchange n e ≡ b → p e ≡ c → AreAll (ShowsExchange number) ys (cond c (e ∷ filter p es) (filter p es)) → cond b (Some e) (find (is_exchange n) es) ≡ Some d
        → ((zs : List Entry) → AreAll (ShowsExchange number) zs (filter p es) → find (is_exchange n) es ≡ Some d → AreAll (ShowsExchange number) (entered y zs) (filter p (change (is_exchange n) h es)))
        → AreAll (ShowsExchange number) (entered y ys) (filter p ((elim b as (λ t. Exchange) [ true ↦ h e | false ↦ e ]) ∷ change (is_exchange n) h es))
    by true true ys is holds these f rest =
        let same : e ≡ d = some_is e d f in
        absurd (true_false (sym holds ∙ ap p same ∙ out))
    by true false ys is holds these f rest =
        let same : e ≡ d = some_is e d f in
        let numbered : e.number ≡ n = same_number e.number n is in
        let above : AreGiven (y.exchange.number + 1) next (numbers_of (filter p es)) =
        subst (λ (i : ℕ). AreGiven (i + 1) next (numbers_of (filter p es))) (numbered ∙ sym num) (given_kept p (e.number + 1) next es given.1) in
        let unchanged : change (is_exchange n) h es ≡ es = none_changed (is_exchange n) h es (none_below n (e.number + 1) next es (omega (arith, numbered)) given.1) in
        subst (λ (us : List Exchange). AreAll (ShowsExchange number) (entered y ys) us)
        (sym (ap (λ (t : Bool). cond t (h e ∷ filter p (change (is_exchange n) h es)) (filter p (change (is_exchange n) h es))) (in_it e) ∙ ap (λ (us : List Exchange). h e ∷ filter p us) unchanged))
        (subst (λ (zs : List Entry). AreAll (ShowsExchange number) zs (h e ∷ filter p es)) (sym (entered_first number y next ys (filter p es) these above))
        (subst (λ (u : Exchange). ShowsExchange number y (h u)) (sym same) shows, these))
    by false true [] is holds these f rest = absurd these
    by false true (z ∷ zs) is holds these f rest =
        subst (λ (us : List Exchange). AreAll (ShowsExchange number) (entered y (z ∷ zs)) us)
        (sym (ap (λ (t : Bool). cond t (e ∷ filter p (change (is_exchange n) h es)) (filter p (change (is_exchange n) h es))) holds))
        (subst (λ (t : Bool). AreAll (ShowsExchange number) (cond t (y ∷ z ∷ zs) (z ∷ entered y zs)) (e ∷ filter p (change (is_exchange n) h es)))
        (sym (later y.exchange.number z.exchange.number e.number these.0.number (λ less. none_before (find (is_exchange n) es) refl f (subst (λ (i : ℕ). i < e.number + 1) num less))))
        (these.0, rest zs these.1 f))
    by false false ys is holds these f rest =
        subst (λ (us : List Exchange). AreAll (ShowsExchange number) (entered y ys) us)
        (sym (ap (λ (t : Bool). cond t (e ∷ filter p (change (is_exchange n) h es)) (filter p (change (is_exchange n) h es))) holds)) (rest ys these f)
