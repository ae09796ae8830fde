-- The law's list of exchanges, behind the change of one.
use Rattle.std.proofs.Common.{◌≡◌, ◌≤◌, ◌<◌, ◌+◌, refl, sym, ap, ◌∙◌, ℕ, suc, Bool, true, false, not, ◌==◌, ◌&&◌, cond, find, List, [], ◌∷◌, ◌++◌, length, map, filter, Option, Some, None, arith}
use Rattle.std.specs.Prelude.{count_by, option_map}
use Rattle.std.proofs.lemmas.Bool.Decides.{nat_tests}
use Rattle.pp_cache_law.proofs.Finds.{none_found}
use Rattle.pp_cache_law.proofs.PairLemmas.{count_first, filter_both}
use Rattle.pp_law.specs.Connections.{is_exchange}
use Rattle.pp_law.specs.Lists.{change, without}
use Rattle.pp_law.specs.State.{Exchange}
use Rattle.pp_flow_law.specs.Tables.{AreGiven}
use Rattle.pp_flow_law.proofs.Entries.{off, other_way, same_number}

abbrev pub KeepsNumber : (Exchange → Exchange) → Type 0
KeepsNumber h = (e : Exchange) → (h e).number ≡ e.number

abbrev pub at : ℕ → (Exchange → Exchange) → Exchange → Exchange
at n h e = elim (is_exchange n e) as (λ b. Exchange) [ true ↦ h e | false ↦ e ]

pub find_change : (n : ℕ) (h : Exchange → Exchange) → KeepsNumber h → (es : List Exchange) → find (is_exchange n) (change (is_exchange n) h es) ≡ option_map h (find (is_exchange n) es)
find_change n h keeps [] = refl
find_change n h keeps (e ∷ es) = by (is_exchange n e) refl (find_change n h keeps es)
  where
    by : (b : Bool) → is_exchange n e ≡ b → find (is_exchange n) (change (is_exchange n) h es) ≡ option_map h (find (is_exchange n) es)
        → find (is_exchange n) ((elim b as (λ c. Exchange) [ true ↦ h e | false ↦ e ]) ∷ change (is_exchange n) h es) ≡ option_map h (cond b (Some e) (find (is_exchange n) es))
    by true is rest = ap (λ (t : Bool). cond t (Some (h e)) (find (is_exchange n) (change (is_exchange n) h es))) (ap (λ (i : ℕ). i == n) (keeps e) ∙ is)
    by false is rest = ap (λ (t : Bool). cond t (Some e) (find (is_exchange n) (change (is_exchange n) h es))) is ∙ rest

pub find_change_else : (n m : ℕ) (h : Exchange → Exchange) → KeepsNumber h → (m == n) ≡ false → (es : List Exchange) → find (is_exchange m) (change (is_exchange n) h es) ≡ find (is_exchange m) es
find_change_else n m h keeps isnt [] = refl
find_change_else n m h keeps isnt (e ∷ es) = by (is_exchange n e) refl (find_change_else n m h keeps isnt es)
  where
    by : (b : Bool) → is_exchange n e ≡ b → find (is_exchange m) (change (is_exchange n) h es) ≡ find (is_exchange m) es
        → find (is_exchange m) ((elim b as (λ c. Exchange) [ true ↦ h e | false ↦ e ]) ∷ change (is_exchange n) h es) ≡ cond (is_exchange m e) (Some e) (find (is_exchange m) es)
    by true is rest =
        let out : (e.number == m) ≡ false = off e.number m n is isnt in
        ap (λ (t : Bool). cond t (Some (h e)) (find (is_exchange m) (change (is_exchange n) h es))) (ap (λ (i : ℕ). i == m) (keeps e) ∙ out)
        ∙ rest ∙ sym (ap (λ (t : Bool). cond t (Some e) (find (is_exchange m) es)) out)
    by false is rest = ap (λ (o : Option Exchange). cond (is_exchange m e) (Some e) o) rest

pub numbers_change : (n : ℕ) (h : Exchange → Exchange) → KeepsNumber h → (es : List Exchange) → map (λ (e : Exchange). e.number) (change (is_exchange n) h es) ≡ map (λ (e : Exchange). e.number) es
numbers_change n h keeps [] = refl
numbers_change n h keeps (e ∷ es) = by (is_exchange n e) (numbers_change n h keeps es)
  where
    by : (b : Bool) → map (λ (e : Exchange). e.number) (change (is_exchange n) h es) ≡ map (λ (e : Exchange). e.number) es
        → map (λ (e : Exchange). e.number) ((elim b as (λ c. Exchange) [ true ↦ h e | false ↦ e ]) ∷ change (is_exchange n) h es) ≡ e.number ∷ map (λ (e : Exchange). e.number) es
    by true rest = ap (λ (i : ℕ). i ∷ map (λ (e : Exchange). e.number) (change (is_exchange n) h es)) (keeps e) ∙ ap (λ (ns : List ℕ). e.number ∷ ns) rest
    by false rest = ap (λ (ns : List ℕ). e.number ∷ ns) rest

pub length_change : (n : ℕ) (h : Exchange → Exchange) (es : List Exchange) → length (change (is_exchange n) h es) ≡ length es
length_change n h [] = refl
length_change n h (e ∷ es) = ap (λ (i : ℕ). suc i) (length_change n h es)

pub filter_change : (n : ℕ) (h : Exchange → Exchange) (p : Exchange → Bool) → ((e : Exchange) → p (h e) ≡ p e) → (es : List Exchange) → filter p (change (is_exchange n) h es) ≡ change (is_exchange n) h (filter p es)
filter_change n h p same [] = refl
filter_change n h p same (e ∷ es) = ap (λ (t : Bool). cond t (at n h e ∷ filter p (change (is_exchange n) h es)) (filter p (change (is_exchange n) h es))) (tests (is_exchange n e)) ∙ by (p e) (filter_change n h p same es)
  where
    tests : (b : Bool) → p (elim b as (λ c. Exchange) [ true ↦ h e | false ↦ e ]) ≡ p e
    tests true = same e
    tests false = refl

    by : (b : Bool) → filter p (change (is_exchange n) h es) ≡ change (is_exchange n) h (filter p es)
        → cond b (at n h e ∷ filter p (change (is_exchange n) h es)) (filter p (change (is_exchange n) h es)) ≡ change (is_exchange n) h (cond b (e ∷ filter p es) (filter p es))
    by true rest = ap (λ (xs : List Exchange). at n h e ∷ xs) rest
    by false rest = rest

-- ---- one is out

abbrev pub isnt_exchange : ℕ → Exchange → Bool
isnt_exchange n e = not (is_exchange n e)

pub filter_swap : {A : Type 0} (p q : A → Bool) (xs : List A) → filter p (filter q xs) ≡ filter q (filter p xs)
filter_swap p q xs = filter_both p q (λ x. q x && p x) xs (λ x. refl) ∙ sym (filter_both q p (λ x. q x && p x) xs (λ x. either (p x) (q x)))
  where
    either : (b c : Bool) → (b && c) ≡ (c && b)
    either true true = refl
    either true false = refl
    either false true = refl
    either false false = refl

pub length_kept : (n : ℕ) (es : List Exchange) → length (without (is_exchange n) es) + count_by (is_exchange n) es ≡ length es
length_kept n [] = refl
length_kept n (e ∷ es) = by (is_exchange n e) refl (length_kept n es)
  where
    by : (b : Bool) → is_exchange n e ≡ b → length (without (is_exchange n) es) + count_by (is_exchange n) es ≡ length es
        → length (cond (not b) (e ∷ without (is_exchange n) es) (without (is_exchange n) es)) + count_by (is_exchange n) (e ∷ es) ≡ suc (length es)
    by true is rest =
        let one : count_by (is_exchange n) (e ∷ es) ≡ 1 + count_by (is_exchange n) es = count_first (is_exchange n) e es ∙ ap (λ (t : Bool). cond t 1 0 + count_by (is_exchange n) es) is in
        omega (arith, one, rest)
    by false is rest =
        let one : count_by (is_exchange n) (e ∷ es) ≡ 0 + count_by (is_exchange n) es = count_first (is_exchange n) e es ∙ ap (λ (t : Bool). cond t 1 0 + count_by (is_exchange n) es) is in
        omega (arith, one, rest)

-- ---- their numbers

abbrev pub numbers_of : List Exchange → List ℕ
numbers_of es = map (λ e. e.number) es

pub given_lower : (a b next : ℕ) (ns : List ℕ) → b ≤ a → AreGiven a next ns → AreGiven b next ns
given_lower a b next [] less given = let e : a ≤ next = given in omega (arith, less, e)
given_lower a b next (n ∷ ns) less given = (omega (arith, less, given.0), given.1)

pub given_kept : (q : Exchange → Bool) (a next : ℕ) (es : List Exchange) → AreGiven a next (numbers_of es) → AreGiven a next (numbers_of (filter q es))
given_kept q a next [] given = given
given_kept q a next (e ∷ es) given = by (q e) (given_kept q (e.number + 1) next es given.1)
  where
    by : (b : Bool) → AreGiven (e.number + 1) next (numbers_of (filter q es)) → AreGiven a next (numbers_of (cond b (e ∷ filter q es) (filter q es)))
    by true rest = (given.0, rest)
    by false rest = given_lower (e.number + 1) a next (numbers_of (filter q es)) (omega (arith, given.0)) rest

given_within : (a next : ℕ) (ns : List ℕ) → AreGiven a next ns → a ≤ next
given_within a next [] given = given
given_within a next (n ∷ ns) given = let rest : n + 1 ≤ next = given_within (n + 1) next ns given.1 in omega (arith, given.0, rest)

apart : (m n low : ℕ) → n < low → low ≤ m → (m == n) ≡ false
apart m n low less more = grind (arith, nat_tests)

pub none_below : (n a next : ℕ) (es : List Exchange) → n < a → AreGiven a next (numbers_of es) → find (is_exchange n) es ≡ None
none_below n a next [] less given = refl
none_below n a next (e ∷ es) less given =
    ap (λ (t : Bool). cond t (Some e) (find (is_exchange n) es)) (apart e.number n a less given.0) ∙ none_below n (e.number + 1) next es (omega (arith, less, given.0)) given.1

pub none_behind : (n a next : ℕ) (es : List Exchange) → next ≤ n → AreGiven a next (numbers_of es) → find (is_exchange n) es ≡ None
none_behind n a next [] more given = refl
none_behind n a next (e ∷ es) more given =
    ap (λ (t : Bool). cond t (Some e) (find (is_exchange n) es)) (other_way n e.number (apart n e.number (e.number + 1) (omega arith) (omega (arith, given_within (e.number + 1) next (numbers_of es) given.1, more))))
    ∙ none_behind n (e.number + 1) next es more given.1

pub one_given : (n a next : ℕ) (es : List Exchange) → AreGiven a next (numbers_of es) → count_by (is_exchange n) es ≤ 1
one_given n a next [] given = omega arith
one_given n a next (e ∷ es) given = by (is_exchange n e) refl (one_given n (e.number + 1) next es given.1)
  where
    by : (b : Bool) → is_exchange n e ≡ b → count_by (is_exchange n) es ≤ 1 → count_by (is_exchange n) (e ∷ es) ≤ 1
    by true is rest =
        let one : count_by (is_exchange n) (e ∷ es) ≡ 1 + count_by (is_exchange n) es = count_first (is_exchange n) e es ∙ ap (λ (t : Bool). cond t 1 0 + count_by (is_exchange n) es) is in
        let same : e.number ≡ n = same_number e.number n is in
        let none : count_by (is_exchange n) es ≡ 0 = none_found (is_exchange n) es (none_below n (e.number + 1) next es (omega (arith, same)) given.1) in
        omega (arith, one, none)
    by false is rest =
        let one : count_by (is_exchange n) (e ∷ es) ≡ 0 + count_by (is_exchange n) es = count_first (is_exchange n) e es ∙ ap (λ (t : Bool). cond t 1 0 + count_by (is_exchange n) es) is in
        omega (arith, one, rest)

pub given_more : (a next : ℕ) (es : List Exchange) (e : Exchange) → e.number ≡ next → AreGiven a next (numbers_of es) → AreGiven a (next + 1) (numbers_of (es ++ e ∷ []))
given_more a next [] e is given = let few : a ≤ next = given in (omega (arith, few, is), omega (arith, is))
given_more a next (d ∷ es) e is given = (given.0, given_more (d.number + 1) next es e is given.1)

-- ---- one gets a place

pub filter_change_out : (n : ℕ) (h : Exchange → Exchange) (p : Exchange → Bool) → ((e : Exchange) → p (h e) ≡ false) → (es : List Exchange) → filter p (change (is_exchange n) h es) ≡ without (is_exchange n) (filter p es)
filter_change_out n h p out [] = refl
filter_change_out n h p out (e ∷ es) = by (is_exchange n e) (p e) refl refl (filter_change_out n h p out es)
  where
    by : (b c : Bool) → is_exchange n e ≡ b → p e ≡ c → filter p (change (is_exchange n) h es) ≡ without (is_exchange n) (filter p es)
        → filter p ((elim b as (λ t. Exchange) [ true ↦ h e | false ↦ e ]) ∷ change (is_exchange n) h es) ≡ without (is_exchange n) (cond c (e ∷ filter p es) (filter p es))
    by true true is holds rest =
        ap (λ (t : Bool). cond t (h e ∷ filter p (change (is_exchange n) h es)) (filter p (change (is_exchange n) h es))) (out e) ∙ rest
        ∙ sym (ap (λ (t : Bool). cond (not t) (e ∷ without (is_exchange n) (filter p es)) (without (is_exchange n) (filter p es))) is)
    by true false is holds rest = ap (λ (t : Bool). cond t (h e ∷ filter p (change (is_exchange n) h es)) (filter p (change (is_exchange n) h es))) (out e) ∙ rest
    by false true is holds rest =
        ap (λ (t : Bool). cond t (e ∷ filter p (change (is_exchange n) h es)) (filter p (change (is_exchange n) h es))) holds ∙ ap (λ (xs : List Exchange). e ∷ xs) rest
        ∙ sym (ap (λ (t : Bool). cond (not t) (e ∷ without (is_exchange n) (filter p es)) (without (is_exchange n) (filter p es))) is)
    by false false is holds rest = ap (λ (t : Bool). cond t (e ∷ filter p (change (is_exchange n) h es)) (filter p (change (is_exchange n) h es))) holds ∙ rest
