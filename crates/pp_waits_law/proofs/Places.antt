-- Places that rise: as many as there are where all of them are there.
use Rattle.std.proofs.Common.{◌≡◌, ◌≤◌, ◌<◌, refl, sym, subst, ◌∙◌, ℕ, suc, ◌+◌, Bool, true, false, nat_lt, length, List, [], ◌∷◌, arith}
use Rattle.std.proofs.lemmas.Bool.Decides.{nat_tests}
use Rattle.pp_flow_law.specs.Tables.{AreGiven}
use Rattle.pp_law.specs.Lists.{has_number}
use Rattle.pp_state.proofs.NumbersLemmas.{Above}
use Rattle.pp_waits_law.proofs.Rising.{at_front, false_true, later, none_below}

pub rising : (low next : ℕ) (ns : List ℕ) → AreGiven low next ns → Above low ns
rising low next [] given = tt
rising low next (n ∷ ns) given = (given.0, rising (n + 1) next ns given.1)

pub how_many : (low next : ℕ) (ns : List ℕ) → AreGiven low next ns → low + length ns ≤ next
how_many low next [] given = omega (arith, given)
how_many low next (n ∷ ns) given = let rest : n + 1 + length ns ≤ next = how_many (n + 1) next ns given.1 in omega (arith, given.0, rest)

-- as many as there are, so all of them
pub all_there : (low next k : ℕ) (ns : List ℕ) → AreGiven low next ns → next ≤ low + length ns → low ≤ k → k < next → has_number k ns ≡ true
all_there low next k [] given many from less = absurd (omega (arith, many, from, less))
all_there low next k (n ∷ ns) given many from less = by (nat_lt n k) refl (λ more past. all_there (n + 1) next k ns given.1 more past less)
  where
    few : n + 1 + length ns ≤ next
    few = how_many (n + 1) next ns given.1

    by : (b : Bool) → nat_lt n k ≡ b → (next ≤ n + 1 + length ns → n + 1 ≤ k → has_number k ns ≡ true) → has_number k (n ∷ ns) ≡ true
    by true past rest = let lt : n < k = grind (arith, nat_tests, past) in later k n ns lt ∙ rest (omega (arith, many, given.0)) (omega (arith, lt))
    by false past rest = let same : n ≡ k = (let le : k ≤ n = grind (arith, nat_tests, past) in omega (arith, le, few, many, from, given.0)) in
        subst (λ (j : ℕ). has_number j (n ∷ ns) ≡ true) same (at_front n ns)

-- all of them, so as many as there are
pub as_many : (low next : ℕ) (ns : List ℕ) → AreGiven low next ns → ((k : ℕ) → low ≤ k → k < next → has_number k ns ≡ true) → next ≤ low + length ns
as_many low next [] given all = by (nat_lt low next) refl
  where
    by : (b : Bool) → nat_lt low next ≡ b → next ≤ low + 0
    by true is = absurd (let no : false ≡ true = all low (omega arith) (grind (arith, nat_tests, is)) in cc no)
    by false is = grind (arith, nat_tests, is)
as_many low next (n ∷ ns) given all = by (nat_lt low n) refl (as_many (n + 1) next ns given.1 (λ k from less. sym (later k n ns (omega (arith, from))) ∙ all k (omega (arith, from, given.0)) less))
  where
    few : n + 1 + length ns ≤ next
    few = how_many (n + 1) next ns given.1

    by : (b : Bool) → nat_lt low n ≡ b → next ≤ n + 1 + length ns → next ≤ low + suc (length ns)
    by true is rest =
        let lt : low < n = grind (arith, nat_tests, is) in
        absurd (false_true (none_below low n (n ∷ ns) (omega arith, rising (n + 1) next ns given.1) lt) (all low (omega arith) (omega (arith, lt, few))))
    by false is rest = let le : n ≤ low = grind (arith, nat_tests, is) in omega (arith, le, rest)
