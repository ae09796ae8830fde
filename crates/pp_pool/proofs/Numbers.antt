-- Lists of numbers in which none stands twice.
use Rattle.std.proofs.Common.{ℕ, ◌+◌, ◌≤◌, ◌<◌, ◌≡◌, Bool, true, false, ◌==◌, ◌||◌, not, cond, List, [], ◌∷◌, ◌++◌, length, arith, refl, ◌∙◌, zero, suc}
use Rattle.std.proofs.lemmas.Grind.{common_steps}
use Rattle.std.proofs.lemmas.List.Elements.{All-head, All-tail, All-cons}
use Rattle.std.specs.List.{filter, All}
use Rattle.pp_pool.specs.Chunks.{is_in, is_not, AreDistinct}

pub is_in_filter_same : (c : ℕ) (ns : List ℕ) → is_in c (filter (is_not c) ns) ≡ false
is_in_filter_same c [] = refl
is_in_filter_same c (n ∷ ns) = grind (arith, common_steps, is_in_filter_same c ns)

pub is_in_filter_other : (c n : ℕ) (ns : List ℕ) → (n ≡ c → ⊥) → is_in n (filter (is_not c) ns) ≡ is_in n ns
is_in_filter_other c n [] apart = refl
is_in_filter_other c n (m ∷ ns) apart = grind (arith, common_steps, is_in_filter_other c n ns apart)

pub is_in_filter_false : (c n : ℕ) (ns : List ℕ) → is_in n ns ≡ false → is_in n (filter (is_not c) ns) ≡ false
is_in_filter_false c n [] h = refl
is_in_filter_false c n (m ∷ ns) h = grind (arith, common_steps, is_in_filter_false c n ns)

AreDistinct-cond : (b : Bool) (n : ℕ) (ns : List ℕ) → is_in n ns ≡ false → AreDistinct ns → AreDistinct (cond b (n ∷ ns) ns)
AreDistinct-cond true n ns h d = (h, d)
AreDistinct-cond false n ns h d = d

pub AreDistinct-filter : (c : ℕ) (ns : List ℕ) → AreDistinct ns → AreDistinct (filter (is_not c) ns)
AreDistinct-filter c [] d = d
AreDistinct-filter c (n ∷ ns) d =
    AreDistinct-cond (is_not c n) n (filter (is_not c) ns) (is_in_filter_false c n ns d.0) (AreDistinct-filter c ns d.1)

pub is_in-push : (n c : ℕ) (ns : List ℕ) → is_in n (ns ++ c ∷ []) ≡ (is_in n ns || (c == n))
is_in-push n c [] = grind (arith, common_steps)
is_in-push n c (m ∷ ns) = grind (arith, common_steps, is_in-push n c ns)

pub AreDistinct-push : (c : ℕ) (ns : List ℕ) → AreDistinct ns → is_in c ns ≡ false → AreDistinct (ns ++ c ∷ [])
AreDistinct-push c [] d h = (refl, d)
AreDistinct-push c (n ∷ ns) d h =
    (grind (arith, common_steps, is_in-push n c ns, d.0), AreDistinct-push c ns d.1 (grind (arith, common_steps)))

pub filter_absent : (c : ℕ) (ns : List ℕ) → is_in c ns ≡ false → filter (is_not c) ns ≡ ns
filter_absent c [] h = refl
filter_absent c (n ∷ ns) h = grind (arith, common_steps, filter_absent c ns)

pub length-filter_le : (c : ℕ) (ns : List ℕ) → length (filter (is_not c) ns) ≤ length ns
length-filter_le c [] = omega arith
length-filter_le c (n ∷ ns) = grind (arith, common_steps, length-filter_le c ns)

pub length-filter_present : (c : ℕ) (ns : List ℕ) → is_in c ns ≡ true → length (filter (is_not c) ns) + 1 ≤ length ns
length-filter_present c [] h = grind (arith, common_steps)
length-filter_present c (n ∷ ns) h = grind (arith, common_steps, length-filter_present c ns, length-filter_le c ns)

pub length-filter_distinct : (c : ℕ) (ns : List ℕ) → AreDistinct ns → length ns ≤ length (filter (is_not c) ns) + 1
length-filter_distinct c [] d = omega arith
length-filter_distinct c (n ∷ ns) d = grind (arith, common_steps, length-filter_distinct c ns d.1, filter_absent c ns, d.0)

pub present_below : (c k : ℕ) (ns : List ℕ) → All (λ n. n < k) ns → is_in c ns ≡ true → c < k
present_below c k [] a h = grind (arith, common_steps)
present_below c k (n ∷ ns) a h = grind (arith, common_steps, All-head (λ n. n < k) n ns a, present_below c k ns (All-tail (λ n. n < k) n ns a))

below_by : (b : Bool) (k n : ℕ) (ms : List ℕ) → (n == k) ≡ b → n < suc k → All (λ n. n < k) ms → All (λ n. n < k) (cond (not b) (n ∷ ms) ms)
below_by true k n ms e lt a = a
below_by false k n ms e lt a = All-cons (λ n. n < k) n ms (grind (arith, common_steps)) a

below_less : (k : ℕ) (ns : List ℕ) → All (λ n. n < suc k) ns → All (λ n. n < k) (filter (is_not k) ns)
below_less k [] a = λ i d lt. absurd (omega arith)
below_less k (n ∷ ns) a = below_by (n == k) k n (filter (is_not k) ns) refl (All-head (λ n. n < suc k) n ns a) (below_less k ns (All-tail (λ n. n < suc k) n ns a))

-- no more than k numbers below k are distinct
pub few_below : (k : ℕ) (ns : List ℕ) → AreDistinct ns → All (λ n. n < k) ns → length ns ≤ k
few_below zero [] d a = omega arith
few_below zero (n ∷ ns) d a = absurd (omega (arith, All-head (λ n. n < zero) n ns a))
few_below (suc k) ns d a =
    omega (arith, few_below k (filter (is_not k) ns) (AreDistinct-filter k ns d) (below_less k ns a), length-filter_distinct k ns d)

-- a list that has each number below k is that long
pub many_below : (k : ℕ) (ns : List ℕ) → ((n : ℕ) → n < k → is_in n ns ≡ true) → k ≤ length ns
many_below zero ns h = omega arith
many_below (suc k) ns h =
    omega (
      arith,
      many_below k (filter (is_not k) ns) (λ n lt. is_in_filter_other k n ns (λ e. absurd (omega arith)) ∙ h n (omega arith)),
      length-filter_present k ns (h k (omega arith)),
    )
