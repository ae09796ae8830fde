-- The numbers below a size, in their order: the ring as it is at first.
use Rattle.std.proofs.Common.{ℕ, ◌+◌, ◌≤◌, ◌<◌, ◌≡◌, false, List, [], ◌∷◌, length, arith, refl, sym, ◌∙◌, ap, zero, suc}
use Rattle.std.proofs.lemmas.Grind.{common_steps}
use Rattle.std.proofs.lemmas.List.Elements.{All-nil, All-cons}
use Rattle.std.specs.List.{All}
use Rattle.pp_pool.specs.Chunks.{is_in, AreDistinct}
use Rattle.pp_pool.specs.Rings.{IsChain}

-- so many numbers, from one on
abbrev pub counted : ℕ → ℕ → List ℕ
counted at zero = []
counted at (suc n) = at ∷ counted (suc at) n

pub length-counted : (at n : ℕ) → length (counted at n) ≡ n
length-counted at zero = refl
length-counted at (suc n) = ap suc (length-counted (suc at) n)

pub counted_out : (m at n : ℕ) → m < at → is_in m (counted at n) ≡ false
counted_out m at zero lt = refl
counted_out m at (suc n) lt = grind (arith, common_steps, counted_out m (suc at) n (omega arith))

pub counted_distinct : (at n : ℕ) → AreDistinct (counted at n)
counted_distinct at zero = tt
counted_distinct at (suc n) = (counted_out at (suc at) n (omega arith), counted_distinct (suc at) n)

pub counted_within : (at n k : ℕ) → k ≡ at + n → All (λ m. m < k) (counted at n)
counted_within at zero k e = All-nil (λ m. m < k)
counted_within at (suc n) k e = All-cons (λ m. m < k) at (counted (suc at) n) (omega arith) (counted_within (suc at) n k (omega arith))

pub counted_chain : (f g : ℕ → ℕ) (a at n b : ℕ) → b ≡ at + n → f a ≡ at → g at ≡ a
    → ((i : ℕ) → at ≤ i → i < b → f i ≡ i + 1) → ((i : ℕ) → at ≤ i → i < b → g (i + 1) ≡ i) → IsChain f g a (counted at n) b
counted_chain f g a at zero b e n p nexts previouses =
    let here : b ≡ at = omega arith in
    (n ∙ sym here, ap g here ∙ p)
counted_chain f g a at (suc m) b e n p nexts previouses =
    let lt : at < b = omega arith in
    let more : at + 1 ≡ suc at = omega arith in (
      (n, p),
      counted_chain f g at (suc at) m b (omega arith) (nexts at (omega arith) lt ∙ more) (ap g (sym more) ∙ previouses at (omega arith) lt)
          (λ i le below. nexts i (omega arith) below) (λ i le below. previouses i (omega arith) below),
    )
