-- Numbers on a ring of links: each link tells which number comes next, and which came before.
use Rattle.std.specs.Prelude.{ℕ, zero, suc, ◌≡◌, List, [], ◌∷◌, get_or}

-- how many numbers there are, and those that are used, in the order of their last use
pub record Line : Type 0 where
  pub size : ℕ
  pub used : List ℕ

abbrev pub link : List ℕ → ℕ → ℕ
link ls n = get_or ls n 0

abbrev pub AreNeighbours : (ℕ → ℕ) → (ℕ → ℕ) → ℕ → ℕ → Type 0
AreNeighbours next previous a b = (next a ≡ b) × (previous b ≡ a)

-- from `a` over all of `ns` to `b`, both links of each two neighbours agree
abbrev pub IsChain : (ℕ → ℕ) → (ℕ → ℕ) → ℕ → List ℕ → ℕ → Type 0
IsChain next previous a [] b = AreNeighbours next previous a b
IsChain next previous a (n ∷ ns) b = AreNeighbours next previous a n × IsChain next previous n ns b

-- so many numbers, from one on
abbrev pub walk : (ℕ → ℕ) → ℕ → ℕ → List ℕ
walk next at zero = []
walk next at (suc n) = at ∷ walk next (next at) n

abbrev pub first_or : ℕ → List ℕ → ℕ
first_or end [] = end
first_or end (n ∷ ns) = n
