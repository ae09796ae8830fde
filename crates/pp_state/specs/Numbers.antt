-- Numbers that rise: those who are looked at in a turn, and those who are waited for (ours).
use Rattle.std.specs.Prelude.{ℕ, zero, suc, Bool, ◌==◌, not, cond, nat_lt, List, [], ◌∷◌, ◌++◌, length, filter}

-- so many
abbrev pub places : ℕ → List ℕ
places zero = []
places (suc n) = places n ++ n ∷ []

-- a number takes its place among those that rise
abbrev pub with_number : ℕ → List ℕ → List ℕ
with_number n [] = n ∷ []
with_number n (m ∷ ms) = cond (nat_lt n m) (n ∷ m ∷ ms) (cond (m == n) (m ∷ ms) (m ∷ with_number n ms))

abbrev pub is_other : ℕ → ℕ → Bool
is_other n m = not (m == n)

abbrev pub without_number : ℕ → List ℕ → List ℕ
without_number n ms = filter (is_other n) ms

-- there is room for 320 numbers
abbrev pub if_room : List ℕ → List ℕ → List ℕ
if_room more ms = cond (nat_lt (length ms) 320) more ms

abbrev pub with_read_by : Bool → ℕ → List ℕ → List ℕ
with_read_by is_read n ms = cond is_read (if_room (with_number n ms) ms) (without_number n ms)
