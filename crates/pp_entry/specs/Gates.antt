-- How much of a body is kept.
use Rattle.std.specs.Prelude.{ℕ, ◌+◌, ◌*◌, Bool, ◌==◌, ◌&&◌, nat_le, List, length, take_while, min}
use Rattle.pp_entry.specs.Texts.{body_at}

-- the gates that are open before the first that is not; ours: a gate is open where it is 1
abbrev pub leading_open : List ℕ → ℕ
leading_open gates = length (take_while (λ gate. gate == 1) gates)

-- ours: a chunk of 4,096 bytes counts where its gate and each before it is open
abbrev pub extent_of : List ℕ → ℕ → ℕ
extent_of gates n = min n (4096 * leading_open gates)

-- ours: a file of an entry has all that is kept of a body of n bytes, and nothing behind the body
abbrev pub has_extent : ℕ → ℕ → ℕ → Bool
has_extent n extent len = nat_le (body_at n + extent) len && nat_le len (body_at n + n)
