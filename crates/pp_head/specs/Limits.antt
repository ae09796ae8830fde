-- How long a head may be.
use Rattle.std.specs.Prelude.{ℕ, ◌≤◌, ◌⊎◌, Bool, ◌||◌, ◌&&◌, ◌==◌, nat_le, List, length, count_by}

-- ours: the most bytes, line ends and fields of a head, the empty lines before it counted
abbrev pub max_bytes : ℕ
max_bytes = 16384

abbrev pub max_line_ends : ℕ
max_line_ends = 102

abbrev pub max_fields : ℕ
max_fields = 100

-- each line ends with a line feed
abbrev pub line_ends : List ℕ → ℕ
line_ends bytes = count_by (λ b. b == 10) bytes

-- a head of this text, with so many fields, is within the limits
abbrev pub is_within_limits : List ℕ → ℕ → Bool
is_within_limits text fields = nat_le fields max_fields && (nat_le (length text) max_bytes && nat_le (line_ends text) max_line_ends)

-- so much has come that a head which is not whole by now is too long
abbrev pub is_limit_reached : List ℕ → Bool
is_limit_reached bytes = nat_le max_bytes (length bytes) || nat_le max_line_ends (line_ends bytes)

-- the same two as facts
pub record IsWithinLimits (text : List ℕ) (fields : ℕ) : Type 0 where
  pub few : fields ≤ max_fields
  pub short : length text ≤ max_bytes
  pub lines : line_ends text ≤ max_line_ends

abbrev pub IsLimitReached : List ℕ → Type 0
IsLimitReached bytes = (max_bytes ≤ length bytes) ⊎ (max_line_ends ≤ line_ends bytes)
