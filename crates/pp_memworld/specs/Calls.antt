-- The numbers of the calls that can fail, from 1 on, and which of them do.
use Rattle.std.specs.Prelude.{ℕ, ◌+◌, ◌-◌, ◌^◌, Bool, ◌==◌, min, List}
use Rattle.std.specs.List.{list_any}

-- the number of the call after so many; it stands still at its type's end
abbrev pub call_number : ℕ → ℕ
call_number made = min (made + 1) (2 ^ 64 - 1)

-- the call after so many is one that fails
abbrev pub is_failing : ℕ → List ℕ → Bool
is_failing made failing = list_any (λ n. n == call_number made) failing
