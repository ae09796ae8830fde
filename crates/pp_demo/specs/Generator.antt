-- The numbers of a seed.
use Rattle.std.specs.Prelude.{ℕ, zero, suc, ◌+◌, ◌*◌, ◌/◌, ◌%◌, ◌^◌}

unfoldable pub next_state : ℕ → ℕ
next_state state = (state * 6364136223846793005 + 1442695040888963407) % 2 ^ 64

-- the low bits are left out
unfoldable pub value_in : ℕ → ℕ
value_in state = state / 2 ^ 33

-- behind so many values
unfoldable pub state_behind : ℕ → ℕ → ℕ
state_behind zero state = state
state_behind (suc n) state = next_state (state_behind n state)
