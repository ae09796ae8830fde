-- Which offsets an exchange brings soon enough (ours: no rule of the standards).
use Rattle.std.specs.Prelude.{ℕ, Bool, ◌||◌}
use Rattle.pp_plan.specs.Need.{is_near}

-- what is far ahead comes too late, but from an origin that gives no ranges
abbrev pub is_soon : Bool → ℕ → ℕ → Bool
is_soon all from offset = all || is_near from offset
