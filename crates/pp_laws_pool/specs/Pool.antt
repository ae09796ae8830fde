-- How many chunks are used at most. All of it is ours.
use Rattle.std.specs.Prelude.{ℕ, ◌≤◌, length}
use Rattle.pp_law.specs.State.{State}

-- no more than the critical mark says
abbrev pub IsWithinMark : State → Type 0
IsWithinMark s = length s.chunks ≤ s.settings.critical
