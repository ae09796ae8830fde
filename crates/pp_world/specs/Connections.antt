-- Whose the connections of a log are. A connection belongs to the life in which it was accepted or dialled.
use Rattle.std.specs.Prelude.{ℕ, Bool, true, false, IsTrue, ◌==◌, if◌then◌else◌, max, fold, Option, Some, None, is_some}
use Rattle.pp_world.specs.declared.event.Side.{Side}
use Rattle.pp_world.specs.declared.event.Side.TheVariants.{Client, Origin}
use Rattle.pp_world.specs.declared.happening.Happening.{Happening}
use Rattle.pp_world.specs.declared.happening.Happening.TheVariants.{Woke, Opened, Dialled, Shut, Dropped}
use Rattle.pp_world.specs.Log.{Log}

-- what a happening changes for the connection of this number
abbrev pub side_after : ℕ → Option Side → Happening → Option Side
side_after id side (Woke image) = None
side_after id side (Opened n) = if n == id then Some Client else side
side_after id side (Dialled n host port) = if n == id then Some Origin else side
side_after id side (Shut n) = if n == id then None else side
side_after id side (Dropped n) = if n == id then None else side
side_after id side happening = side

-- the side of a connection that was accepted or dialled in this life and is not closed
unfoldable pub side_of : ℕ → Log → Option Side
side_of id log = fold (side_after id) None log

abbrev pub is_open : ℕ → Log → Bool
is_open id log = is_some (side_of id log)

abbrev pub IsOpen : ℕ → Log → Type 0
IsOpen id log = IsTrue (is_open id log)

abbrev pub is_origin : Option Side → Bool
is_origin None = false
is_origin (Some Client) = false
is_origin (Some Origin) = true

-- dialled in this life and not closed
abbrev pub is_dialled : ℕ → Log → Bool
is_dialled id log = is_origin (side_of id log)

-- the greatest number that a connection was given, over all lives, or 0
abbrev pub top_with : ℕ → Happening → ℕ
top_with top (Opened n) = max top n
top_with top (Dialled n host port) = max top n
top_with top happening = top

unfoldable pub top_of : Log → ℕ
top_of log = fold top_with 0 log
