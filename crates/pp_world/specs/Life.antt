-- The life that a log ends in: its happenings, its turns and its clock.
use Rattle.std.specs.Prelude.{ℕ, ◌+◌, max, [], ◌∷◌, ◌++◌, fold}
use Rattle.pp_world.specs.declared.happening.Happening.{Happening}
use Rattle.pp_world.specs.declared.happening.Happening.TheVariants.{Woke, Waits, Clock}
use Rattle.pp_world.specs.Log.{Log}

-- a life begins with a Woke
abbrev pub life_with : Log → Happening → Log
life_with life (Woke image) = Woke image ∷ []
life_with life happening = life ++ happening ∷ []

unfoldable pub life_of : Log → Log
life_of log = fold life_with [] log

-- a turn goes from a Waits to the next of its life
abbrev pub turn_with : Log → Happening → Log
turn_with turn (Woke image) = []
turn_with turn (Waits wants) = Waits wants ∷ []
turn_with [] happening = []
turn_with (first ∷ turn) happening = first ∷ turn ++ happening ∷ []

-- the turn that the log ends in; none between a Woke and the first Waits
unfoldable pub turn_of : Log → Log
turn_of log = fold turn_with [] log

-- how many turns of this life began
abbrev pub turns_with : ℕ → Happening → ℕ
turns_with turns (Woke image) = 0
turns_with turns (Waits wants) = turns + 1
turns_with turns happening = turns

unfoldable pub turns_of : Log → ℕ
turns_of log = fold turns_with 0 log

-- the greatest clock value of this life, 0 before the first (seconds since 1970)
abbrev pub now_with : ℕ → Happening → ℕ
now_with now (Woke image) = 0
now_with now (Clock seconds) = max now seconds
now_with now happening = now

unfoldable pub now_of : Log → ℕ
now_of log = fold now_with 0 log
