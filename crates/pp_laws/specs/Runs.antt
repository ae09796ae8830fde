-- Where a log leads, and what is in a list.
use Rattle.std.specs.Prelude.{◌≡◌, ◌⊎◌, List, [], ◌∷◌}
use Rattle.pp_world.specs.Log.{Log}
use Rattle.pp_law.specs.After.{after}
use Rattle.pp_law.specs.State.{State, Term, start}

-- behind each happening of a log
abbrev pub after_all : State → Log → State
after_all s [] = s
after_all s (h ∷ log) = after_all (after s h) log

-- the state behind a log, from the first life on
abbrev pub state_after : List Term → Log → State
state_after terms log = after_all (start terms) log

-- it is one of these
abbrev pub IsIn : {A : Type 0} → A → List A → Type 0
IsIn x [] = ⊥
IsIn x (y ∷ ys) = (x ≡ y) ⊎ IsIn x ys
