-- What a program may rest on that shows, step by step, that it obeys the law.
use Rattle.std.specs.Prelude.{◌≡◌, true, List, [], ◌∷◌, ◌++◌, false}
use Rattle.pp_world.specs.Log.{Log}
use Rattle.pp_world.specs.declared.happening.Happening.{Happening}
use Rattle.pp_law.specs.After.{after}
use Rattle.pp_law.specs.Permits.{IsPermitted}
use Rattle.pp_law.specs.Phases.{is_done, next}
use Rattle.pp_law.specs.State.{State, Term}
use Rattle.pp_obeys.specs.Failures.{GoesOnIn, fails, wakes}
use Rattle.pp_obeys.specs.Obeys.{GoesAs, Obeys}

-- it may come, and leads to a state that goes on as the other does
pub record MayCome (s t : State) (h : Happening) : Type 0 where
  pub may : IsPermitted s h
  pub leads : GoesAs (after s h) (after t h)

-- what may come in a state that the log may go on as from, may come in the one that it leads to, and the log goes on as from behind it
abbrev pub PermittedGoesOn : Type 0
PermittedGoesOn = (terms : List Term) (s : State) (log : Log) (h : Happening) → Obeys terms s log → IsPermitted s h → Obeys terms (after s h) (log ++ h ∷ [])

-- a phase that is done is left without a happening
abbrev pub DoneGoesOn : Type 0
DoneGoesOn = (terms : List Term) (s : State) (log : Log) → Obeys terms s log → is_done s ≡ true → Obeys terms (next s) log

-- from a state that the log may go on as from, whatever may come some phases on may come at once, and leads to what goes on as the same
abbrev pub SilentStepsGo : Type 0
SilentStepsGo = (terms : List Term) (s t : State) (log : Log) (h : Happening) → Obeys terms s log → GoesAs s t → IsPermitted t h → MayCome s t h

-- within a life each failure is counted, and no other
abbrev pub FailuresAreCounted : Type 0
FailuresAreCounted = (terms : List Term) (s : State) (log : Log) (h : Happening) → Obeys terms s log → wakes h ≡ false → IsPermitted s h → GoesOnIn s (after s h) (fails h)
