-- No number of a connection comes twice: each new one is above the greatest that was given, over all lives (ours).
use Rattle.std.specs.Prelude.{◌≡◌, ◌⊎◌, ◌++◌, ◌≤◌, ℕ, List, None}
use Rattle.pp_law.specs.State.{State, Term}
use Rattle.pp_obeys.specs.Obeys.{Obeys}
use Rattle.pp_world.specs.Connections.{top_of}
use Rattle.pp_world.specs.Log.{Log}
use Rattle.pp_laws_sides.specs.Sides.{side_in}

-- the greatest that the state knows is that of the log
abbrev pub TopsAreTheLaws : Type 0
TopsAreTheLaws = (terms : List Term) (s : State) (log : Log) → Obeys terms s log → s.top ≡ top_of log

-- whoever has a number that was given has it still, on the same side, or is gone; and who is gone stays so
abbrev pub NumbersComeOnce : Type 0
NumbersComeOnce = (terms : List Term) (before hs : Log) (s t : State) (n : ℕ) → Obeys terms s before → Obeys terms t (before ++ hs) → n ≤ s.top → (side_in t n ≡ side_in s n) ⊎ (side_in t n ≡ None)
