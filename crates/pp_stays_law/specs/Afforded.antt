-- A lawful log has no more failures of the outside than there may be (ours): so those that lead on in it are afforded.
use Rattle.std.specs.Prelude.{◌++◌, List}
use Rattle.pp_law.specs.State.{State, Term}
use Rattle.pp_obeys.specs.Moves.{Leads}
use Rattle.pp_obeys.specs.Obeys.{Obeys}
use Rattle.pp_rounds_law.specs.Coming.{Affords}
use Rattle.pp_world.specs.Log.{Log}

abbrev pub WhatIsLawfulIsAfforded : Type 0
WhatIsLawfulIsAfforded = (terms : List Term) (before hs : Log) (s t u : State) → Obeys terms s before → Leads hs s t → Obeys terms u (before ++ hs) → Affords s hs
