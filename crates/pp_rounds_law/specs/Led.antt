-- Each exchange without a place gets one, one behind the other, where dials may be refused as often as the outside may fail (RFC 2616,
-- sections 8.1 and 8.1.2.2).
use Rattle.std.specs.Prelude.{ℕ, List, ◌++◌, None}
use Rattle.pp_law.specs.State.{State, Term}
use Rattle.pp_obeys.specs.Obeys.{Obeys}
use Rattle.pp_places.specs.Around.{Around, moment_of}
use Rattle.pp_places.specs.Placing.{ArePlaced}
use Rattle.pp_places_law.specs.Around.{MayPlace}
use Rattle.pp_places_law.specs.Places.{AreLed}
use Rattle.pp_rounds_law.specs.Coming.{Affords, IsBrief}
use Rattle.pp_state.specs.declared.state.State.{State as Turn}
use Rattle.pp_world.specs.Log.{Log}
use Rattle.pp_rounds_law.specs.Dials.{MayGoWithout, OfAffordedDials, StandsToPlace}

-- from a log that obeys the law, to where each has its place or none to go to
abbrev pub PlacesLead : Type 0
PlacesLead = (terms : List Term) (most : ℕ) (before : Log) (number : ℕ → ℕ) (p : Turn) (x : Around) (s : State) (more : ℕ) (log : Log) (y : Around) → Obeys terms s before → StandsToPlace number p x s → MayPlace s → Affords s log → IsBrief most (before ++ log) → OfAffordedDials (MayGoWithout p) most before number p None x s
    → ArePlaced more (moment_of p) None x log y → AreLed number p log y s
