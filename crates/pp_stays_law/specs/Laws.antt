-- What stands in a turn beside what it shows stands behind each step of its decisions and rounds: one by one, and all of it (ours).
use Rattle.std.specs.Prelude.{◌≡◌, ◌<◌, ◌+◌, List, [], length}
use Rattle.pp_law.specs.State.{State, Term}
use Rattle.pp_state.specs.Ends.{Parts, parts}
use Rattle.pp_state.specs.declared.state.State.{State as Turn}
use Rattle.pp_store.specs.Kept.{KeptMap}
use Rattle.pp_turns_law.specs.Rows.{AllAreKept}
use Rattle.pp_stays_law.specs.Names.{HasRoomToNote}
use Rattle.pp_stays_law.specs.Steps.{StaysInATurn, StaysInDecisions}
use Rattle.pp_stays_law.specs.Turns.{AreCounted, IsNotedFor, NoSeatIsRefused, StandsInTurn, TextsHaveRoom}

-- ---- one by one

abbrev pub NobodyIsRefused : Type 0
NobodyIsRefused = (terms : List Term) (shelf : KeptMap) → StaysInATurn terms shelf (λ p s. NoSeatIsRefused p)

abbrev pub TextsKeepTheirRoom : Type 0
TextsKeepTheirRoom = (terms : List Term) (shelf : KeptMap) → StaysInATurn terms shelf (λ p s. TextsHaveRoom p)

abbrev pub NamesKeepTheirRoom : Type 0
NamesKeepTheirRoom = (terms : List Term) (shelf : KeptMap) → StaysInATurn terms shelf (λ p s. HasRoomToNote (parts p))

abbrev pub DiskIsNoted : Type 0
DiskIsNoted = (terms : List Term) (shelf : KeptMap) → StaysInATurn terms shelf (IsNotedFor shelf)

abbrev pub DecisionsLeaveCounts : Type 0
DecisionsLeaveCounts = (terms : List Term) (shelf : KeptMap) → StaysInDecisions terms shelf AreCounted

-- ---- all of it

abbrev pub TurnsStand : Type 0
TurnsStand = (terms : List Term) (shelf : KeptMap) → StaysInATurn terms shelf (StandsInTurn shelf)

-- ---- where it begins, and what follows

-- behind the disk no name is noted any more; so many clients and exchanges there are at most
abbrev pub NamesHaveRoom : Type 0
NamesHaveRoom = (p : Parts) → p.cache.outdated ≡ [] → length p.seats + (length p.flow.waiting + length p.flow.placed) < 2048 → HasRoomToNote p

-- what is kept of each key is the law's
abbrev pub KeptOnesAreTheLaws : Type 0
KeptOnesAreTheLaws = (shelf : KeptMap) (p : Turn) (s : State) → IsNotedFor shelf p s → AllAreKept shelf p.cache s
