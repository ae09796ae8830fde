-- The number of chunks that a cache may have stays as it was set, from one wait to the next (ours): as each piece of `pp_grown_law` (Sized) leaves
-- it, and as the settings of a life stay.
--
-- Where the premises come from: clients stand in the order of their numbers from the opening on (Ordered); exchanges are numbered where the turn
-- shows the law's state (`ShownOnesAreNumbered` of `pp_grown_law`), and from there on over each turn. At a wait a turn may end (HasEnded of
-- `pp_rounds_law`).
--
-- That the log of a turn has no word of the opening of a life is `steady` of TakesEvent of `pp_proxy`.
use Rattle.std.specs.Prelude.{◌≡◌, Bool, true, false, not, List, ◌++◌}
use Rattle.std.specs.List.{list_all}
use Rattle.pp_grown_law.specs.Numbered.{AreNumbered}
use Rattle.pp_grown_law.specs.Sized.{StaysSized}
use Rattle.pp_law.specs.Phases.{may_end}
use Rattle.pp_law.specs.State.{State, Term}
use Rattle.pp_laws_quiet.specs.Quiet.{takes_turns}
use Rattle.pp_obeys.specs.Obeys.{Obeys}
use Rattle.pp_proxy.specs.Awaiting.{Standing, TurnsOn}
use Rattle.pp_proxy.specs.declared.proxy.Turn.{Turn as Result}
use Rattle.pp_turn_law.specs.Ordered.{StandsOrdered}
use Rattle.pp_world.specs.Log.{Log}
use Rattle.pp_world.specs.declared.happening.Happening.{Happening}
use Rattle.pp_world.specs.declared.happening.Happening.TheVariants.{Woke, Configured, Rooted, Listed, Listens}

abbrev pub TurnsKeepSize : Type 0
TurnsKeepSize = (result : Result) (x y : Standing) → TurnsOn result x y → StandsOrdered x.turning.moving → AreNumbered x.turning.moving.desk.state.flow → StaysSized x.turning.moving.desk.state y.turning.moving.desk.state

-- ---- as many as the settings of the life say, from one wait to the next

-- a word of the opening of a life: none comes within a turn
abbrev pub is_of_opening : Happening → Bool
is_of_opening (Woke image) = true
is_of_opening (Configured file text) = true
is_of_opening (Rooted folder) = true
is_of_opening (Listed ok) = true
is_of_opening (Listens port ok) = true
is_of_opening happening = false

abbrev pub AreOfTurns : Log → Type 0
AreOfTurns hs = list_all (λ h. not (is_of_opening h)) hs ≡ true

-- the settings of a life stay over its turns
abbrev pub SettingsStay : Type 0
SettingsStay = (terms : List Term) (before hs : Log) (s t : State) → Obeys terms s before → Obeys terms t (before ++ hs) → takes_turns s ≡ true → AreOfTurns hs → t.settings ≡ s.settings

-- `size` of StandsToLoad of Called stands at the next wait
abbrev pub SizeStaysSet : Type 0
SizeStaysSet = (result : Result) (x y : Standing) (terms : List Term) (before hs : Log) (s t : State) → TurnsOn result x y → StandsOrdered x.turning.moving → AreNumbered x.turning.moving.desk.state.flow → Obeys terms s before → Obeys terms t (before ++ hs)
    → may_end s ≡ true → AreOfTurns hs → x.turning.moving.desk.state.cache.size ≡ s.settings.critical → y.turning.moving.desk.state.cache.size ≡ t.settings.critical
