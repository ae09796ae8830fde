-- A life that went astray stays so, behind each place, decision and round of a turn (ours): one that did not go astray behind them did not
-- before.
use Rattle.std.specs.Prelude.{◌≡◌, ℕ, Bool, true, Option}
use Rattle.pp_places.specs.Around.{Around, Moment}
use Rattle.pp_places.specs.Placing.{ArePlaced}
use Rattle.pp_proxy.specs.Deciding.{Decides, DecidesAll}
use Rattle.pp_proxy.specs.Moving.{Moving}
use Rattle.pp_proxy.specs.Rounds.{GoesRound}
use Rattle.pp_store.specs.Kept.{KeptMap}
use Rattle.pp_world.specs.Log.{Log}

abbrev pub IsAstray : Moving → Type 0
IsAstray x = x.desk.state.is_astray ≡ true

abbrev pub PlacesStayAstray : Type 0
PlacesStayAstray = (more : ℕ) (m : Moment) (after : Option ℕ) (x y : Around) (log : Log) → ArePlaced more m after x log y → x.sides.parts.is_astray ≡ true → y.sides.parts.is_astray ≡ true

abbrev pub DecisionsStayAstray : Type 0
DecisionsStayAstray = (more : ℕ) (shelf : KeptMap) (x y : Moving) (log : Log) (any : Bool) → Decides more shelf x log y any → IsAstray x → IsAstray y

-- also behind one that is turned away
abbrev pub AllDecisionsStayAstray : Type 0
AllDecisionsStayAstray = (shelf : KeptMap) (x y : Moving) (log : Log) (any : Bool) → DecidesAll shelf x log y any → IsAstray x → IsAstray y

abbrev pub RoundsStayAstray : Type 0
RoundsStayAstray = (shelf : KeptMap) (x y : Moving) (log : Log) (any : Bool) → GoesRound shelf x log y any → IsAstray x → IsAstray y
