-- No happening leaves a turn at its end, but for a row that leaves memory for the decision that is next. All of it is ours.
use Rattle.std.specs.Prelude.{◌≡◌, true, false, List, None}
use Rattle.pp_world.specs.Log.{Log}
use Rattle.pp_law.specs.Phases.{may_end}
use Rattle.pp_law.specs.State.{State, Term}
use Rattle.pp_laws_ends.specs.Ends.{HasNotEnded}
use Rattle.pp_laws_served.specs.Served.{MayEnd}
use Rattle.pp_obeys.specs.Obeys.{Obeys}

-- where the decision that a row left for has come, which Ends.`HasEnded` of `pp_rounds_law` has (its `none`)
abbrev pub HappeningsEndNoTurn : Type 0
HappeningsEndNoTurn = (terms : List Term) (s : State) (log : Log) → Obeys terms s log → s.made_room_for ≡ None → HasNotEnded terms log

-- so of where a turn may end nothing is to be shown but what its state says
abbrev pub TurnsMayEnd : Type 0
TurnsMayEnd = (terms : List Term) (s : State) (log : Log) → Obeys terms s log → s.made_room_for ≡ None → may_end s ≡ true → s.is_stopped ≡ false → MayEnd terms s log
