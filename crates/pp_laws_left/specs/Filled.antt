-- What followers ask for, as a turn ends: what each who goes on trying follows is there or comes. All of it is ours.
use Rattle.std.specs.Prelude.{List}
use Rattle.pp_world.specs.Log.{Log}
use Rattle.pp_law.specs.Phases.{come_to}
use Rattle.pp_law.specs.State.{State, DecidingAgain, Term}
use Rattle.pp_laws_served.specs.Filling.{AreWithin, IsFilled, IsLate, IsReady, unseen_dropped}
use Rattle.pp_laws_served.specs.Served.{MayEnd}
use Rattle.pp_obeys.specs.Obeys.{Obeys}

-- where followers ask, what each follows ends within the body
abbrev pub FollowedAreWithin : Type 0
FollowedAreWithin = (terms : List Term) (s : State) (log : Log) → Obeys terms s log → AreWithin (unseen_dropped s)

-- behind that phase, all that is ready there stays so until Stop: nothing that may be in those phases leaves anybody without what it follows
abbrev pub LateAreReady : Type 0
LateAreReady = (terms : List Term) (s : State) (log : Log) → MayEnd terms s log → IsLate s.phase → IsReady s

-- so where a turn may end, the field `filled` of `IsLeft`
abbrev pub EndsAreFilled : Type 0
EndsAreFilled = (terms : List Term) (s : State) (log : Log) → MayEnd terms s log → IsFilled (come_to DecidingAgain s)
