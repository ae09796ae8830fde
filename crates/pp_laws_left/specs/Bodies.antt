-- Whose body is still to be asked: it is passed, and stays somebody's to the end of a turn, so all is there that a turn is asked to leave
-- (RFC 2616, section 8.2.3). All of it is ours.
use Rattle.std.specs.Prelude.{◌≡◌, ◌==◌, ℕ, Bool, true, false, List, is_some, None}
use Rattle.pp_world.specs.Log.{Log}
use Rattle.pp_world.specs.declared.event.Wants.{Wants}
use Rattle.pp_world.specs.declared.happening.Happening.TheVariants.{Waits}
use Rattle.pp_law.specs.After.{dialled, dropped}
use Rattle.pp_law.specs.Connections.{placing}
use Rattle.pp_law.specs.Lists.{Bytes}
use Rattle.pp_law.specs.Permits.{IsPermitted}
use Rattle.pp_law.specs.Phases.{come_to, ending, may_end}
use Rattle.pp_law.specs.Replies.{begin_replies}
use Rattle.pp_law.specs.Stages.{is_through}
use Rattle.pp_law.specs.State.{State, DecidingAgain, Term, Body, Pending, Relaying, Exchange}
use Rattle.pp_laws.specs.Runs.{IsIn}
use Rattle.pp_laws_ends.specs.Ends.{wants_of}
use Rattle.pp_laws_served.specs.Filling.{IsLate, unseen_dropped}
use Rattle.pp_laws_served.specs.Served.{IsAsGood, IsLeft, MayEnd}
use Rattle.pp_obeys.specs.Obeys.{Obeys}

-- an exchange has more of a body to ask only where its request is passed
abbrev pub BodiesArePassed : Type 0
BodiesArePassed = (terms : List Term) (s : State) (log : Log) → Obeys terms s log → (e : Exchange) → IsIn e s.exchanges → (e.body_left == 0) ≡ false → is_through e ≡ true

-- where it has a place, it is somebody's
abbrev pub AreBodiesOwned : State → Type 0
AreBodiesOwned s = (e : Exchange) → IsIn e s.exchanges → is_some e.place ≡ true → (e.body_left == 0) ≡ false → is_some e.asker ≡ true

-- no place, dial or drop leaves one: what has no place yet is somebody's, or one of a follower
abbrev pub PlacesKeepBodies : Type 0
PlacesKeepBodies = (terms : List Term) (s : State) (log : Log) → Obeys terms s log → AreBodiesOwned s
    → AreBodiesOwned (placing s).state × ((n : ℕ) (host : Bytes) (port : ℕ) → AreBodiesOwned (dialled n host port (placing s))) × ((n : ℕ) → AreBodiesOwned (dropped n s))

-- no reply that begins leaves one
abbrev pub BeginningsKeepBodies : Type 0
BeginningsKeepBodies = (terms : List Term) (s : State) (log : Log) → Obeys terms s log → AreBodiesOwned s → AreBodiesOwned (begin_replies s)

-- ---- whose response is awaited

-- it did not begin, or is passed
abbrev pub is_awaited : Body → Bool
is_awaited Pending = true
is_awaited Relaying = true
is_awaited body = false

-- so it is of each of these in each state that a lawful log may go on as from: none is dropped as it comes
abbrev pub BodiesAreAwaited : Type 0
BodiesAreAwaited = (terms : List Term) (s : State) (log : Log) → Obeys terms s log → (e : Exchange) → IsIn e s.exchanges → (e.body_left == 0) ≡ false → is_awaited e.body ≡ true

-- so where what nobody sees is dropped, as followers ask, each goes that is nobody's
abbrev pub UnseenBodiesGo : Type 0
UnseenBodiesGo = (terms : List Term) (s : State) (log : Log) → Obeys terms s log → s.is_stopped ≡ false → AreBodiesOwned (unseen_dropped s)

-- and behind that phase each is somebody's, until Stop; so it is where a turn may end
abbrev pub LateBodiesAreOwned : Type 0
LateBodiesAreOwned = (terms : List Term) (s : State) (log : Log) → Obeys terms s log → s.is_stopped ≡ false → IsLate s.phase → AreBodiesOwned s

abbrev pub EndsOwnBodies : Type 0
EndsOwnBodies = (terms : List Term) (s : State) (log : Log) → MayEnd terms s log → AreBodiesOwned (come_to DecidingAgain s)

-- ---- all that a turn leaves

-- where a turn may end
abbrev pub LeftIsWhole : Type 0
LeftIsWhole = (terms : List Term) (s : State) (log : Log) → MayEnd terms s log → IsLeft (come_to DecidingAgain s)

-- so in the state alone: no row left memory for a decision, it may end, and Stop was not said
abbrev pub TurnsLeaveAll : Type 0
TurnsLeaveAll = (terms : List Term) (s : State) (log : Log) → Obeys terms s log → s.made_room_for ≡ None → may_end s ≡ true → s.is_stopped ≡ false → IsLeft (come_to DecidingAgain s)

-- so a turn that may end can, with each of these wants: whoever is left to wait is served
abbrev pub TurnsCanWait : Type 0
TurnsCanWait = (terms : List Term) (s : State) (log : Log) → Obeys terms s log → s.made_room_for ≡ None → may_end s ≡ true → s.is_stopped ≡ false → (w : Wants) → IsAsGood (ending s) w → IsPermitted s (Waits w)

-- with those of the law among them, so that some wait is permitted
abbrev pub SomeWaitIsPermitted : Type 0
SomeWaitIsPermitted = (terms : List Term) (s : State) (log : Log) → Obeys terms s log → s.made_room_for ≡ None → may_end s ≡ true → s.is_stopped ≡ false → IsPermitted s (Waits (wants_of (ending s)))
