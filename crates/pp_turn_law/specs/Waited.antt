-- From the end of a turn, over its wait, to where an event is awaited, beside a log that obeys the law (ours).
--
-- Where the premises come from: HasEnded of `pp_rounds_law` is where decisions and rounds lead; `carried` and `read` are carried from the
-- opening on (Settling of `pp_joints_law`, Reads of `pp_waits_law`). What a turn leaves is so of each end that may be (`pp_laws_left`).
use Rattle.std.specs.Prelude.{◌≡◌, ◌≤◌, ◌&&◌, not, ℕ, false, [], ◌∷◌, length, slice_get, take, Some, None}
use Rattle.pp_desk.specs.declared.desk.Desk.{Desk}
use Rattle.pp_joints_law.specs.Awaiting.{AwaitsEvent, NoSeatIsRefused}
use Rattle.pp_joints_law.specs.Carried.{IsCarried}
use Rattle.pp_joints_law.specs.Unnoted.{NoneIsUnnoted}
use Rattle.pp_law.specs.Connections.{front_of_line}
use Rattle.pp_law.specs.Lists.{is_some_with}
use Rattle.pp_law.specs.Phases.{ending}
use Rattle.pp_law.specs.Served.{is_stopped, wants_read}
use Rattle.pp_law.specs.State.{State, Conn}
use Rattle.pp_law.specs.Turn.{rest_with}
use Rattle.pp_laws_served.specs.Served.{IsAsGood}
use Rattle.pp_obeys.specs.Obeys.{Allows, Life, Obeys}
use Rattle.pp_proxy.specs.Awaiting.{Awaits, Rests, Standing}
use Rattle.pp_proxy.specs.Moving.{with_desk}
use Rattle.pp_rounds_law.specs.Coming.{ComesTo}
use Rattle.pp_rounds_law.specs.Ends.{HasEnded}
use Rattle.pp_stays_law.specs.Turns.{AreCounted, TextsHaveRoom}
use Rattle.pp_turn_law.specs.Supplied.{StandsGiven}
use Rattle.pp_waits_law.specs.Asleep.{WereRead}
use Rattle.pp_waits_law.specs.Rests.{HasRested}
use Rattle.pp_waits_law.specs.Waits.{OriginsAreApart}
use Rattle.pp_world.specs.Log.{Log}
use Rattle.pp_world.specs.declared.event.Wants.{Wants}
use Rattle.pp_world.specs.declared.happening.Happening.TheVariants.{Waits}

-- ---- before the wait

pub record StandsAtWait (life : Life) (budget : ℕ) (log : Log) (x : Standing) (s : State) : Type 0 where
  pub obeys : Obeys (life.terms budget) s log
  pub allows : Allows life budget x.turning.faults s
  pub told : x.turning.log ≡ Some log
  pub none : s.made_room_for ≡ None
  pub going : s.is_stopped ≡ false
  pub number : ℕ → ℕ
  pub ended : HasEnded number x.turning.shelf x.turning.moving.desk s
  pub carried : IsCarried x.turning.shelf x.turning.moving (ending s)
  pub read : WereRead x.read x.turning.moving.desk.state
  -- no origin has the number of a client that was read: numbers never come twice
  pub apart : OriginsAreApart x.read x.turning.moving.desk
  pub given : NoSeatIsRefused x.turning.moving.desk.state
  -- what each client is to be said first has room, and of what is dropped as much is counted as came (`pp_given_law`)
  pub texts : TextsHaveRoom x.turning.moving.desk.state
  pub counted : AreCounted x.turning.moving.desk.state (ending s)
  -- by its type
  pub name : length x.turning.moving.desk.state.name.items ≤ 64
  -- no row that left memory is still to be noted (Unnoted of `pp_joints_law`)
  pub noted : NoneIsUnnoted x.turning.moving.desk

-- ---- behind it

abbrev pub rested : Wants → State → State
rested w s = rest_with w (ending s)

pub record HasWaitedOn (life : Life) (budget : ℕ) (log : Log) (x : Standing) (w : Wants) (clients : ℕ) (f : Desk) (number : ℕ → ℕ) (s : State) : Type 0 where
  pub comes : ComesTo (life.terms budget) log (Waits w ∷ []) s (rested w s)
  pub rests : HasRested number x.turning.moving.desk f (ending s) (rested w s)
  pub awaits : AwaitsEvent number (with_desk f x.turning.moving) (rested w s)
  pub carried : IsCarried x.turning.shelf (with_desk f x.turning.moving) (rested w s)
  -- it waits as the law has it, and reads whichever connection is not to stop
  pub good : IsAsGood (ending s) w
  pub gets : (i : ℕ) (k : Conn) → slice_get (ending s).conns i ≡ Some k → wants_read w k.number ≡ (k.is_reached && not (is_some_with (is_stopped (ending s)) (front_of_line (ending s) k)))
  pub read : WereRead (take clients w.read.items) f.state
  pub given : NoSeatIsRefused f.state
  pub supplied : StandsGiven f.state (rested w s)

abbrev pub TurnsWait : Type 0
TurnsWait = (life : Life) (budget : ℕ) (log : Log) (x : Standing) (w : Wants) (clients : ℕ) (e f : Desk) (s : State) → (stands : StandsAtWait life budget log x s) → Awaits x.read w clients x.turning.moving.desk e → Rests w clients e f → HasWaitedOn life budget log x w clients f stands.number s
