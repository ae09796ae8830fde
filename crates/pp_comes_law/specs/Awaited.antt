-- Where an event is awaited, and comes: what stands behind the wait, beside a log that obeys the law with it (ours).
--
-- Where the premises come from: `stands`, `ready` and `still` are what the wait leaves (HasRested of `pp_waits_law`; Awaiting of
-- `pp_joints_law`); `good` is of the wait (Good of `pp_waits_law`); `linked` is of each turn of the program (TurnsOn of `pp_proxy`); room to look
-- at all, and what is read into, are there from the opening on (HasRoom, HasBuffers of `pp_desk`).
use Rattle.std.specs.Prelude.{◌≡◌, ◌≤◌, ◌++◌, ◌&&◌, not, ℕ, IsTrue, false, List, [], ◌∷◌, length, slice_get, vec_capacity, Some}
use Rattle.pp_events_law.specs.Stands.{AreReadyAt, HasLedBehind, StandsAtEvent, come}
use Rattle.pp_law.specs.Connections.{front_of_line}
use Rattle.pp_law.specs.Lists.{is_some_with}
use Rattle.pp_law.specs.Phases.{has_closings}
use Rattle.pp_law.specs.Served.{is_stopped, wants_read}
use Rattle.pp_law.specs.State.{State, Conn, Term, Awaiting, Free}
use Rattle.pp_law.specs.Turn.{rest_with}
use Rattle.pp_laws_served.specs.Served.{IsAsGood}
use Rattle.pp_links.specs.Links.{IsLinked}
use Rattle.pp_obeys.specs.Obeys.{Obeys}
use Rattle.pp_places_law.specs.Around.{AreAskable}
use Rattle.pp_proxy.specs.Moving.{Turning}
use Rattle.pp_seats.specs.Dues.{is_refused_in}
use Rattle.pp_seats.specs.declared.seat.Seat.{Seat}
use Rattle.pp_world.specs.Log.{Log}
use Rattle.pp_world.specs.Wire.{IsNumbered, IsOnDialled, event_happening, is_wanted}
use Rattle.pp_world.specs.declared.event.Event.{Event}
use Rattle.pp_world.specs.declared.event.Wants.{Wants}

-- ---- behind the wait

-- the log goes on from `rest_with w u`, where u is the state in which the turn before ended, and the wants are as good there as the law's
pub record IsAwaited (terms : List Term) (log : Log) (number : ℕ → ℕ) (w : Wants) (x : Turning) (u : State) : Type 0 where
  pub obeys : Obeys terms (rest_with w u) log
  pub stands : StandsAtEvent number Awaiting Free x.moving (rest_with w u)
  pub ready : AreReadyAt number x.moving (rest_with w u)
  pub good : IsAsGood u w
  -- and so are connections also before the first ask of their line is whole (OriginsAreRead of `pp_waits_law`)
  pub gets : (i : ℕ) (k : Conn) → slice_get u.conns i ≡ Some k → wants_read w k.number ≡ (k.is_reached && not (is_some_with (is_stopped u) (front_of_line u k)))
  pub still : x.moving.desk.state.is_ticked ≡ false
  pub given : (i : ℕ) (seat : Seat) → slice_get x.moving.desk.state.seats.items i ≡ Some seat → is_refused_in seat.brought ≡ false
  -- nobody is closing, as the wait leaves it (`HasRested`)
  pub closed : has_closings (rest_with w u) ≡ false
  -- what was begun can be asked (from step to step: Carried of `pp_joints_law`)
  pub waiting : AreAskable x.moving.desk.state.flow.waiting
  pub placed : AreAskable x.moving.desk.state.flow.placed
  pub looks : 257 ≤ vec_capacity x.moving.desk.state.awake
  pub buffer : length x.moving.desk.buffer.items ≡ 32768
  pub holds : 32768 ≤ vec_capacity x.moving.desk.«data»
  pub linked : IsLinked (Some log) x.moving.top x.moving.links

-- ---- the event

-- it was waited for; the log has it
pub record HasComeTo (log : Log) (w : Wants) (event : Event) (x : Turning) : Type 0 where
  pub wanted : IsTrue (is_wanted w event)
  pub dialled : IsOnDialled event log
  pub numbered : IsNumbered x.moving.top event
  pub told : x.log ≡ Some (log ++ event_happening event ∷ [])
  -- its connection is open with it, where it is that of a newcomer
  pub linked : IsLinked x.log (come event x).moving.top (come event x).moving.links

-- ---- where it leads

-- it is handled, and each client that goes on can be decided
pub record IsHandledBehind (number : ℕ → ℕ) (event : Event) (x y : Turning) (s : State) : Type 0 where
  pub led : HasLedBehind number (event_happening event) x y s
  pub ready : AreReadyAt number y.moving led.then
