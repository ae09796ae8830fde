-- Events that add nothing to the log: Stop, a client that comes, a connection that was reached, and the clock (RFC 2616, section 8.1; the
-- order is ours).
--
-- The log gets the event itself, at the end of the wait. Each leads from the state in which it was awaited, by the law's own function.
--
-- Where the premises come from: room in the list of who is looked at is there from the opening on, for all clients that there may be
-- (`IsSet` of pp_desk, and `bounded` of `IsSoundTurn`); the others stand where they are.
use Rattle.std.specs.Prelude.{◌≡◌, ◌<◌, ◌≤◌, ℕ, true, false, List, [], ◌∷◌, length, vec_capacity}
use Rattle.pp_cache.specs.Bounds.{IsBounded}
use Rattle.pp_law.specs.After.{event, opened, reached}
use Rattle.pp_law.specs.Permits.{has_conn}
use Rattle.pp_law.specs.Served.{accepts}
use Rattle.pp_law.specs.State.{State, Term, Awaiting, Free}
use Rattle.pp_law.specs.Turn.{tick}
use Rattle.pp_obeys.specs.Moves.{Leads}
use Rattle.pp_obeys.specs.Obeys.{Obeys}
use Rattle.pp_proxy.specs.Accepting.{IsSeated, newcomer}
use Rattle.pp_proxy.specs.Handling.{Handles, IsSilent}
use Rattle.pp_proxy.specs.Moving.{Turning}
use Rattle.pp_state.specs.declared.state.State.{State as Turn}
use Rattle.pp_world.specs.Log.{Log}
use Rattle.pp_world.specs.Wire.{IsNewNumber}
use Rattle.pp_world.specs.declared.event.Event.TheVariants.{Accepted, Reached as NowReached, Stop, Tick}
use Rattle.pp_world.specs.declared.happening.Happening.{Happening}
use Rattle.pp_world.specs.declared.happening.Happening.TheVariants.{Clock, Opened, Reached, Stopped}
use Rattle.pp_events_law.specs.Stands.{AreReadyAt, IsHandled, StandsAtEvent, come}

-- it leads there, and the turn stands behind it
pub record IsSilentlyHandled (number : ℕ → ℕ) (h : Happening) (y : Turning) (s t : State) : Type 0 where
  pub leads : Leads (h ∷ []) s t
  pub handled : IsHandled number y.moving t

-- there is room to look at all
abbrev pub HasRoom : Turn → Type 0
HasRoom p = length p.seats.items ≤ vec_capacity p.awake

-- ---- Stop

abbrev pub stopped : State → State
stopped s = record s { is_stopped = true }

abbrev pub StopsLead : Type 0
StopsLead = (number : ℕ → ℕ) (x y : Turning) (s : State) → StandsAtEvent number Awaiting Free x.moving s → AreReadyAt number x.moving s → HasRoom x.moving.desk.state → Handles Stop (come Stop x) y
    → IsSilentlyHandled number Stopped y s (event (stopped s)) × AreReadyAt number y.moving (event (stopped s))

-- ---- a client comes, for which there is memory

-- it is wanted, and nobody had its number (HasCome of `pp_proxy`, Awaiting); it can be looked at
pub record MayAccept (c : ℕ) (x : Turning) (s : State) : Type 0 where
  pub wanted : accepts s ≡ true
  pub number : IsNewNumber x.moving.top c
  pub room : length x.moving.desk.state.awake.items < vec_capacity x.moving.desk.state.awake
  -- since the wait no second began (Rests of `pp_proxy`, Awaiting)
  pub still : x.moving.desk.state.is_ticked ≡ false

-- one without memory is turned away, and cut in the decisions behind: not said here
abbrev pub AcceptsLead : Type 0
AcceptsLead = (number : ℕ → ℕ) (c : ℕ) (x y : Turning) (s : State) → StandsAtEvent number Awaiting Free x.moving s → AreReadyAt number x.moving s → MayAccept c x s → IsSeated (newcomer c x.moving.desk) x.moving.desk y.moving.desk → IsSilent (come (Accepted c) x) y
    → IsSilentlyHandled number (Opened c) y s (event (opened c s)) × AreReadyAt number y.moving (event (opened c s))

-- ---- a connection was reached

-- the log has it dialled, and not closed (IsOnDialled of `pp_world`), so that it is there
abbrev pub ReachesLead : Type 0
ReachesLead = (number : ℕ → ℕ) (k : ℕ) (x y : Turning) (s : State) → StandsAtEvent number Awaiting Free x.moving s → AreReadyAt number x.moving s → has_conn s k ≡ true → Handles (NowReached k) (come (NowReached k) x) y
    → IsSilentlyHandled number (Reached k) y s (event (reached k s)) × AreReadyAt number y.moving (event (reached k s))

-- ---- the clock

-- connections that are idle are closed; the cache is bounded behind it, as each is. The log obeys the law up to the wait, from which the state
-- amid the event is sound
abbrev pub TicksLead : Type 0
TicksLead = (terms : List Term) (log : Log) (number : ℕ → ℕ) (seconds : ℕ) (x y : Turning) (s : State) → Obeys terms s log → StandsAtEvent number Awaiting Free x.moving s → AreReadyAt number x.moving s → HasRoom x.moving.desk.state → IsBounded y.moving.desk.state.cache → Handles (Tick seconds) (come (Tick seconds) x) y
    → IsSilentlyHandled number (Clock seconds) y s (event (tick seconds s)) × AreReadyAt number y.moving (event (tick seconds s))
