-- Of what is dropped as much is counted as came, behind the rest of a turn but its decisions and rounds (ours).
--
-- What the turn shows of the law's state does not tell how much is counted: an exchange whose body is dropped shows the law's, whatever it
-- counts (DropsAreNone of `pp_flow_law`). So each of these carries it on; `Writes` and `Ends` have it behind writes, and where an origin ends, and
-- `Reads` behind the read of an origin that brings bytes.
use Rattle.std.specs.Prelude.{◌≡◌, ℕ, Bool, true, false, [], ◌∷◌, Some, ⊤}
use Rattle.pp_events_law.specs.Silent.{IsSilentlyHandled, stopped}
use Rattle.pp_events_law.specs.Stands.{HasLedBehind, StandsAtEvent, come}
use Rattle.pp_evicting_law.specs.Evicting.{HasLeft, IsDoneWithEvent}
use Rattle.pp_keeping.specs.Keeping.{keeping}
use Rattle.pp_keeps_law.specs.All.{IsDoneWith}
use Rattle.pp_law.specs.After.{event, gone, opened, paid, reached}
use Rattle.pp_law.specs.Phases.{in_phase}
use Rattle.pp_law.specs.Replies.{regained}
use Rattle.pp_law.specs.State.{State, Awaiting, Deciding, Free}
use Rattle.pp_law.specs.Turn.{tick}
use Rattle.pp_proxy.specs.Events.{Keeps}
use Rattle.pp_proxy.specs.Handling.{Handles}
use Rattle.pp_proxy.specs.Leaving.{Leaves}
use Rattle.pp_proxy.specs.Moving.{Moving, Turning}
use Rattle.pp_state.specs.Ends.{numbers_of, place_of}
use Rattle.pp_stays_law.specs.Turns.{AreCounted}
use Rattle.pp_world.specs.Log.{Log}
use Rattle.pp_world.specs.declared.event.Event.{Event}
use Rattle.pp_world.specs.declared.event.Event.TheVariants.{Accepted, Broken as NowBroken, Readable, Reached as NowReached, Stop, Tick}
use Rattle.pp_world.specs.declared.happening.Happening.{Happening}
use Rattle.pp_world.specs.declared.happening.Happening.TheVariants.{Broke, CanRead, Clock, Heard, HungUp, NoneYet, Opened, Reached, Stopped}

-- ---- behind the event

-- what leaves memory: asks that bring nothing are over
abbrev pub CountedAsLeft : Type 0
CountedAsLeft = (number : ℕ → ℕ) (x y : Moving) (log : Log) (handled t : State) → IsDoneWithEvent number x handled → Leaves x log y → HasLeft number x y log (regained handled) t → AreCounted x.desk.state handled → AreCounted y.desk.state t

-- what is kept: decisions are next
abbrev pub CountedAsKept : Type 0
CountedAsKept = (number : ℕ → ℕ) (x y : Turning) (s t : State) → Keeps x y → IsDoneWith number (keeping x.moving.desk.state x.shelf x.log x.faults) (keeping y.moving.desk.state y.shelf y.log y.faults) s t → AreCounted x.moving.desk.state s → AreCounted y.moving.desk.state (in_phase Deciding t)

-- ---- events that add nothing to the log

-- behind this one, by the law's own function of it
abbrev pub CountedIn : Event → Happening → (State → State) → Type 0
CountedIn e h f = (number : ℕ → ℕ) (x y : Turning) (s : State) → Handles e (come e x) y → (it : IsSilentlyHandled number h y s (event (f s))) → AreCounted x.moving.desk.state s → AreCounted y.moving.desk.state it.handled.handled

abbrev pub CountedAsStopped : Type 0
CountedAsStopped = CountedIn Stop Stopped stopped

abbrev pub CountedAsAccepted : Type 0
CountedAsAccepted = (c : ℕ) → CountedIn (Accepted c) (Opened c) (opened c)

abbrev pub CountedAsReached : Type 0
CountedAsReached = (k : ℕ) → CountedIn (NowReached k) (Reached k) (reached k)

-- the clock, where connections that are idle are closed
abbrev pub CountedAsTicked : Type 0
CountedAsTicked = (seconds : ℕ) (number : ℕ → ℕ) (x y : Turning) (s : State) → StandsAtEvent number Awaiting Free x.moving s → Handles (Tick seconds) (come (Tick seconds) x) y → (it : IsSilentlyHandled number (Clock seconds) y s (event (tick seconds s))) → AreCounted x.moving.desk.state s → AreCounted y.moving.desk.state it.handled.handled

-- a connection to an origin is gone
abbrev pub CountedAsBroken : Type 0
CountedAsBroken = (k : ℕ) (number : ℕ → ℕ) (x y : Turning) (s : State) → StandsAtEvent number Awaiting Free x.moving s → Handles (NowBroken k) (come (NowBroken k) x) y → (it : IsSilentlyHandled number (Broke k) y s (paid (gone false k (event s)))) → AreCounted x.moving.desk.state s → AreCounted y.moving.desk.state it.handled.handled

-- ---- a client is read

-- it sent something, sends no more, or nothing came yet
abbrev pub is_of_client : Happening → Bool
is_of_client (Heard c bytes) = true
is_of_client (HungUp c) = true
is_of_client (NoneYet n) = true
is_of_client h = false

-- all of these; so it is of one read of a connection that the log says is a client's (Links of `pp_links`)
abbrev pub AreOfClient : Log → Type 0
AreOfClient [] = ⊤
AreOfClient (h ∷ hs) = (is_of_client h ≡ true) × AreOfClient hs

abbrev pub CountedAsHeard : Type 0
CountedAsHeard = (number : ℕ → ℕ) (id i : ℕ) (x y : Turning) (s : State) → StandsAtEvent number Awaiting Free x.moving s → place_of id (numbers_of x.moving.desk.state.seats.items) ≡ Some i → Handles (Readable id) (come (Readable id) x) y → (it : HasLedBehind number (CanRead id) x y s) → AreOfClient it.log → AreCounted x.moving.desk.state s → AreCounted y.moving.desk.state it.handled.handled
