-- Behind an event that is handled what is carried stands, and what leaves memory may leave it (ours): the words for that, and the events that
-- add nothing to the log.
--
-- Where the premises come from: the log obeys the law up to the wait. Where an event is awaited nothing has to leave memory (Unnoted). How
-- many connections are open is told by the log: of each state there are no more than clients and connections of the law (`pp_laws_sides`), and at
-- most 256 of them are clients. As attempts are lost rows are cleared, and their names noted, of which 2,048 may be. There are 1,024 rows; what
-- was noted before left the disk, but for what decisions and rounds cleared, which is few (`names_have_room_behind_waits` of `pp_turn_law`).
use Rattle.std.specs.Prelude.{◌≡◌, ◌<◌, ◌≤◌, ◌+◌, ℕ, List, count_by, length}
use Rattle.pp_events_law.specs.Silent.{IsSilentlyHandled, stopped}
use Rattle.pp_events_law.specs.Stands.{StandsAtEvent, come}
use Rattle.pp_joints_law.specs.Carried.{IsCarried}
use Rattle.pp_joints_law.specs.Leaving.{IsToLeave}
use Rattle.pp_law.specs.After.{event, opened, reached}
use Rattle.pp_law.specs.State.{State, Term, Awaiting, Free}
use Rattle.pp_law.specs.Turn.{tick}
use Rattle.pp_objects.specs.Instances.{is_row}
use Rattle.pp_obeys.specs.Obeys.{Obeys}
use Rattle.pp_proxy.specs.Accepting.{IsSeated, newcomer}
use Rattle.pp_proxy.specs.Handling.{Handles, IsSilent}
use Rattle.pp_proxy.specs.Moving.{Moving, Turning}
use Rattle.pp_store.specs.Kept.{KeptMap}
use Rattle.pp_world.specs.Log.{Log}
use Rattle.pp_world.specs.declared.event.Event.TheVariants.{Accepted, Reached as NowReached, Stop, Tick}
use Rattle.pp_world.specs.declared.happening.Happening.TheVariants.{Clock, Opened, Reached, Stopped}

-- ---- before

-- where an event is awaited
pub record StandsBefore (terms : List Term) (log : Log) (number : ℕ → ℕ) (shelf : KeptMap) (x : Moving) (s : State) : Type 0 where
  pub obeys : Obeys terms s log
  -- Awaiting.`RestedOnesAwait`
  pub stands : StandsAtEvent number Awaiting Free x s
  pub carried : IsCarried shelf x s
  -- Unnoted.`WaitsForgetNone`: nothing has to leave memory
  pub forgotten : x.desk.state.forgotten ≡ s.forgotten
  pub evicting : x.desk.state.is_evicting ≡ s.is_evicting

-- ---- and behind

-- there are at most 256 clients
abbrev pub HasFew : Moving → Type 0
HasFew x = length x.links ≤ 256 + length x.desk.peers

-- with a name of each row that is in memory, fewer would be noted than may be
abbrev pub MayNote : Moving → Type 0
MayNote x = length x.desk.state.cache.outdated + count_by is_row x.desk.state.cache.instances < 2048

pub record CarriesOn (shelf : KeptMap) (x : Moving) (handled : State) : Type 0 where
  pub carried : IsCarried shelf x handled
  pub leaves : IsToLeave x handled

-- ---- Stop, a client that comes, and a connection that was reached

abbrev pub StopsCarry : Type 0
StopsCarry = (terms : List Term) (log : Log) (number : ℕ → ℕ) (shelf : KeptMap) (x y : Turning) (s : State) → StandsBefore terms log number shelf x.moving s → Handles Stop (come Stop x) y → HasFew y.moving
    → (it : IsSilentlyHandled number Stopped y s (event (stopped s))) → CarriesOn shelf y.moving it.handled.handled

abbrev pub AcceptsCarry : Type 0
AcceptsCarry = (terms : List Term) (log : Log) (number : ℕ → ℕ) (shelf : KeptMap) (c : ℕ) (x y : Turning) (s : State) → StandsBefore terms log number shelf x.moving s → IsSeated (newcomer c x.moving.desk) x.moving.desk y.moving.desk → IsSilent (come (Accepted c) x) y → HasFew y.moving
    → (it : IsSilentlyHandled number (Opened c) y s (event (opened c s))) → CarriesOn shelf y.moving it.handled.handled

abbrev pub ReachesCarry : Type 0
ReachesCarry = (terms : List Term) (log : Log) (number : ℕ → ℕ) (shelf : KeptMap) (k : ℕ) (x y : Turning) (s : State) → StandsBefore terms log number shelf x.moving s → Handles (NowReached k) (come (NowReached k) x) y → HasFew y.moving
    → (it : IsSilentlyHandled number (Reached k) y s (event (reached k s))) → CarriesOn shelf y.moving it.handled.handled

-- ---- the clock

-- connections that are idle are closed, and asks that were not answered are lost
abbrev pub TicksCarry : Type 0
TicksCarry = (terms : List Term) (log : Log) (number : ℕ → ℕ) (shelf : KeptMap) (seconds : ℕ) (x y : Turning) (s : State) → StandsBefore terms log number shelf x.moving s → Handles (Tick seconds) (come (Tick seconds) x) y → HasFew y.moving → MayNote x.moving
    → (it : IsSilentlyHandled number (Clock seconds) y s (event (tick seconds s))) → CarriesOn shelf y.moving it.handled.handled
