-- Behind the disk a turn decides, and then goes round, or at Stop closes all: from the first decision of a turn to its end (RFC 2616, sections
-- 8.1 and 8.1.4; the order is ours). A client for whom there was no memory is left out: where one is, the law has it and the program does not,
-- up to its cut.
use Rattle.std.specs.Prelude.{◌≡◌, ℕ, Bool, true, false, List, [], ◌++◌, length, None}
use Rattle.std.specs.List.{list_any}
use Rattle.pp_cache.specs.Bounds.{IsBounded}
use Rattle.pp_turns_law.specs.Log.{AreLinked}
use Rattle.pp_deciding_law.specs.Stands.{StandsBehind}
use Rattle.pp_desk.specs.Closings.{peer_numbers}
use Rattle.pp_law.specs.Closing.{is_over}
use Rattle.pp_law.specs.Permits.{is_over as may_be_over}
use Rattle.pp_law.specs.State.{State, Term, Deciding}
use Rattle.pp_obeys.specs.Obeys.{Obeys}
use Rattle.pp_peers.specs.declared.peers.Peer.{Peer}
use Rattle.pp_places_law.specs.Closings.{AreOpen}
use Rattle.pp_proxy.specs.Moving.{Moving}
use Rattle.pp_proxy.specs.Settling.{Settles}
use Rattle.pp_rounds_law.specs.Coming.{Affords, ComesTo, IsBrief}
use Rattle.pp_rounds_law.specs.Stands.{StandsInRound}
use Rattle.pp_rounds_law.specs.Supplies.{RoundSupplies}
use Rattle.pp_rounds_law.specs.Decisions.{IsMoment, Passes, Supplies}
use Rattle.pp_rounds_law.specs.Stops.{NobodyIsLeft}
use Rattle.pp_state.specs.Ends.{numbers_of}
use Rattle.pp_state.specs.Numbers.{places}
use Rattle.pp_state.specs.declared.state.State.{State as Turn}
use Rattle.pp_store.specs.Kept.{KeptMap}
use Rattle.pp_world.specs.Log.{Log}
use Rattle.pp_rounds_law.specs.Serves.{EndSupplies, HasServedWith}

-- ---- before Stop

-- decisions come next, beside a log that obeys the law; nobody is turned away (`StandsInRound`)
pub record MaySettle (terms : List Term) (before : Log) (shelf : KeptMap) (I : Turn → State → Type 0) (x : Moving) (log : Log) (s : State) : Type 0 where
  pub obeys : Obeys terms s before
  pub affords : Affords s log
  pub stands : StandsInRound shelf x s
  pub holds : I x.desk.state s
  pub at : s.phase ≡ Deciding

-- the cache is bounded, as each is; this life did not go astray: the turn's end says so
abbrev pub SettlesLead : Type 0
SettlesLead = (terms : List Term) (most : ℕ) (before : Log) (shelf : KeptMap) (test : Turn → State → Bool) (x y : Moving) (log : Log) (s : State) → RoundSupplies terms most shelf (Passes test) → EndSupplies terms most shelf (Passes test) → MaySettle terms before shelf (Passes test) x log s → IsBrief most (before ++ log) → Settles shelf x log y
    → IsBounded y.desk.state.cache → y.desk.state.is_astray ≡ false → HasServedWith terms before shelf (Passes test) y log s

-- ---- at Stop

-- what decisions rest on there, beside what stands; no exchange is nobody's and nowhere, and none of it leaves the phase of decisions
pub record StopSupplies (terms : List Term) (most : ℕ) (shelf : KeptMap) (I : Turn → State → Type 0) : Type 0 where
  pub decides : Supplies terms most shelf I
  -- each decision, and each cut, leads there
  pub at : (before : Log) (peers : List Peer) (p : Turn) (s : State) → IsMoment terms most before peers shelf p s → I p s → s.phase ≡ Deciding
  -- as `RestsOn` of `pp_deciding_law` has it (`stopped_ones_end` of `pp_turn_law`)
  pub going : (before : Log) (peers : List Peer) (p : Turn) (s : State) → IsMoment terms most before peers shelf p s → I p s → list_any is_over s.exchanges ≡ false

pub record StandsAtStop (shelf : KeptMap) (x : Moving) (s : State) : Type 0 where
  -- what stands amid decisions
  pub behind : StandsBehind x.desk.peers shelf x.desk.state s
  -- as `Stops` of `pp_proxy` leaves it: decisions leave both
  pub stopped : x.desk.state.is_stopped ≡ true
  pub awake : x.desk.state.awake.items ≡ places (length x.desk.state.seats.items)
  -- from one opening, dial and closing to the next
  pub clients : AreOpen (numbers_of x.desk.state.seats.items) x.links
  pub origins : AreLinked (peer_numbers x.desk.peers) x.links
  -- only the event's own client may be turned away, and Stop has none
  pub away : x.desk.turned_away ≡ None

-- the log goes on so, to where nobody is there, and all is done: it may end
pub record HasStopped (terms : List Term) (before : Log) (y : Moving) (log : Log) (s : State) : Type 0 where
  pub then : State
  pub comes : ComesTo terms before log s then
  pub clients : then.clients ≡ []
  pub conns : then.conns ≡ []
  pub over : may_be_over then ≡ true
  pub nobody : NobodyIsLeft y

-- this life did not go astray: the turn's end says so
abbrev pub StopsLead : Type 0
StopsLead = (terms : List Term) (most : ℕ) (before : Log) (shelf : KeptMap) (test : Turn → State → Bool) (x y : Moving) (log : Log) (s : State) → StopSupplies terms most shelf (Passes test) → Obeys terms s before → IsBrief most (before ++ log) → Affords s log → StandsAtStop shelf x s → Passes test x.desk.state s → Settles shelf x log y
    → y.desk.state.is_astray ≡ false → HasStopped terms before y log s
