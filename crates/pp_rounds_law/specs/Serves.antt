-- Behind its decisions a turn goes round, and then replies begin: the law lets it wait there (RFC 2616, sections 6, 8.1 and 8.1.4; the order is
-- ours).
use Rattle.std.specs.Prelude.{◌≡◌, ◌≤◌, ◌+◌, ℕ, Bool, false, List, ◌++◌, length, vec_capacity, None}
use Rattle.std.specs.List.{All}
use Rattle.pp_cache.specs.Bounds.{IsBounded}
use Rattle.pp_turns_law.specs.Log.{AreLinked}
use Rattle.pp_deciding_law.specs.Stands.{StandsToDecide}
use Rattle.pp_desk.specs.Closings.{peer_numbers}
use Rattle.pp_desk.specs.declared.desk.Desk.{Desk}
use Rattle.pp_law.specs.Connections.{limits}
use Rattle.pp_law.specs.Phases.{ending}
use Rattle.pp_law.specs.State.{State, Term, DecidingAgain}
use Rattle.pp_obeys.specs.Obeys.{Obeys}
use Rattle.pp_places_law.specs.Around.{AreAskable}
use Rattle.pp_places_law.specs.Closings.{AreOpen}
use Rattle.pp_proxy.specs.Moving.{Moving}
use Rattle.pp_proxy.specs.Rounds.{BeginsAll, Serves}
use Rattle.pp_rounds_law.specs.Coming.{ComesTo, IsBrief}
use Rattle.pp_rounds_law.specs.Supplies.{RoundSupplies}
use Rattle.pp_rounds_law.specs.Decisions.{Passes}
use Rattle.pp_rounds_law.specs.Ends.{AllMayBeginNow, HasEnded}
use Rattle.pp_state.specs.Ends.{numbers_of}
use Rattle.pp_state.specs.declared.state.State.{State as Turn}
use Rattle.pp_store.specs.Kept.{KeptMap}
use Rattle.pp_world.specs.Log.{Log}
use Rattle.pp_rounds_law.specs.Loops.{MayGoRound}

-- what the end rests on beside that of rounds, as long as that holds
pub record EndSupplies (terms : List Term) (most : ℕ) (shelf : KeptMap) (I : Turn → State → Type 0) : Type 0 where
  -- what each reply that begins rests on, beside what stands, and beside a log that obeys the law
  pub begins : (before : Log) (number : ℕ → ℕ) (p : Desk) (s : State) → Obeys terms s before → IsBrief most before → StandsToDecide number p.peers shelf p.state s → I p.state s → AllMayBeginNow number p s

-- connections, and what is set, stand as in a round (Stands.`StandsAmid`)
pub record StaysSet (y : Moving) (s : State) : Type 0 where
  pub limits : y.desk.state.limits ≡ limits s
  pub waiting : AreAskable y.desk.state.flow.waiting
  pub placed : AreAskable y.desk.state.flow.placed
  pub linked : AreLinked (peer_numbers y.desk.peers) y.links
  pub seated : AreOpen (numbers_of y.desk.state.seats.items) y.links
  pub given : All (λ link. link.0 ≤ y.top) y.links
  pub few : length y.links ≤ 256 + length y.desk.peers
  pub top : s.top ≤ y.top
  pub room : 256 ≤ vec_capacity y.desk.state.awake
  pub away : y.desk.turned_away ≡ None
  pub going : s.is_stopped ≡ false

-- the log goes on so, the turn may wait in that state, and what it has shows the state at its end
pub record HasServed (terms : List Term) (before : Log) (shelf : KeptMap) (y : Moving) (log : Log) (s : State) : Type 0 where
  pub then : State
  pub comes : ComesTo terms before log s then
  pub number : ℕ → ℕ
  pub ended : HasEnded number shelf y.desk then
  pub set : StaysSet y (ending then)

-- and where its last round ended, this holds still, and replies begin from there
pub record HasServedWith (terms : List Term) (before : Log) (shelf : KeptMap) (I : Turn → State → Type 0) (y : Moving) (log : Log) (s : State) : Type 0 where
  pub served : HasServed terms before shelf y log s
  pub last : Desk
  pub stands : StandsToDecide served.number last.peers shelf last.state served.then
  pub at : served.then.phase ≡ DecidingAgain
  pub holds : I last.state served.then
  pub begins : BeginsAll last y.desk

-- the cache is bounded, as each is; this life did not go astray, as `AllLead` of Decisions has it, and replies that begin leave that as it was
abbrev pub ServesLead : Type 0
ServesLead = (terms : List Term) (most : ℕ) (before : Log) (shelf : KeptMap) (test : Turn → State → Bool) (x y : Moving) (log : Log) (s : State) → RoundSupplies terms most shelf (Passes test) → EndSupplies terms most shelf (Passes test) → MayGoRound terms before shelf (Passes test) x log s → IsBrief most (before ++ log) → Serves shelf x log y
    → IsBounded y.desk.state.cache → y.desk.state.is_astray ≡ false → HasServedWith terms before shelf (Passes test) y log s
