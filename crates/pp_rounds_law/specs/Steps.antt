-- The steps of a round, one by one: what nobody sees and what followers ask for, connections that are over, and places (RFC 2616, sections
-- 8.1, 8.1.2.2 and 8.1.4; the order is ours).
use Rattle.std.specs.Prelude.{◌≡◌, ℕ, Bool, false, List, [], ◌++◌, None}
use Rattle.pp_desk.specs.Origins.{without_unseen}
use Rattle.pp_desk.specs.declared.desk.Desk.{Desk}
use Rattle.pp_law.specs.Due.{first_due}
use Rattle.pp_law.specs.Phases.{has_closings}
use Rattle.pp_law.specs.State.{State, Term, Connecting, Deciding, DecidingAgain}
use Rattle.pp_obeys.specs.Obeys.{Obeys}
use Rattle.pp_proxy.specs.Closing.{ClosesOver}
use Rattle.pp_proxy.specs.Moving.{Moving, with_desk}
use Rattle.pp_proxy.specs.Rounds.{Becomes, Fills, GivesUp, Places}
use Rattle.pp_rounds_law.specs.Decisions.{Passes}
use Rattle.pp_state.specs.declared.state.State.{State as Turn}
use Rattle.pp_store.specs.Kept.{KeptMap}
use Rattle.pp_world.specs.Log.{Log}
use Rattle.pp_rounds_law.specs.Coming.{Affords, ComesTo, IsBrief}
use Rattle.pp_rounds_law.specs.Stands.{StandsAmid}
use Rattle.pp_rounds_law.specs.Supplies.{RoundSupplies, followed}

-- ---- without a word: nothing is due any more

pub record HasFollowed (terms : List Term) (before : Log) (number : ℕ → ℕ) (shelf : KeptMap) (I : Turn → State → Type 0) (y : Moving) (s : State) : Type 0 where
  pub comes : ComesTo terms before [] s (followed s)
  pub phase : (followed s).phase ≡ Connecting
  pub amid : StandsAmid number shelf y (followed s)
  pub holds : I y.desk.state (followed s)

-- this life did not go astray, as `AllLead` of Decisions has it
abbrev pub FollowingIsTheLaws : Type 0
FollowingIsTheLaws = (terms : List Term) (most : ℕ) (before : Log) (number : ℕ → ℕ) (shelf : KeptMap) (test : Turn → State → Bool) (x : Moving) (seen given asked : Desk) (s : State) → RoundSupplies terms most shelf (Passes test) → Obeys terms s before → IsBrief most before → StandsAmid number shelf x s → Passes test x.desk.state s
    → s.phase ≡ Deciding → first_due s ≡ None → Becomes without_unseen x.desk seen → GivesUp seen given → Fills given asked → asked.state.is_astray ≡ false → HasFollowed terms before number shelf (Passes test) (with_desk asked x) s

-- ---- connections that are over

pub record HasClosed (terms : List Term) (before : Log) (number : ℕ → ℕ) (shelf : KeptMap) (I : Turn → State → Type 0) (y : Moving) (log : Log) (s : State) : Type 0 where
  pub then : State
  pub comes : ComesTo terms before log s then
  pub phase : then.phase ≡ Connecting
  pub closed : has_closings then ≡ false
  pub amid : StandsAmid number shelf y then
  pub holds : I y.desk.state then

abbrev pub ClosingsInARound : Type 0
ClosingsInARound = (terms : List Term) (most : ℕ) (before : Log) (number : ℕ → ℕ) (shelf : KeptMap) (test : Turn → State → Bool) (x y : Moving) (log : Log) (s : State) → RoundSupplies terms most shelf (Passes test) → Obeys terms s before → IsBrief most (before ++ log) → StandsAmid number shelf x s → Passes test x.desk.state s
    → s.phase ≡ Connecting → ClosesOver x log y → y.desk.state.is_astray ≡ false → HasClosed terms before number shelf (Passes test) y log s

-- ---- places

pub record HavePlacesNow (terms : List Term) (before : Log) (number : ℕ → ℕ) (shelf : KeptMap) (I : Turn → State → Type 0) (y : Moving) (log : Log) (s : State) : Type 0 where
  pub then : State
  pub comes : ComesTo terms before log s then
  pub phase : then.phase ≡ DecidingAgain
  pub closed : has_closings then ≡ false
  pub amid : StandsAmid number shelf y then
  pub holds : I y.desk.state then

-- `Places` of `pp_proxy` says that it did where one is left without a place
abbrev pub PlacesInARound : Type 0
PlacesInARound = (terms : List Term) (most : ℕ) (before : Log) (number : ℕ → ℕ) (shelf : KeptMap) (test : Turn → State → Bool) (x y : Moving) (log : Log) (s : State) → RoundSupplies terms most shelf (Passes test) → Obeys terms s before → IsBrief most (before ++ log) → StandsAmid number shelf x s → Passes test x.desk.state s
    → Affords s log → s.phase ≡ Connecting → has_closings s ≡ false → Places x log y → y.desk.state.is_astray ≡ false → HavePlacesNow terms before number shelf (Passes test) y log s
