-- One round of a turn goes as the law goes: from where nothing is due, through what nobody sees, asks of followers, closings and places, to
-- where nothing is due behind its decisions (RFC 2616, sections 8.1, 8.1.2.2 and 8.1.4; the order is ours).
use Rattle.std.specs.Prelude.{◌≡◌, ℕ, Bool, false, List, ◌++◌, None}
use Rattle.pp_law.specs.Due.{first_due}
use Rattle.pp_law.specs.Phases.{has_closings}
use Rattle.pp_law.specs.State.{State, Term, Deciding, DecidingAgain}
use Rattle.pp_obeys.specs.Obeys.{Obeys}
use Rattle.pp_proxy.specs.Moving.{Moving}
use Rattle.pp_proxy.specs.Rounds.{GoesRound}
use Rattle.pp_rounds_law.specs.Decisions.{Passes}
use Rattle.pp_state.specs.declared.state.State.{State as Turn}
use Rattle.pp_store.specs.Kept.{KeptMap}
use Rattle.pp_world.specs.Log.{Log}
use Rattle.pp_rounds_law.specs.Coming.{Affords, ComesTo, IsBrief}
use Rattle.pp_rounds_law.specs.InRounds.{phase_behind}
use Rattle.pp_rounds_law.specs.Stands.{StandsInRound}
use Rattle.pp_rounds_law.specs.Supplies.{RoundSupplies}

-- the log goes on so, the turn stands as before, and nothing is due: where anything was decided, the next round begins there, and else the
-- turn may end
pub record HasGoneRound (terms : List Term) (before : Log) (shelf : KeptMap) (I : Turn → State → Type 0) (y : Moving) (log : Log) (any : Bool) (s : State) : Type 0 where
  pub then : State
  pub comes : ComesTo terms before log s then
  pub stands : StandsInRound shelf y then
  pub holds : I y.desk.state then
  pub phase : then.phase ≡ phase_behind any DecidingAgain
  pub none : first_due then ≡ None

-- where decisions ended, and nothing is due; and nobody is turned away (`StandsInRound`). This life did not go astray, as `AllLead` of
-- Decisions has it
abbrev pub RoundsLead : Type 0
RoundsLead = (terms : List Term) (most : ℕ) (before : Log) (shelf : KeptMap) (test : Turn → State → Bool) (x y : Moving) (log : Log) (any : Bool) (s : State) → RoundSupplies terms most shelf (Passes test) → Obeys terms s before → IsBrief most (before ++ log) → Affords s log → StandsInRound shelf x s → Passes test x.desk.state s
    → s.phase ≡ Deciding → first_due s ≡ None → GoesRound shelf x log y any → y.desk.state.is_astray ≡ false → HasGoneRound terms before shelf (Passes test) y log any s

-- and where nothing is decided behind the places, nobody is left to be closed
pub record EndsRound (terms : List Term) (before : Log) (shelf : KeptMap) (I : Turn → State → Type 0) (y : Moving) (log : Log) (any : Bool) (s : State) : Type 0 where
  pub gone : HasGoneRound terms before shelf I y log any s
  pub closed : any ≡ false → has_closings gone.then ≡ false

abbrev pub RoundsEnd : Type 0
RoundsEnd = (terms : List Term) (most : ℕ) (before : Log) (shelf : KeptMap) (test : Turn → State → Bool) (x y : Moving) (log : Log) (any : Bool) (s : State) → RoundSupplies terms most shelf (Passes test) → Obeys terms s before → IsBrief most (before ++ log) → Affords s log → StandsInRound shelf x s → Passes test x.desk.state s
    → s.phase ≡ Deciding → first_due s ≡ None → GoesRound shelf x log y any → y.desk.state.is_astray ≡ false → EndsRound terms before shelf (Passes test) y log any s
