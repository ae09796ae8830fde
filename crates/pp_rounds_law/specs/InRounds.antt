-- The decisions of a round: with what stands beside them, with the phase behind them, and where nothing is due behind the last (RFC 2616,
-- section 8.1; the order is ours).
use Rattle.std.specs.Prelude.{◌≡◌, ℕ, Bool, true, false, List, ◌++◌, None}
use Rattle.pp_law.specs.Due.{first_due}
use Rattle.pp_law.specs.State.{State, Phase, Term, Deciding}
use Rattle.pp_obeys.specs.Obeys.{Obeys}
use Rattle.pp_proxy.specs.Deciding.{Decides}
use Rattle.pp_proxy.specs.Moving.{Moving}
use Rattle.pp_rounds_law.specs.Decisions.{Passes}
use Rattle.pp_state.specs.declared.state.State.{State as Turn}
use Rattle.pp_store.specs.Kept.{KeptMap}
use Rattle.pp_world.specs.Log.{Log}
use Rattle.pp_rounds_law.specs.Coming.{ComesTo, IsBrief}
use Rattle.pp_rounds_law.specs.Stands.{StandsInRound}
use Rattle.pp_rounds_law.specs.Supplies.{RoundSupplies}

-- behind any decision the phase is that of decisions; behind none it is as before
abbrev pub phase_behind : Bool → Phase → Phase
phase_behind true was = Deciding
phase_behind false was = was

pub record AreDecided (terms : List Term) (before : Log) (shelf : KeptMap) (I : Turn → State → Type 0) (y : Moving) (log : Log) (any : Bool) (s : State) : Type 0 where
  pub then : State
  pub comes : ComesTo terms before log s then
  pub stands : StandsInRound shelf y then
  pub holds : I y.desk.state then
  pub phase : then.phase ≡ phase_behind any s.phase
  pub unless : any ≡ false → then ≡ s
  pub none : first_due then ≡ None

-- this life did not go astray, as `AllLead` of Decisions has it: `Deciding.Decides` of `pp_proxy` says so where something is due still
abbrev pub DecisionsInARound : Type 0
DecisionsInARound = (terms : List Term) (most : ℕ) (before : Log) (shelf : KeptMap) (test : Turn → State → Bool) (more : ℕ) (x y : Moving) (log : Log) (any : Bool) (s : State) → RoundSupplies terms most shelf (Passes test) → Obeys terms s before → IsBrief most (before ++ log) → StandsInRound shelf x s → Passes test x.desk.state s
    → Decides more shelf x log y any → y.desk.state.is_astray ≡ false → AreDecided terms before shelf (Passes test) y log any s
