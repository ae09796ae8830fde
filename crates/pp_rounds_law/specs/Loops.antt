-- All rounds of a turn lead where the law leads, one behind the other, as long as one brings decisions (RFC 2616, sections 8.1, 8.1.2.2 and
-- 8.1.4; the order is ours).
use Rattle.std.specs.Prelude.{◌≡◌, ℕ, Bool, true, false, List, ◌++◌, None}
use Rattle.pp_law.specs.Due.{first_due}
use Rattle.pp_law.specs.State.{State, Term, Deciding}
use Rattle.pp_obeys.specs.Obeys.{Obeys}
use Rattle.pp_proxy.specs.Moving.{Moving}
use Rattle.pp_proxy.specs.Rounds.{GoRounds}
use Rattle.pp_rounds_law.specs.Coming.{Affords, IsBrief}
use Rattle.pp_rounds_law.specs.Rounds.{EndsRound}
use Rattle.pp_rounds_law.specs.Stands.{StandsInRound}
use Rattle.pp_rounds_law.specs.Supplies.{RoundSupplies}
use Rattle.pp_rounds_law.specs.Decisions.{Passes}
use Rattle.pp_state.specs.declared.state.State.{State as Turn}
use Rattle.pp_store.specs.Kept.{KeptMap}
use Rattle.pp_world.specs.Log.{Log}

-- behind decisions, where nothing is due, beside a log that obeys the law, of which the outside may fail as often as it did in these
pub record MayGoRound (terms : List Term) (before : Log) (shelf : KeptMap) (I : Turn → State → Type 0) (x : Moving) (log : Log) (s : State) : Type 0 where
  pub obeys : Obeys terms s before
  pub affords : Affords s log
  pub stands : StandsInRound shelf x s
  pub holds : I x.desk.state s
  pub at : s.phase ≡ Deciding
  pub none : first_due s ≡ None

-- each round leads so, and they lead to where nothing is due, and nobody is left to be closed, behind a round that decided nothing. This life
-- did not go astray, as `AllLead` of Decisions has it. The law has no bound of its own: where the program ends before, `GoRounds` of `pp_proxy`
-- says that it did
abbrev pub LoopsLead : Type 0
LoopsLead = (terms : List Term) (most : ℕ) (before : Log) (shelf : KeptMap) (test : Turn → State → Bool) (more : ℕ) (x y : Moving) (log : Log) (s : State) → RoundSupplies terms most shelf (Passes test) → MayGoRound terms before shelf (Passes test) x log s
    → IsBrief most (before ++ log) → GoRounds more shelf true x log y → y.desk.state.is_astray ≡ false → EndsRound terms before shelf (Passes test) y log false s
