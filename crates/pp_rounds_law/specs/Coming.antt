-- A log goes on by happenings that may come, and by phases that are done, and leads to a state of the law. All of it is ours.
use Rattle.std.specs.Prelude.{◌≡◌, ◌≤◌, ◌+◌, ℕ, List, length, ◌++◌, count_by, Bool, Option}
use Rattle.pp_law.specs.State.{State, Term}
use Rattle.pp_obeys.specs.Calls.{Passes}
use Rattle.pp_obeys.specs.Failures.{fails}
use Rattle.pp_obeys.specs.Moves.{Adds, Is}
use Rattle.pp_obeys.specs.Obeys.{Keeps, Obeys}
use Rattle.pp_world.specs.Log.{Log}

-- the outside may fail so often still, as it did in these: `Allows` of `pp_obeys` has it, where `Adds` counted them
abbrev pub Affords : State → Log → Type 0
Affords s hs = s.failures + count_by fails hs ≤ s.term.faults

-- a log of so many happenings at most: where those are few, no count that they take on comes to its end
abbrev pub IsBrief : ℕ → Log → Type 0
IsBrief most hs = length hs ≤ most

-- behind them it may go on from there: each failure is counted, and the life is the same. Over several steps it joins, and where a phase is
-- done it is of no happening
pub record ComesTo (terms : List Term) (before hs : Log) (s t : State) : Type 0 where
  pub obeys : Obeys terms t (before ++ hs)
  pub failures : t.failures ≡ s.failures + count_by fails hs
  pub term : t.term ≡ s.term

-- ---- calls that add them to the log

-- they lead to a state of which this holds
pub record ComesWhere (Q : State → Type 0) (terms : List Term) (before hs : Log) (s : State) : Type 0 where
  pub then : State
  pub comes : ComesTo terms before hs s then
  pub holds : Q then

-- what stands before them stands behind them, with the failures that the outside counts
abbrev pub ComingKeeps : Type 0
ComingKeeps = (old new : Option Log) (before now : ℕ) (hs : Log) (p q : State → Bool) → Adds old new before now (Is hs) → ((terms : List Term) (log : Log) (s : State) → Passes p s → Obeys terms s log → Affords s hs → ComesWhere (Passes q) terms log hs s)
    → Keeps old new before now (Passes p) (Passes q)
