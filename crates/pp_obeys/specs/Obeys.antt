-- How a program that takes a log on shows that it obeys the law: step by step, beside a state that the log may go on from.
use Rattle.std.specs.Prelude.{◌≡◌, ℕ, zero, suc, ◌+◌, ◌≤◌, true, List, Option}
use Rattle.pp_world.specs.Log.{Log, Told}
use Rattle.pp_law.specs.Lawful.{Lawful}
use Rattle.pp_law.specs.Phases.{is_done, next}
use Rattle.pp_law.specs.State.{State, Term}
use Rattle.pp_laws.specs.Runs.{state_after}

-- ---- silent steps

-- so many phases on
abbrev pub phases_on : ℕ → State → State
phases_on zero s = s
phases_on (suc n) s = phases_on n (next s)

-- each of them is done when it is left
abbrev pub AreDone : ℕ → State → Type 0
AreDone zero s = Unit {0}
AreDone (suc n) s = (is_done s ≡ true) × AreDone n (next s)

-- the other is this one, or one some phases on: no happening shows it
pub record GoesAs (s other : State) : Type 0 where
  pub phases : ℕ
  pub done : AreDone phases s
  pub there : phases_on phases s ≡ other

-- the log is lawful, and may go on as from this state: the one that it leads to, or one some phases on
pub record Obeys (terms : List Term) (s : State) (log : Log) : Type 0 where
  pub lawful : Lawful terms log
  pub goes : GoesAs (state_after terms log) s

-- ---- calls of the world

-- how a life is started, for each number of failures that it may have; and what was counted before it
pub record Life : Type 0 where
  pub terms : ℕ → List Term
  pub base : ℕ

-- fewer failures are in the log than the outside counted, and no more than the life may have
pub record Allows (life : Life) (budget faults : ℕ) (s : State) : Type 0 where
  pub failed : s.failures + life.base ≤ faults
  pub allowed : budget ≤ s.term.faults

-- where the log goes on from
pub record From (life : Life) (budget faults : ℕ) (P : State → Type 0) (log : Log) : Type 0 where
  pub state : State
  pub obeys : Obeys (life.terms budget) state log
  pub allows : Allows life budget faults state
  pub holds : P state

-- for each number of failures that is enough, the log goes on from a state of which this holds
pub record Stands (life : Life) (faults : ℕ) (P : State → Type 0) (log : Log) : Type 0 where
  pub at : (budget : ℕ) → faults ≤ budget + life.base → From life budget faults P log

-- a call that takes a log on, from what stands before it to what stands behind it, where the log is told
pub record Keeps (old new : Option Log) (before now : ℕ) (P Q : State → Type 0) : Type 0 where
  pub keeps : (life : Life) → Told old (Stands life before P) → Told new (Stands life now Q)
