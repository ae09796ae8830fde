-- What the contract of a call is good for (`Keeps`): what stands before it stands behind it, and where it stands the log is lawful.
-- Of states that pass a test.
use Rattle.std.specs.Prelude.{◌≡◌, ℕ, ◌+◌, ◌≤◌, Bool, true, ◌++◌, Option}
use Rattle.pp_world.specs.Log.{Appends, AppendsAll, Log}
use Rattle.pp_world.specs.declared.happening.Happening.{Happening}
use Rattle.pp_law.specs.Lawful.{Lawful}
use Rattle.pp_law.specs.State.{State}
use Rattle.pp_obeys.specs.Failures.{Rose, fails}
use Rattle.pp_obeys.specs.Moves.{Adds, AreCalm, Is, Leads, Leaves, Moves, MovesAll}
use Rattle.pp_obeys.specs.Obeys.{Keeps, Life, Stands}

abbrev pub Passes : (State → Bool) → State → Type 0
Passes test s = test s ≡ true

-- for each number of failures that is enough the log is lawful
abbrev pub StandingIsLawful : Type 0
StandingIsLawful = (life : Life) (budget faults : ℕ) (test : State → Bool) (log : Log) → Stands life faults (Passes test) log → faults ≤ budget + life.base → Lawful (life.terms budget) log

-- a call that appends what is permitted, and counts one failure more where it failed
abbrev pub PermittedCallsKeep : Type 0
PermittedCallsKeep = (old new : Option Log) (before now : ℕ) (h : Happening) (p q : State → Bool) → Appends old new (λ l. h) → Rose (fails h) before now → ((s : State) → Passes p s → Moves (Passes q) h s) → Keeps old new before now (Passes p) (Passes q)

-- one behind the other
abbrev pub CallsJoin : Type 0
CallsJoin = (old mid new : Option Log) (before between now : ℕ) (p q r : State → Bool) → Keeps old mid before between (Passes p) (Passes q) → Keeps mid new between now (Passes q) (Passes r) → Keeps old new before now (Passes p) (Passes r)

-- and a phase that is done, without a call
abbrev pub DonePhasesKeep : Type 0
DonePhasesKeep = (log : Option Log) (n : ℕ) (p q : State → Bool) → ((s : State) → Passes p s → Leaves (Passes q) s) → Keeps log log n n (Passes p) (Passes q)

-- ---- several happenings

-- calls that add them, where each may come, and they lead to what stands behind them
abbrev pub AddedOnesKeep : Type 0
AddedOnesKeep = (old new : Option Log) (before now : ℕ) (hs : Log) (p q : State → Bool) → Adds old new before now (Is hs) → ((s : State) → Passes p s → MovesAll (Passes q) hs s) → Keeps old new before now (Passes p) (Passes q)

-- what is no failure asks for none to be counted
abbrev pub CalmOnesAdd : Type 0
CalmOnesAdd = (old new : Option Log) (before now : ℕ) (hs : Log) → AppendsAll old new (λ l. hs) → before ≤ now → AreCalm hs → Adds old new before now (Is hs)

-- one behind the other
abbrev pub AdditionsJoin : Type 0
AdditionsJoin = (old mid new : Option Log) (before between now : ℕ) (one two : Log) → Adds old mid before between (Is one) → Adds mid new between now (Is two) → Adds old new before now (Is (one ++ two))

-- and where they lead
abbrev pub LeadsJoin : Type 0
LeadsJoin = (one two : Log) (s t u : State) → Leads one s t → Leads two t u → Leads (one ++ two) s u
