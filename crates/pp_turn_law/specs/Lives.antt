-- A whole life that served, from the log before it to its end: where that log obeys the law, so does the one that the life leaves, which may end
-- there (ours). So the log behind `run` of `pp_run` is lawful, and what the laws of `pp_laws` say holds of it (Headline).
--
-- Where the premises come from: HasServed is what `run` says of its life, of its exit. What it wakes to is of the outside: the log before is told and
-- obeys the law, the files are what a crash may leave of it (`lives_wake_behind_crashes` of `pp_joints_law`), the numbers that it gives are above
-- those of the log, and its failures are counted.
use Rattle.std.specs.Global.{Global}
use Rattle.std.specs.Prelude.{◌≡◌, ◌≤◌, ◌<◌, ◌+◌, ◌++◌, ℕ, true, List, [], ◌∷◌, length, map, Some, String, string_bytes}
use Rattle.pp_law.specs.Lists.{Bytes}
use Rattle.pp_law.specs.Opening.{term_in}
use Rattle.pp_law.specs.Permits.{IsPermitted, is_over}
use Rattle.pp_law.specs.State.{State, Term}
use Rattle.pp_obeys.specs.Obeys.{Allows, Life, Obeys}
use Rattle.pp_recover.specs.Image.{HasFewNames}
use Rattle.pp_run.specs.Lives.{HasServed, Outside}
use Rattle.pp_run.specs.declared.ending.Exit.TheVariants.{Served}
use Rattle.pp_turn_law.specs.Served.{most_happenings}
use Rattle.pp_world.specs.Connections.{top_of}
use Rattle.pp_world.specs.Files.{Files}
use Rattle.pp_world.specs.Log.{Log}
use Rattle.pp_world.specs.declared.happening.Happening.TheVariants.{Woke}

-- ---- before it

-- a life that is started with these words, and may have so many failures, wakes to these files, behind a log that obeys the law
pub record Wakes (life : Life) (budget : ℕ) (words : List Bytes) (files : Files) (before : Log) (x : Outside) : Type 0 where
  pub state : State
  pub obeys : Obeys (life.terms budget) state before
  pub may : IsPermitted state (Woke files)
  pub words_are : (term_in state.terms).words ≡ words
  pub faults : budget ≤ (term_in state.terms).faults
  -- the outside tells so, gives no number that the log has, and has counted so many failures
  pub told : x.log ≡ Some (before ++ Woke files ∷ [])
  pub top : top_of before ≤ x.top
  pub counted : life.base ≤ x.faults

-- it has no more names there than are looked at: they are what a crash may leave, or what the first life may find
abbrev pub WokenOnesHaveFewNames : Type 0
WokenOnesHaveFewNames = (terms : List Term) (before : Log) (s : State) (files : Files) → Obeys terms s before → IsPermitted s (Woke files) → HasFewNames files

-- ---- behind it

-- the log goes on so, and may end
pub record IsLawfulToItsEnd (life : Life) (budget : ℕ) (before : Log) (y : Outside) : Type 0 where
  pub added : Log
  pub then : State
  pub told : y.log ≡ Some (before ++ added)
  pub obeys : Obeys (life.terms budget) then (before ++ added)
  pub allows : Allows life budget y.faults then
  pub over : is_over then ≡ true

-- of a life that served and did not go astray, where the log is told behind it, and the outside failed no more often than the life may have
abbrev pub ServedLivesAreLawful : Type 0
ServedLivesAreLawful = (life : Life) (budget : ℕ) (words : List (String Global)) (files : Files) (before after : Log) (x y : Outside) → Wakes life budget (map string_bytes words) files before x → HasServed (map string_bytes words) Served x y
    → y.log ≡ Some after → y.faults ≤ budget + life.base → length after < most_happenings → IsLawfulToItsEnd life budget (before ++ Woke files ∷ []) y
