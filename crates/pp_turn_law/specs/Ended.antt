-- A life that does not come to serve: its log obeys the law, and may end there, where its words or FILE are not understood, where they ask for the
-- demo, where its folder cannot be listed, where it may not listen, or where memory is refused before that (ours).
--
-- Where the premises come from: JudgesWords, EndsAs and BreaksAs are what `run` of `pp_run` says of its exit; Wakes as in Lives.
--
-- NoMemory comes before the life listens, or of the demo: where memory is refused in a turn the life goes on, and is Served or ServedAstray.
use Rattle.std.specs.Global.{Global}
use Rattle.std.specs.Prelude.{◌≡◌, ◌≤◌, ◌+◌, ◌++◌, ℕ, Bool, true, false, not, List, [], ◌∷◌, map, Some, String, string_bytes}
use Rattle.pp_law.specs.Lists.{Bytes}
use Rattle.pp_law.specs.Permits.{is_over}
use Rattle.pp_law.specs.State.{State, Term}
use Rattle.pp_obeys.specs.Obeys.{Life, Obeys}
use Rattle.pp_run.specs.Breaks.{BreaksAs}
use Rattle.pp_run.specs.Exits.{EndsAs, JudgesWords, asks_to_serve}
use Rattle.pp_run.specs.Lives.{Outside}
use Rattle.pp_run.specs.declared.ending.Exit.{Exit}
use Rattle.pp_run.specs.declared.ending.Exit.TheVariants.{NoConfig, NoDisk, NoListener, NoMemory, Served, ServedAstray, Usage}
use Rattle.pp_turn_law.specs.Lives.{Wakes}
use Rattle.pp_world.specs.Files.{Files}
use Rattle.pp_world.specs.Log.{Log}
use Rattle.pp_world.specs.declared.happening.Happening.TheVariants.{Woke}

-- of these words, and this exit
abbrev pub ends_early : List Bytes → Exit → Bool
ends_early words Served = not (asks_to_serve words)
ends_early words ServedAstray = false
ends_early words Usage = true
ends_early words NoMemory = true
ends_early words NoDisk = true
ends_early words NoListener = true
ends_early words NoConfig = true

-- the log goes on so, and may end
pub record EndsLawfully (terms : List Term) (before : Log) (y : Outside) : Type 0 where
  pub added : Log
  pub then : State
  pub told : y.log ≡ Some (before ++ added)
  pub obeys : Obeys terms then (before ++ added)
  pub over : is_over then ≡ true

-- where the log is told behind it, and the outside failed no more often than the life may have
abbrev pub EarlyEndsAreLawful : Type 0
EarlyEndsAreLawful = (life : Life) (budget : ℕ) (words : List (String Global)) (exit : Exit) (files : Files) (before after : Log) (x y : Outside) → ends_early (map string_bytes words) exit ≡ true → Wakes life budget (map string_bytes words) files before x → JudgesWords (map string_bytes words) exit
    → EndsAs (map string_bytes words) exit x.log y.log x.faults y.faults → BreaksAs (map string_bytes words) exit x y → y.log ≡ Some after → y.faults ≤ budget + life.base → EndsLawfully (life.terms budget) (before ++ Woke files ∷ []) y
