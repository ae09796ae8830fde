-- `run` beside the law: of a life whose words, files and log are as the law has them, what its exit says of the log behind it (ours).
--
-- Where the premises come from: as in Lives, where Wakes is of the outside.
--
-- Not said: of a life that went astray.
use Rattle.std.specs.Global.{Global}
use Rattle.std.specs.Prelude.{◌≡◌, ◌≤◌, ◌<◌, ◌+◌, ◌++◌, ℕ, Bool, true, false, List, [], ◌∷◌, length, map, Some, String, string_bytes}
use Rattle.pp_law.specs.State.{Term}
use Rattle.pp_obeys.specs.Obeys.{Life}
use Rattle.pp_run.specs.Lives.{Outside}
use Rattle.pp_run.specs.declared.ending.Exit.{Exit}
use Rattle.pp_run.specs.declared.ending.Exit.TheVariants.{NoConfig, NoDisk, NoListener, NoMemory, Served, ServedAstray, Usage}
use Rattle.pp_turn_law.specs.Ended.{EndsLawfully}
use Rattle.pp_turn_law.specs.Headline.{Headline}
use Rattle.pp_turn_law.specs.Lives.{Wakes}
use Rattle.pp_turn_law.specs.Served.{most_happenings}
use Rattle.pp_world.specs.Files.{Files}
use Rattle.pp_world.specs.Log.{Log}
use Rattle.pp_world.specs.declared.happening.Happening.TheVariants.{Woke}

-- it served and did not go astray, or printed why it does not serve; the demo is among these
abbrev pub is_said : Exit → Bool
is_said Served = true
is_said ServedAstray = false
is_said Usage = true
is_said NoMemory = true
is_said NoDisk = true
is_said NoListener = true
is_said NoConfig = true

-- the log that it leaves goes on from the one before it, obeys the law and may end; and all that the laws say holds of it
pub record Means (terms : List Term) (before after : Log) (y : Outside) : Type 0 where
  pub ends : EndsLawfully terms before y
  pub headline : Headline terms after

abbrev pub RunsBesideTheLaw : List (String Global) → Exit → Outside → Outside → Type 0
RunsBesideTheLaw words exit x y = (life : Life) (budget : ℕ) (files : Files) (before after : Log) → Wakes life budget (map string_bytes words) files before x → is_said exit ≡ true → y.log ≡ Some after → y.faults ≤ budget + life.base → length after < most_happenings
    → Means (life.terms budget) (before ++ Woke files ∷ []) after y
