-- Whence a life wakes (Wakes of Lives): the first to files none of which is an entry; each later one behind a log that obeys the law, to what a crash
-- may leave of it (ours): so it may of the law's disk (Left), which is what the law asks for.
use Rattle.std.specs.Prelude.{◌≡◌, ◌≤◌, ◌++◌, ℕ, true, List, [], ◌∷◌, map, Some}
use Rattle.pp_law.specs.Lists.{Bytes}
use Rattle.pp_law.specs.Opening.{is_first_image, term_in}
use Rattle.pp_law.specs.State.{State, Before, Term}
use Rattle.pp_obeys.specs.Obeys.{Life, Obeys}
use Rattle.pp_run.specs.Lives.{Outside}
use Rattle.pp_turn_law.specs.Lives.{Wakes}
use Rattle.pp_world.specs.Connections.{top_of}
use Rattle.pp_world.specs.Disk.{IsLeftBehind, is_rising}
use Rattle.pp_world.specs.Files.{Files}
use Rattle.pp_world.specs.Log.{Log}
use Rattle.pp_world.specs.declared.happening.Happening.TheVariants.{Woke}

-- the first life, started with these words, where so many failures were counted before; and behind it lives of these terms
abbrev pub first_life : List Bytes → List Term → ℕ → Life
first_life words later base = record { terms = λ budget. record { words = words; faults = budget } ∷ later; base = base }

-- nothing is asked of it but its files, and that the log is told
abbrev pub FirstLivesWake : Type 0
FirstLivesWake = (words : List Bytes) (later : List Term) (budget : ℕ) (files : Files) (x : Outside) → is_rising (map (λ file. file.0) files) ≡ true → is_first_image files ≡ true → x.log ≡ Some (Woke files ∷ []) → Wakes (first_life words later x.faults) budget words files [] x

-- behind the log of the lives before it, or any front of that, where a crash cut it
abbrev pub LaterLivesWake : Type 0
LaterLivesWake = (life : Life) (budget : ℕ) (words : List Bytes) (files : Files) (before : Log) (x : Outside) (s : State) → Obeys (life.terms budget) s before → (s.phase ≡ Before → ⊥) → is_rising (map (λ file. file.0) files) ≡ true → IsLeftBehind before files
    → (term_in s.terms).words ≡ words → budget ≤ (term_in s.terms).faults → x.log ≡ Some (before ++ Woke files ∷ []) → top_of before ≤ x.top → life.base ≤ x.faults → Wakes life budget words files before x
