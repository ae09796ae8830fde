-- What a life came to that is to serve, and does not: memory was refused, its folder was not opened, or it may not listen; and its line was printed
-- (ours).
use Rattle.std.specs.Prelude.{◌≡◌, ◌≤◌, ◌⊎◌, ⊤, ℕ, true, false, List, Option, is_some, Ok, Err}
use Rattle.pp_conf.specs.Conf.{Settings}
use Rattle.pp_conf.specs.Words.{Serves, file_of, has_reading, reading_of}
use Rattle.pp_recover.specs.Faults.{CountsFailures}
use Rattle.pp_recover.specs.Looks.{Extends}
use Rattle.pp_recover.specs.Opening.{IsFresh}
use Rattle.pp_recover.specs.declared.faults.RecoverFault.{RecoverFault}
use Rattle.pp_recover.specs.declared.faults.RecoverFault.TheVariants.{DiskFault, OutOfMemory}
use Rattle.pp_shelf.specs.Opening.{Recovers}
use Rattle.pp_store.specs.Kept.{KeptMap}
use Rattle.pp_world.specs.Files.{Files}
use Rattle.pp_world.specs.Log.{Appends, AppendsAll, Rises}
use Rattle.pp_world.specs.declared.happening.Happening.TheVariants.{Listens, Printed}
use Rattle.pp_run.specs.Exits.{asked_for}
use Rattle.pp_run.specs.Lines.{no_disk_line, no_listener_line, no_memory_line}
use Rattle.pp_run.specs.Lives.{OpensFolder, Outside}
use Rattle.pp_run.specs.declared.ending.Exit.{Exit}
use Rattle.pp_run.specs.declared.ending.Exit.TheVariants.{Served, ServedAstray, Usage, NoMemory, NoDisk, NoListener, NoConfig}

-- ---- its steps

-- its line is printed
abbrev pub Prints : List ℕ → Outside → Outside → Type 0
Prints line x y = Appends x.log y.log (λ l. Printed line)

-- and no failure is counted down
pub record PrintsOn (line : List ℕ) (x y : Outside) : Type 0 where
  pub told : Prints line x y
  pub count : x.faults ≤ y.faults

-- the folder is not opened, for this reason; each failure meanwhile was counted
pub record LeavesFolder (root : List ℕ) (fault : RecoverFault) (x y : Outside) : Type 0 where
  pub recovers : Extends x.log y.log (λ before hs. (files : Files) → IsFresh files before → Recovers root (Err fault) files before hs)
  pub counted : Extends x.log y.log (CountsFailures x.faults y.faults)

-- it may not listen, and the count of faults rose
pub record MayNotListenOn (port : ℕ) (x y : Outside) : Type 0 where
  pub told : Appends x.log y.log (λ l. Listens port false)
  pub rises : Rises y.log x.faults y.faults

-- ---- all of it, of each exit

-- where it has its folder
abbrev pub ShutsAs : ℕ → Exit → Outside → Outside → Type 0
ShutsAs port NoListener x y = (shut : Outside) × MayNotListenOn port x shut × PrintsOn (no_listener_line port) shut y
ShutsAs port Served x y = ⊤
ShutsAs port ServedAstray x y = ⊤
ShutsAs port Usage x y = ⊤
ShutsAs port NoMemory x y = ⊤
ShutsAs port NoDisk x y = ⊤
ShutsAs port NoConfig x y = ⊤

-- from its settings on: memory may be refused before its folder is used
abbrev pub BreaksOff : List ℕ → ℕ → Exit → Outside → Outside → Type 0
BreaksOff root port NoMemory x y = Prints no_memory_line x y ⊎ ((opened : Outside) × LeavesFolder root OutOfMemory x opened × PrintsOn no_memory_line opened y)
BreaksOff root port NoDisk x y = (opened : Outside) × LeavesFolder root DiskFault x opened × PrintsOn no_disk_line opened y
BreaksOff root port NoListener x y = (shelf : KeptMap) × (opened : Outside) × OpensFolder root shelf x opened × ShutsAs port NoListener opened y
BreaksOff root port Served x y = ⊤
BreaksOff root port ServedAstray x y = ⊤
BreaksOff root port Usage x y = ⊤
BreaksOff root port NoConfig x y = ⊤

-- they have settings, with the text of FILE
abbrev pub HasBroken : List (List ℕ) → Option (List ℕ) → Exit → Outside → Outside → Type 0
HasBroken words text exit x y = (c : Settings) × (reading_of words text ≡ Ok (Serves c)) × BreaksOff c.root c.port exit x y

-- from its words and that text; memory may be refused as they are read, or in the demo
abbrev pub BreaksWith : List (List ℕ) → Option (List ℕ) → Exit → Outside → Outside → Type 0
BreaksWith words text NoMemory x y = Prints no_memory_line x y ⊎ HasBroken words text NoMemory x y
BreaksWith words text NoDisk x y = HasBroken words text NoDisk x y
BreaksWith words text NoListener x y = HasBroken words text NoListener x y
BreaksWith words text Served x y = ⊤
BreaksWith words text ServedAstray x y = ⊤
BreaksWith words text Usage x y = ⊤
BreaksWith words text NoConfig x y = ⊤

-- from its words alone, which have a reading: FILE is asked for where they name one
pub record HasAsked (words : List (List ℕ)) (exit : Exit) (x y : Outside) : Type 0 where
  pub reads : has_reading words ≡ true
  pub text : Option (List ℕ)
  pub named : is_some text ≡ is_some (file_of words)
  pub asked : Outside
  pub asks : AppendsAll x.log asked.log (λ l. asked_for (file_of words) text)
  pub count : x.faults ≤ asked.faults
  pub breaks : BreaksWith words text exit asked y

-- or memory was refused before
abbrev pub BreaksAs : List (List ℕ) → Exit → Outside → Outside → Type 0
BreaksAs words NoMemory x y = Prints no_memory_line x y ⊎ HasAsked words NoMemory x y
BreaksAs words NoDisk x y = HasAsked words NoDisk x y
BreaksAs words NoListener x y = HasAsked words NoListener x y
BreaksAs words Served x y = ⊤
BreaksAs words ServedAstray x y = ⊤
BreaksAs words Usage x y = ⊤
BreaksAs words NoConfig x y = ⊤
