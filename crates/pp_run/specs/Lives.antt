-- What a life that served came to, from its words on: its settings, its proxy, its folder, and each of its turns (ours).
use Rattle.std.specs.Prelude.{◌≡◌, ◌≤◌, ℕ, Bool, true, false, ◌&&◌, List, Option, is_some, Ok}
use Rattle.pp_conf.specs.Shown.{shown_conf}
use Rattle.pp_conf.specs.Words.{Serves, file_of, reading_of}
use Rattle.pp_conf.specs.declared.conf.Conf.{Conf}
use Rattle.pp_proxy.specs.Awaiting.{Standing, standing}
use Rattle.pp_proxy.specs.Opening.{IsOpened}
use Rattle.pp_proxy.specs.declared.proxy.Proxy.{Proxy}
use Rattle.pp_recover.specs.Faults.{CountsFailures}
use Rattle.pp_recover.specs.Looks.{Extends}
use Rattle.pp_recover.specs.Opening.{IsFresh}
use Rattle.pp_shelf.specs.Opening.{OpensAs, Recovers}
use Rattle.pp_store.specs.Kept.{KeptMap}
use Rattle.pp_world.specs.Files.{Files}
use Rattle.pp_world.specs.Log.{Log, Appends, AppendsAll}
use Rattle.pp_world.specs.declared.happening.Happening.TheVariants.{Listens}
use Rattle.pp_run.specs.Exits.{asked_for, asks_to_serve, served_as}
use Rattle.pp_run.specs.Serving.{TurnsUpTo}
use Rattle.pp_run.specs.declared.ending.Exit.{Exit}
use Rattle.pp_run.specs.declared.ending.Exit.TheVariants.{Served, ServedAstray, Usage, NoMemory, NoDisk, NoListener, NoConfig}

-- ---- the outside

-- its log, the greatest number that it gave, and its faults
pub record Outside : Type 0 where
  pub log : Option Log
  pub top : ℕ
  pub faults : ℕ

abbrev pub outside : Option Log → ℕ → ℕ → Outside
outside log top faults = record { log = log; top = top; faults = faults }

-- it gave no number, and counted none down
pub record GoesBy (x y : Outside) : Type 0 where
  pub top : y.top ≡ x.top
  pub count : x.faults ≤ y.faults

-- ---- its steps

-- the folder is opened, and this is what is kept in it; each failure meanwhile was counted
pub record OpensFolder (root : List ℕ) (shelf : KeptMap) (x y : Outside) : Type 0 where
  pub opens : OpensAs root (Ok shelf) x.log y.log
  pub recovers : Extends x.log y.log (λ before hs. (files : Files) → IsFresh files before → Recovers root (Ok shelf) files before hs)
  pub counted : Extends x.log y.log (CountsFailures x.faults y.faults)
  pub by : GoesBy x y

pub record ListensOn (port : ℕ) (x y : Outside) : Type 0 where
  pub told : Appends x.log y.log (λ l. Listens port true)
  pub by : GoesBy x y

abbrev pub standing_at : KeptMap → Proxy → Outside → Standing
standing_at shelf p x = standing shelf p x.top x.log x.faults

-- it listens, and then makes turns until the world stops one, or so many; the exit tells whether it went astray
pub record ListensAndTurns (port most_turns : ℕ) (exit : Exit) (shelf left : KeptMap) (first last : Proxy) (x y : Outside) : Type 0 where
  pub listening : Outside
  pub listens : ListensOn port x listening
  pub turns : TurnsUpTo most_turns (standing_at shelf first listening) (standing_at left last y)
  pub exit_is : exit ≡ served_as last.desk.state.is_astray

-- ---- all of it

-- from its settings on
pub record HasLived (conf : Conf) (exit : Exit) (x y : Outside) : Type 0 where
  pub shelf : KeptMap
  pub left : KeptMap
  pub first : Proxy
  pub last : Proxy
  pub opened : Outside
  pub is_opened : IsOpened conf first
  pub opens : OpensFolder conf.root shelf x opened
  pub goes : ListensAndTurns conf.port conf.max_turns exit shelf left first last opened y

-- from its words and the text of FILE
pub record HasRead (words : List (List ℕ)) (text : Option (List ℕ)) (exit : Exit) (x y : Outside) : Type 0 where
  pub conf : Conf
  pub says : reading_of words text ≡ Ok (Serves (shown_conf conf))
  pub lived : HasLived conf exit x y

-- from its words alone: FILE is asked for where they name one
pub record HasServed (words : List (List ℕ)) (exit : Exit) (x y : Outside) : Type 0 where
  pub text : Option (List ℕ)
  pub named : is_some text ≡ is_some (file_of words)
  pub asked : Outside
  pub asks : AppendsAll x.log asked.log (λ l. asked_for (file_of words) text)
  pub by : GoesBy x asked
  pub read : HasRead words text exit asked y

-- ---- of which exits

abbrev pub has_served : Exit → Bool
has_served Served = true
has_served ServedAstray = true
has_served Usage = false
has_served NoMemory = false
has_served NoDisk = false
has_served NoListener = false
has_served NoConfig = false

abbrev pub Serving : Exit → Type 0 → Type 0
Serving exit P = has_served exit ≡ true → P

-- the demo serves in a world of its own
abbrev pub ServingBy : List (List ℕ) → Exit → Type 0 → Type 0
ServingBy words exit P = (asks_to_serve words && has_served exit) ≡ true → P
