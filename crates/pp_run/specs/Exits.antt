-- When each exit comes, and what a told log gained by then.
use Rattle.std.specs.Prelude.{◌≡◌, ◌⊎◌, ⊤, true, false, ℕ, Bool, ◌&&◌, not, List, [], ◌∷◌, ◌++◌, Option, Some, None, is_some, Ok, Err}
use Rattle.pp_world.specs.declared.happening.Happening.TheVariants.{Configured, Listed, Listens, Printed, Rooted}
use Rattle.pp_world.specs.Log.{Log, AppendsAll, Rises}
use Rattle.pp_conf.specs.declared.fault.ConfFault.{ConfFault}
use Rattle.pp_conf.specs.declared.fault.ConfFault.TheVariants.{Usage as IsUsage, TooLong, BadLine, BadValue, OutOfMemory}
use Rattle.pp_conf.specs.Conf.{Settings}
use Rattle.pp_conf.specs.Words.{Serves, ShowsDemo, file_of, has_reading, reading_of, seed_of}
use Rattle.pp_conf.specs.Shown.{Answers}
use Rattle.pp_demo.specs.Summary.{summary_text}
use Rattle.pp_demo.specs.declared.summary.Summary.{Summary}
use Rattle.pp_links.specs.Quiet.{GrowsBy}
use Rattle.pp_shelf.specs.Steady.{IsOnDisk}
use Rattle.pp_shelf.specs.Opening.{MayBeListed}
use Rattle.pp_run.specs.Serving.{GoesUpTo}
use Rattle.pp_run.specs.Lines.{fault_line, no_disk_line, no_listener_line, no_memory_line, unread_line, usage_line}
use Rattle.pp_run.specs.declared.ending.Exit.{Exit}
use Rattle.pp_run.specs.declared.ending.Exit.TheVariants.{Served, ServedAstray, Usage, NoMemory, NoDisk, NoListener, NoConfig}

-- ours: the statuses of the process
abbrev pub status_of : Exit → ℕ
status_of Served = 0
status_of ServedAstray = 0
status_of Usage = 2
status_of NoMemory = 3
status_of NoDisk = 4
status_of NoListener = 5
status_of NoConfig = 6

-- which exit a fault of words and text is
abbrev pub exit_of : ConfFault → Exit
exit_of IsUsage = Usage
exit_of TooLong = NoConfig
exit_of (BadLine k) = NoConfig
exit_of (BadValue s) = NoConfig
exit_of OutOfMemory = NoMemory

-- the words have a reading, and not with a seed, which asks for the demo
abbrev pub asks_to_serve : List (List ℕ) → Bool
asks_to_serve words = has_reading words && not (is_some (seed_of words))

-- Usage exactly where the words have no reading, want of memory aside; and only who asks to serve wants a file, a folder or a port
abbrev pub JudgesWords : List (List ℕ) → Exit → Type 0
JudgesWords words Usage = has_reading words ≡ false
JudgesWords words NoMemory = ⊤
JudgesWords words Served = has_reading words ≡ true
JudgesWords words ServedAstray = asks_to_serve words ≡ true
JudgesWords words NoDisk = asks_to_serve words ≡ true
JudgesWords words NoListener = asks_to_serve words ≡ true
JudgesWords words NoConfig = asks_to_serve words ≡ true

-- FILE is asked for where the words name one; None: it could not be read
abbrev pub asked_for : Option (List ℕ) → Option (List ℕ) → Log
asked_for None text = []
asked_for (Some file) text = Configured file text ∷ []

-- the folder was used and listed, and behind that stray gates were closed, and files may have stayed unread
abbrev pub IsOpening : List ℕ → Log → Type 0
IsOpening root hs = (repairs : Log) × (hs ≡ Rooted root ∷ Listed true ∷ repairs) × IsOnDisk repairs

-- it opened its folder, and then this came
abbrev pub OpensAnd : List ℕ → (Log → Type 0) → Log → Type 0
OpensAnd root P log = (opening rest : Log) × IsOpening root opening × (log ≡ opening ++ rest) × P rest

-- it listened on this port, and then made turns until the world stopped one, or so many; so nothing was printed
abbrev pub ListensAndGoes : ℕ → ℕ → Log → Type 0
ListensAndGoes port most_turns log = (turns : Log) × (log ≡ Listens port true ∷ turns) × GoesUpTo most_turns turns

-- whether the proxy went astray meanwhile: memory was refused for what the law knows, or a loop ended at its bound
abbrev pub served_as : Bool → Exit
served_as false = Served
served_as true = ServedAstray

-- it may not listen on this port, and nothing follows but the line
abbrev pub MayNot : ℕ → Log → Type 0
MayNot port log = log ≡ Listens port false ∷ Printed (no_listener_line port) ∷ []

-- how a run ends that has its folder
abbrev pub ListensAs : ℕ → ℕ → Exit → Option Log → Option Log → ℕ → ℕ → Type 0
ListensAs port most_turns Served old new before now = GrowsBy [] (ListensAndGoes port most_turns) old new
ListensAs port most_turns ServedAstray old new before now = GrowsBy [] (ListensAndGoes port most_turns) old new
ListensAs port most_turns NoListener old new before now = GrowsBy [] (MayNot port) old new × Rises new before now
ListensAs port most_turns NoMemory old new before now = ⊥
ListensAs port most_turns Usage old new before now = ⊥
ListensAs port most_turns NoDisk old new before now = ⊥
ListensAs port most_turns NoConfig old new before now = ⊥

abbrev pub ServesOn : Log → List ℕ → ℕ → ℕ → Option Log → Option Log → Type 0
ServesOn asked root port most_turns old new = GrowsBy asked (OpensAnd root (ListensAndGoes port most_turns)) old new

pub record MayNotListen (asked : Log) (root : List ℕ) (port : ℕ) (old new : Option Log) (before now : ℕ) : Type 0 where
  pub rises : Rises new before now
  pub told : GrowsBy asked (OpensAnd root (MayNot port)) old new

-- the folder could not be listed, and nothing follows but the line
pub record HasNoDisk (asked : Log) (root : List ℕ) (old new : Option Log) (before now : ℕ) : Type 0 where
  pub rises : Rises new before now
  pub told : GrowsBy asked (λ log. log ≡ Rooted root ∷ Listed false ∷ Printed no_disk_line ∷ []) old new

-- memory was refused, before the folder was used, before it was listed or behind that, and nothing follows but the line
abbrev pub MayHaveOpened : List ℕ → Log → Type 0
MayHaveOpened root log = (log ≡ []) ⊎ ((rest : Log) × (log ≡ Rooted root ∷ rest) × MayBeListed rest)

abbrev pub WantsMemory : Log → List ℕ → Option Log → Option Log → Type 0
WantsMemory asked root old new = GrowsBy asked (λ log. (opening : Log) × (log ≡ opening ++ Printed no_memory_line ∷ []) × MayHaveOpened root opening) old new

-- how a run ends that has its settings
abbrev pub OpensOn : Log → List ℕ → ℕ → ℕ → Exit → Option Log → Option Log → ℕ → ℕ → Type 0
OpensOn asked root port most_turns Served old new before now = ServesOn asked root port most_turns old new
OpensOn asked root port most_turns ServedAstray old new before now = ServesOn asked root port most_turns old new
OpensOn asked root port most_turns NoListener old new before now = MayNotListen asked root port old new before now
OpensOn asked root port most_turns NoDisk old new before now = HasNoDisk asked root old new before now
OpensOn asked root port most_turns NoMemory old new before now = WantsMemory asked root old new
OpensOn asked root port most_turns Usage old new before now = ⊥
OpensOn asked root port most_turns NoConfig old new before now = ⊥

-- words and text have this fault, and nothing follows but its line
pub record IsRefused (asked : Log) (words : List (List ℕ)) (text : Option (List ℕ)) (fault : ConfFault) (old new : Option Log) : Type 0 where
  pub says : Answers (Err fault) (reading_of words text)
  pub told : AppendsAll old new (λ l. asked ++ Printed (fault_line fault) ∷ [])

-- FILE could not be read, and nothing follows but the line
pub record IsUnread (words : List (List ℕ)) (old new : Option Log) (before now : ℕ) : Type 0 where
  pub named : is_some (file_of words) ≡ true
  pub rises : Rises new before now
  pub told : AppendsAll old new (λ l. asked_for (file_of words) None ++ Printed unread_line ∷ [])

-- how a run ends whose settings are read with this text
abbrev pub WithSettings : Log → List (List ℕ) → Option (List ℕ) → Exit → Option Log → Option Log → ℕ → ℕ → Type 0
WithSettings asked words text exit old new before now =
    (c : Settings) × (reading_of words text ≡ Ok (Serves c)) × OpensOn asked c.root c.port c.max_turns exit old new before now

-- the words ask for the demo, and nothing happens but that the five lines of a summary are printed
pub record IsShown (asked : Log) (words : List (List ℕ)) (text : Option (List ℕ)) (old new : Option Log) : Type 0 where
  pub seed : ℕ
  pub says : reading_of words text ≡ Ok (ShowsDemo seed)
  pub summary : Summary
  pub told : AppendsAll old new (λ l. asked ++ Printed (summary_text summary) ∷ [])

-- how a demo ends
abbrev pub ShowsAs : Exit → Option Log → Option Log → Type 0
ShowsAs Served old new = (summary : Summary) × AppendsAll old new (λ l. Printed (summary_text summary) ∷ [])
ShowsAs ServedAstray old new = ⊥
ShowsAs NoMemory old new = AppendsAll old new (λ l. Printed no_memory_line ∷ [])
ShowsAs Usage old new = ⊥
ShowsAs NoDisk old new = ⊥
ShowsAs NoListener old new = ⊥
ShowsAs NoConfig old new = ⊥

abbrev pub StartsAs : Log → List (List ℕ) → Option (List ℕ) → Exit → Option Log → Option Log → ℕ → ℕ → Type 0
StartsAs asked words text Served old new before now = WithSettings asked words text Served old new before now ⊎ IsShown asked words text old new
StartsAs asked words text ServedAstray old new before now = WithSettings asked words text ServedAstray old new before now
StartsAs asked words text NoListener old new before now = WithSettings asked words text NoListener old new before now
StartsAs asked words text NoDisk old new before now = WithSettings asked words text NoDisk old new before now
StartsAs asked words text NoConfig old new before now = (fault : ConfFault) × (exit_of fault ≡ NoConfig) × IsRefused asked words text fault old new
StartsAs asked words text NoMemory old new before now = AppendsAll old new (λ l. asked ++ Printed no_memory_line ∷ []) ⊎ WithSettings asked words text NoMemory old new before now
StartsAs asked words text Usage old new before now = AppendsAll old new (λ l. asked ++ Printed usage_line ∷ [])

-- the same with the text of FILE, or with none where the words name none
abbrev pub StartsWith : List (List ℕ) → Exit → Option Log → Option Log → ℕ → ℕ → Type 0
StartsWith words exit old new before now =
    (text : Option (List ℕ)) × (is_some text ≡ is_some (file_of words)) × StartsAs (asked_for (file_of words) text) words text exit old new before now

-- ours: each exit but those of serving prints its one line, and nothing happens behind it; they print nothing but for the demo
abbrev pub EndsAs : List (List ℕ) → Exit → Option Log → Option Log → ℕ → ℕ → Type 0
EndsAs words Served old new before now = StartsWith words Served old new before now
EndsAs words ServedAstray old new before now = StartsWith words ServedAstray old new before now
EndsAs words NoListener old new before now = StartsWith words NoListener old new before now
EndsAs words NoConfig old new before now = IsUnread words old new before now ⊎ StartsWith words NoConfig old new before now
EndsAs words NoMemory old new before now = AppendsAll old new (λ l. Printed no_memory_line ∷ []) ⊎ StartsWith words NoMemory old new before now
EndsAs words Usage old new before now = AppendsAll old new (λ l. Printed usage_line ∷ [])
EndsAs words NoDisk old new before now = StartsWith words NoDisk old new before now
