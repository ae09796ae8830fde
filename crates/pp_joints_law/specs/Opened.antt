-- A life begins: from its first happening on the log goes on as by the law, and at its first wait all stands that a turn begins with, and all
-- that a wait rests on (ours). One that does not come to serve prints a line, as it may.
--
-- Where the premises come from, of Lives of `pp_run`: `HasServed` and `HasRead` have what words and text say, `OpensFolder` what the log gets
-- as the folder is opened, with each failure of the outside counted, and the shelf, and `HasLived` what the proxy has then. So it is afforded
-- (`openings_are_counted` of `pp_turn_law`). A folder has no more names than are looked at, as the law permits no other at its Woke (`served_lives_are_lawful` there). What a crash
-- leaves of the log it leaves of the law's disk, also of names that could not be read (`crashes_leave_the_disk` there).
use Rattle.std.specs.Global.{Global}
use Rattle.std.specs.List.{All, list_all}
use Rattle.std.specs.Prelude.{◌≡◌, ◌≤◌, ℕ, true, false, map, take, is_some, List, [], ◌∷◌, ◌++◌, Option, Some, None, Ok, Err, String, string_bytes}
use Rattle.std.specs.Str.{is_utf8}
use Rattle.pp_cache_law.specs.Outdated.{AreNoted}
use Rattle.pp_conf.specs.Conf.{Settings}
use Rattle.pp_conf.specs.Shown.{shown_conf}
use Rattle.pp_conf.specs.Words.{Serves, file_of, has_reading, reading_of}
use Rattle.pp_conf.specs.declared.conf.Conf.{Conf}
use Rattle.pp_desk.specs.Opening.{IsNew}
use Rattle.pp_desk.specs.declared.desk.Desk.{Desk}
use Rattle.pp_joints_law.specs.Awaiting.{AwaitsEvent}
use Rattle.pp_joints_law.specs.Carried.{IsCarried}
use Rattle.pp_keeps_law.specs.Stands.{HasOpenNames, IsShort}
use Rattle.pp_law.specs.Entries.{entries_in}
use Rattle.pp_law.specs.Lists.{Bytes}
use Rattle.pp_law.specs.Opening.{is_opening, term_in, woken}
use Rattle.pp_law.specs.Permits.{IsPermitted}
use Rattle.pp_law.specs.Phases.{ending}
use Rattle.pp_law.specs.State.{State, Phase, Term, Before, IsConfigured, IsListening}
use Rattle.pp_law.specs.Turn.{rest_with}
use Rattle.pp_obeys.specs.Moves.{MovesAll}
use Rattle.pp_obeys.specs.Obeys.{Obeys}
use Rattle.pp_opening_law.specs.Openings.{IsUnused}
use Rattle.pp_proxy.specs.Awaiting.{Awaits, Rests}
use Rattle.pp_proxy.specs.Moving.{Moving, moving, with_desk}
use Rattle.pp_proxy.specs.Opening.{IsOpened}
use Rattle.pp_proxy.specs.declared.proxy.Proxy.{Proxy}
use Rattle.pp_recover.specs.Image.{HasFewNames}
use Rattle.pp_recover.specs.Looks.{Extends}
use Rattle.pp_recover.specs.Opening.{IsFresh, store_in}
use Rattle.pp_recover.specs.declared.faults.RecoverFault.{RecoverFault}
use Rattle.pp_rounds_law.specs.Coming.{Affords, ComesWhere}
use Rattle.pp_shelf.specs.Opening.{Recovers}
use Rattle.pp_shelf_law.specs.AsKept.{EachIsAsKept}
use Rattle.pp_shelf_law.specs.Folder.{disk_of}
use Rattle.pp_shelf_law.specs.Shelf.{ShowsShelf}
use Rattle.pp_store.specs.Kept.{KeptMap}
use Rattle.pp_waits_law.specs.Asleep.{WereRead}
use Rattle.pp_waits_law.specs.Good.{MayReadAndAsk}
use Rattle.pp_waits_law.specs.Waits.{HasWaited, MayWait}
use Rattle.pp_world.specs.Connections.{top_of}
use Rattle.pp_world.specs.Disk.{IsLeftBehind, is_rising}
use Rattle.pp_world.specs.Files.{Files}
use Rattle.pp_world.specs.Log.{Appends, AppendsAll, Log}
use Rattle.pp_world.specs.declared.event.Wants.{Wants}
use Rattle.pp_world.specs.declared.happening.Happening.TheVariants.{Configured, Listens, Printed, Waits, Woke}

-- ---- it wakes

-- behind any other life, with files that a crash may leave of the law's disk, which is the log's (Folder of `pp_shelf_law`)
abbrev pub CrashesMayCome : Type 0
CrashesMayCome = (s : State) (image : Files) → (s.phase ≡ Before → ⊥) → is_rising (map (λ file. file.0) image) ≡ true → IsLeftBehind s.disk image → IsPermitted s (Woke image)

-- ---- words

-- they ask to serve with these settings, where FILE has this text; each word is UTF-8, as each String is
pub record HasSettings (words : List Bytes) (text : Option Bytes) (c : Settings) : Type 0 where
  pub texts : list_all is_utf8 words ≡ true
  pub named : is_some text ≡ is_some (file_of words)
  pub says : reading_of words text ≡ Ok (Serves c)

-- so `run` of `pp_run` has them
abbrev pub StringsAreTexts : Type 0
StringsAreTexts = (words : List (String Global)) → list_all is_utf8 (map string_bytes words) ≡ true

-- FILE is asked for where the words name one (Exits of `pp_run`)
abbrev pub asked_for : Option Bytes → Option Bytes → Log
asked_for None text = []
asked_for (Some file) text = Configured file text ∷ []

-- a life that has these settings, in this phase of its opening: nothing is under way, no clock ticked, no draft was lost, and no number was
-- given
pub record IsOpening (p : Phase) (c : Settings) (given : ℕ) (s : State) : Type 0 where
  pub at : s.phase ≡ p
  pub settings : s.settings ≡ c
  pub run : c.disk_run ≤ 64
  pub none : s.made_room_for ≡ None
  pub idle : s.under_way ≡ None
  pub done : s.agenda.todo ≡ []
  pub displaced : s.displaced ≡ []
  pub lost : s.has_lost_draft ≡ false
  pub ticked : s.has_ticked ≡ false
  pub top : s.top ≡ given

-- it knows the entries of the folder, and has changed nothing
pub record StandsConfigured (c : Settings) (files : Files) (given : ℕ) (s : State) : Type 0 where
  pub opens : IsOpening IsConfigured c given s
  pub entries : s.entries ≡ entries_in files
  pub closed : s.closed_names ≡ []
  pub disk : s.disk ≡ Woke files ∷ []

-- from its first happening on
abbrev pub WordsLead : Type 0
WordsLead = (words : List Bytes) (text : Option Bytes) (c : Settings) (files : Files) (s : State) → HasSettings words text c → (term_in s.terms).words ≡ words → MovesAll (StandsConfigured c files s.top) (asked_for (file_of words) text) (woken files s)

-- ---- the folder

-- each row of the store that recovery makes is short: no other is read
abbrev pub OpenedRowsAreShort : Type 0
OpenedRowsAreShort = (files : Files) (log : Log) → All IsShort (store_in files log).rows

-- the life listens, and the shelf shows the law's entries, none of which is stale or has a closed name
pub record StandsListening (c : Settings) (shelf : KeptMap) (given : ℕ) (s : State) : Type 0 where
  pub opens : IsOpening IsListening c given s
  pub shows : ShowsShelf shelf s
  pub noted : AreNoted [] s.displaced s.entries
  pub names : HasOpenNames s
  pub short : All IsShort shelf.rows
  pub kept : EachIsAsKept shelf

-- the folder is used and listed, each of its names is looked at, where stray gates are closed, and the life listens
abbrev pub FoldersLead : Type 0
FoldersLead = (c : Settings) (files : Files) (shelf : KeptMap) (given : ℕ) (log hs : Log) (s : State) → is_rising (map (λ file. file.0) files) ≡ true → HasFewNames files → IsFresh files log → disk_of log ≡ Woke files ∷ []
    → Recovers c.root (Ok shelf) files log hs → StandsConfigured c files given s → MovesAll (StandsListening c shelf given) (hs ++ Listens c.port true ∷ []) s

-- ---- from its first happening to its first wait

-- the log goes on so, behind each log that obeys the law, where the outside may fail so often as it did
abbrev pub LivesBegin : Type 0
LivesBegin = (terms : List Term) (before : Log) (s : State) (words : List Bytes) (text : Option Bytes) (c : Settings) (files : Files) (shelf : KeptMap) (hs : Log) → Obeys terms s before → IsPermitted s (Woke files) → (term_in s.terms).words ≡ words → HasSettings words text c
    → HasFewNames files → Recovers c.root (Ok shelf) files ((before ++ Woke files ∷ []) ++ asked_for (file_of words) text) hs → Affords (woken files s) (asked_for (file_of words) text ++ (hs ++ Listens c.port true ∷ []))
    → ComesWhere (StandsListening c shelf s.top) terms (before ++ Woke files ∷ []) (asked_for (file_of words) text ++ (hs ++ Listens c.port true ∷ [])) (woken files s)

-- so is a log that is told where the life listens, of what `run` has of its calls: FILE was asked for, then the folder was opened
pub record HasListened (terms : List Term) (front : Log) (c : Settings) (shelf : KeptMap) (given : ℕ) (s : State) (log : Log) : Type 0 where
  pub added : Log
  pub is : log ≡ front ++ added
  pub comes : ComesWhere (StandsListening c shelf given) terms front added s

abbrev pub ToldLivesBegin : Type 0
ToldLivesBegin = (terms : List Term) (before log : Log) (s : State) (words : List Bytes) (text : Option Bytes) (c : Settings) (files : Files) (shelf : KeptMap) (old asked opened new : Option Log) → Obeys terms s before → IsPermitted s (Woke files) → (term_in s.terms).words ≡ words
    → HasSettings words text c → HasFewNames files → old ≡ Some (before ++ Woke files ∷ []) → AppendsAll old asked (λ l. asked_for (file_of words) text) → Extends asked opened (λ k hs. (image : Files) → IsFresh image k → Recovers c.root (Ok shelf) image k hs)
    → Appends opened new (λ l. Listens c.port true) → new ≡ Some log → ((added : Log) → log ≡ (before ++ Woke files ∷ []) ++ added → Affords (woken files s) added) → HasListened terms (before ++ Woke files ∷ []) c shelf s.top (woken files s) log

-- ---- a life that does not come to serve

-- it is in its opening still, or stuck there
pub record StillOpens (s : State) : Type 0 where
  pub opens : is_opening s ≡ true
  pub none : s.made_room_for ≡ None

-- whatever its words say, where FILE is asked for alone where they have a reading
abbrev pub WordsMayBreakOff : Type 0
WordsMayBreakOff = (words : List Bytes) (text : Option Bytes) (files : Files) (s : State) → list_all is_utf8 words ≡ true → (is_some (file_of words) ≡ true → has_reading words ≡ true) → (term_in s.terms).words ≡ words → MovesAll StillOpens (asked_for (file_of words) text) (woken files s)

-- the folder cannot be listed, or memory is refused before it is, or behind some of its names
abbrev pub FoldersMayBreakOff : Type 0
FoldersMayBreakOff = (c : Settings) (files : Files) (fault : RecoverFault) (given : ℕ) (log hs : Log) (s : State) → is_rising (map (λ file. file.0) files) ≡ true → HasFewNames files → IsFresh files log → disk_of log ≡ Woke files ∷ []
    → Recovers c.root (Err fault) files log hs → StandsConfigured c files given s → MovesAll StillOpens hs s

-- or it may not listen
abbrev pub DoorsMayStayShut : Type 0
DoorsMayStayShut = (c : Settings) (files : Files) (shelf : KeptMap) (given : ℕ) (log hs : Log) (s : State) → is_rising (map (λ file. file.0) files) ≡ true → HasFewNames files → IsFresh files log → disk_of log ≡ Woke files ∷ []
    → Recovers c.root (Ok shelf) files log hs → StandsConfigured c files given s → MovesAll StillOpens (hs ++ Listens c.port false ∷ []) s

-- then its line is printed, and the log obeys the law
abbrev pub LivesMayBreakOff : Type 0
LivesMayBreakOff = (terms : List Term) (before : Log) (s : State) (files : Files) (added : Log) (line : Bytes) → Obeys terms s before → IsPermitted s (Woke files) → MovesAll StillOpens added (woken files s) → Affords (woken files s) (added ++ Printed line ∷ [])
    → ComesWhere StillOpens terms (before ++ Woke files ∷ []) (added ++ Printed line ∷ []) (woken files s)

-- ---- at the first wait

abbrev pub at_first : Proxy → ℕ → Moving
at_first p top = moving p.desk p.links top

-- of a proxy with the settings of this life, beside a log that obeys the law; the world gave no number below the law's
pub record BeginsWith (terms : List Term) (log : Log) (conf : Conf) (p : Proxy) (shelf : KeptMap) (greatest : ℕ) (s : State) : Type 0 where
  pub obeys : Obeys terms s log
  pub opened : IsOpened conf p
  pub given : ℕ
  pub stands : StandsListening (shown_conf conf) shelf given s
  pub top : given ≤ greatest

-- so it does where the life listens
abbrev pub ListenedOnesBegin : Type 0
ListenedOnesBegin = (terms : List Term) (front log : Log) (conf : Conf) (p : Proxy) (shelf : KeptMap) (given top : ℕ) (s : State) (it : HasListened terms front (shown_conf conf) shelf given s log) → IsOpened conf p → given ≤ top → BeginsWith terms log conf p shelf top it.comes.then

-- the law knows of no greater number than was given, over all lives: where the world goes on above those, as that of a life behind a crash
-- (Crash of `pp_memworld`), it gives none below
abbrev pub TopsAreTheLogs : Type 0
TopsAreTheLogs = (terms : List Term) (s : State) (log : Log) → Obeys terms s log → s.top ≤ top_of log

-- all that is carried from wait to wait stands there
abbrev pub OpenedOnesAreCarried : Type 0
OpenedOnesAreCarried = (terms : List Term) (log : Log) (conf : Conf) (p : Proxy) (shelf : KeptMap) (top : ℕ) (s : State) → BeginsWith terms log conf p shelf top s → IsCarried shelf (at_first p top) s

-- no turn ends there, and no reply begins
abbrev pub OpeningsEndAsTheyAre : Type 0
OpeningsEndAsTheyAre = (terms : List Term) (log : Log) (s : State) → Obeys terms s log → s.phase ≡ IsListening → ending s ≡ s

-- nobody was read, and by any map of numbers the life may wait, by the wants that are written then
pub record MayWaitFirst (number : ℕ → ℕ) (w : Wants) (d : Desk) (s : State) : Type 0 where
  pub read : MayReadAndAsk number [] d (ending s)
  pub waits : MayWait number [] w d s

abbrev pub OpenedOnesMayWait : Type 0
OpenedOnesMayWait = (terms : List Term) (log : Log) (conf : Conf) (p : Proxy) (shelf : KeptMap) (top : ℕ) (s : State) (number : ℕ → ℕ) (w : Wants) (clients : ℕ) (e : Desk) → BeginsWith terms log conf p shelf top s → Awaits [] w clients p.desk e → MayWaitFirst number w p.desk s

-- behind the wait the log goes on, and the first turn begins with all that each begins with; nobody is there yet, and nothing is in memory
pub record HasBegun (terms : List Term) (log : Log) (conf : Conf) (number : ℕ → ℕ) (w : Wants) (clients : ℕ) (shelf : KeptMap) (x : Moving) (f : Desk) (s : State) : Type 0 where
  pub waited : HasWaited number w x.desk f s
  pub obeys : Obeys terms (rest_with w (ending s)) (log ++ Waits w ∷ [])
  pub carried : IsCarried shelf (with_desk f x) (rest_with w (ending s))
  pub awaits : AwaitsEvent number (with_desk f x) (rest_with w (ending s))
  pub read : WereRead (take clients w.read.items) f.state
  pub new : IsNew conf f.state
  pub alone : f.peers ≡ []
  pub unused : IsUnused (rest_with w (ending s))

abbrev pub FirstTurnsBegin : Type 0
FirstTurnsBegin = (terms : List Term) (log : Log) (conf : Conf) (p : Proxy) (shelf : KeptMap) (top : ℕ) (s : State) (number : ℕ → ℕ) (w : Wants) (clients : ℕ) (e f : Desk) → BeginsWith terms log conf p shelf top s → Awaits [] w clients p.desk e → Rests w clients e f
    → HasBegun terms log conf number w clients shelf (at_first p top) f s
