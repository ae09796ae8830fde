-- What the program's own types show.
use Rattle.std.specs.Prelude.{◌≡◌, ◌++◌, ℕ, ◌+◌, List, [], length, map, Bool, true, false, Option, Some, None, String, string_bytes, Result, Ok, Err}
use Rattle.std.specs.Borrow.{Bor}
use Rattle.clap.specs.Walk.{Text}
use Rattle.pp_text.specs.Numbers.{number_of}
use Rattle.pp_conf.specs.Addresses.{ranges_of}
use Rattle.pp_conf.specs.Conf.{Assignment, Settings}
use Rattle.pp_conf.specs.declared.setting.Setting.{Setting}
use Rattle.pp_conf.specs.declared.command.Line.{Line}
use Rattle.pp_conf.specs.Text.{lines_of, Said as Meaning, Nothing as SaysNothing, Unknown as NotKnown, Assigns as Sets}
use Rattle.pp_conf.specs.declared.text.Said.{Said}
use Rattle.pp_conf.specs.declared.text.Said.TheVariants.{Nothing, Unknown, Assigns}
use Rattle.pp_conf.specs.Words.{has_reading, file_of, seed_of, word_assignments, Told, Serves, ShowsDemo, Refusal, NoReading, TooLong, NotUnderstood, OutOfRange}
use Rattle.pp_conf.specs.declared.assignments.Assignment.{Assignment as Held}
use Rattle.pp_conf.specs.declared.conf.Conf.{Conf}
use Rattle.pp_conf.specs.declared.conf.Draft.{Draft}
use Rattle.pp_conf.specs.declared.read.Command.{Command}
use Rattle.pp_conf.specs.declared.read.Command.TheVariants.{Serve, Demo}
use Rattle.pp_conf.specs.declared.fault.ConfFault.{ConfFault}
use Rattle.pp_conf.specs.declared.fault.ConfFault.TheVariants.{Usage, TooLong as IsTooLong, BadLine, BadValue, OutOfMemory}

abbrev pub shown_assignment : Held → Assignment
shown_assignment a = (a.setting, a.value.now)

abbrev pub shown_said : Said → Meaning
shown_said Nothing = SaysNothing
shown_said Unknown = NotKnown
shown_said (Assigns a) = Sets (shown_assignment a)

abbrev pub shown_halves : Bor (List ℕ) × Bor (List ℕ) → List ℕ × List ℕ
shown_halves p = (p.0.now, p.1.now)

-- the lines of what follows a line, where anything follows
abbrev pub lines_from : Option (Bor (List ℕ)) → List (List ℕ)
lines_from None = []
lines_from (Some rest) = lines_of rest.now

-- how many lines may still come, at the most
abbrev pub most_lines : Option (Bor (List ℕ)) → ℕ
most_lines None = 0
most_lines (Some rest) = length rest.now + 1

-- these assignments, and behind them those of a text that is understood
abbrev pub behind : List Assignment → Result (List Assignment) ℕ → Result (List Assignment) ℕ
behind before (Ok more) = Ok (before ++ more)
behind before (Err line) = Err line

-- what the text assigns joins what was there; or a line is not understood; or memory was refused
abbrev pub Collects : List Held → List Held → Result (List Assignment) ℕ → Result (Unit {0}) ConfFault → Type 0
Collects old new r (Ok u) = behind (map shown_assignment old) r ≡ Ok (map shown_assignment new)
Collects old new r (Err (BadLine k)) = behind (map shown_assignment old) r ≡ Err k
Collects old new r (Err OutOfMemory) = Unit {0}
Collects old new r (Err Usage) = ⊥
Collects old new r (Err IsTooLong) = ⊥
Collects old new r (Err (BadValue s)) = ⊥

abbrev pub shown_draft : Draft → Settings
shown_draft d = record {
  port = d.port;
  address = d.address;
  allowed = ranges_of d.allowed.now;
  name = d.name.items;
  root = d.root.now;
  low = d.low;
  high = d.high;
  critical = d.critical;
  disk_run = d.disk_run;
  max_turns = d.max_turns;
  shares_fetches = d.share_fetches;
  pipelines_asks = d.pipeline_asks;
  host_connections = d.host_connections;
  access_log = d.access_log.now;
}

abbrev pub shown_conf : Conf → Settings
shown_conf c = record {
  port = c.port;
  address = c.address;
  allowed = c.allowed.items;
  name = c.name.items;
  root = c.root;
  low = c.low;
  high = c.high;
  critical = c.critical;
  disk_run = c.disk_run;
  max_turns = c.max_turns;
  shares_fetches = c.share_fetches;
  pipelines_asks = c.pipeline_asks;
  host_connections = c.host_connections;
  access_log = string_bytes c.access_log;
}

abbrev pub shown_command : Command → Told
shown_command (Serve c) = Serves (shown_conf c)
shown_command (Demo n) = ShowsDemo n

-- an answer is what words and text say, or memory was refused
abbrev pub Answers : Result Command ConfFault → Result Told Refusal → Type 0
Answers (Ok c) r = r ≡ Ok (shown_command c)
Answers (Err Usage) r = r ≡ Err NoReading
Answers (Err IsTooLong) r = r ≡ Err TooLong
Answers (Err (BadLine k)) r = r ≡ Err (NotUnderstood k)
Answers (Err (BadValue s)) r = r ≡ Err (OutOfRange s)
Answers (Err OutOfMemory) r = Unit {0}

-- a text that is lent, as such
abbrev pub shown_text : Option (Bor (List ℕ)) → Option (List ℕ)
shown_text None = None
shown_text (Some text) = Some text.now

abbrev pub shown_settled : Result Draft Setting → Result Settings Setting
shown_settled (Ok d) = Ok (shown_draft d)
shown_settled (Err s) = Err s

abbrev pub shown_words : List (Bor (List ℕ)) → List (List ℕ)
shown_words words = map (λ w. w.now) words

abbrev pub shown_list : Option (Bor (List (Bor (List ℕ)))) → Option (List Text)
shown_list None = None
shown_list (Some words) = Some (shown_words words.now)

-- words are refused where they have no reading, or for memory
abbrev pub RefusesWords : Bool → ConfFault → Type 0
RefusesWords reads Usage = reads ≡ false
RefusesWords reads OutOfMemory = Unit {0}
RefusesWords reads IsTooLong = ⊥
RefusesWords reads (BadLine k) = ⊥
RefusesWords reads (BadValue s) = ⊥

abbrev pub seed_number : Option (List ℕ) → Option ℕ
seed_number None = None
seed_number (Some seed) = number_of seed

-- the words have a reading, and this is it
pub record ReadsWords (words : List Text) (l : Line) : Type 0 where
  pub reads : has_reading words ≡ true
  pub file : shown_text l.file ≡ file_of words
  pub seed : l.seed ≡ seed_number (seed_of words)
  pub settings : map shown_assignment l.settings.items ≡ word_assignments words

-- the FILE of `-c`, or why there is no answer
abbrev pub AnswersFile : List Text → Result (Option Text) ConfFault → Type 0
AnswersFile words (Ok file) = (has_reading words ≡ true) × (file ≡ file_of words)
AnswersFile words (Err e) = RefusesWords (has_reading words) e

abbrev pub shown_name : {A : Type 0} → Option (String A) → Option Text
shown_name None = None
shown_name (Some name) = Some (string_bytes name)

abbrev pub shown_file : {A : Type 0} → Result (Option (String A)) ConfFault → Result (Option Text) ConfFault
shown_file (Ok file) = Ok (shown_name file)
shown_file (Err e) = Err e
