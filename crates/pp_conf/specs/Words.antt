-- The words of the command line, and what words and text say together.
use Rattle.std.specs.Prelude.{ℕ, Bool, true, false, ◌&&◌, not, nat_lt, cond, List, [], ◌++◌, length, Option, Some, None, is_some, option_map, option_and_then, unwrap_or, filter_map, Result, Ok, Err, codes}
use Rattle.std.specs.List.{list_all}
use Rattle.clap.specs.Walk.{Text, Rule, Row, is_empty, first_of, all_of}
use Rattle.clap.specs.Words.{App, new_app, new_rule, with_rule, fault_of, matches_of}
use Rattle.clap.specs.Simple.{new_shape}
use Rattle.clap.specs.Lexer.{usize_max}
use Rattle.clap.specs.declared.builder.action.ArgAction.TheVariants.{Set, Append}
use Rattle.pp_text.specs.Numbers.{number_of}
use Rattle.pp_conf.specs.Settings.{setting_named}
use Rattle.pp_conf.specs.Conf.{Assignment, Settings, settings_of}
use Rattle.pp_conf.specs.Text.{halves, assignments_of}
use Rattle.pp_conf.specs.declared.setting.Setting.{Setting}

-- `polipo [-c FILE] [-g SEED] [name=value ...]`: two options of one value each, at most once, and a last positional of
-- any number of words; no `--help` and no `--version`
abbrev pub config_rule : Rule
config_rule = record (new_rule (codes "config")) { short = Some 99; action = Some Set }

abbrev pub seed_rule : Rule
seed_rule = record (new_rule (codes "seed")) { short = Some 103; action = Some Set }

abbrev pub settings_rule : Rule
settings_rule = record (new_rule (codes "settings")) { action = Some Append; range = Some (record { start_inclusive = 0; end_inclusive = usize_max }) }

abbrev pub polipo_app : App
polipo_app =
    let top = record (new_shape (codes "polipo")) { no_binary_name = true; disable_help_flag = true; disable_version_flag = true } in
    with_rule (with_rule (with_rule (record (new_app (codes "polipo")) { top = top }) config_rule) seed_rule) settings_rule

-- FILE
abbrev pub file_of : List Text → Option Text
file_of words = first_of (codes "config") (matches_of polipo_app words)

-- SEED
abbrev pub seed_of : List Text → Option Text
seed_of words = first_of (codes "seed") (matches_of polipo_app words)

abbrev pub positionals_in : List Row → List Text
positionals_in rows = unwrap_or (all_of (codes "settings") rows) []

abbrev pub positionals_of : List Text → List Text
positionals_of words = positionals_in (matches_of polipo_app words)

-- NAME=VALUE with the name of a setting
abbrev pub named_half : List ℕ × List ℕ → Option Assignment
named_half p = option_map (λ s. (s, p.1)) (setting_named p.0)

abbrev pub assignment_by : Text → Option Assignment
assignment_by word = option_and_then named_half (halves word)

-- every positional assigns a setting
abbrev pub all_assign : List Text → Bool
all_assign positionals = list_all (λ w. is_some (assignment_by w)) positionals

abbrev pub word_assignments : List Text → List Assignment
word_assignments words = filter_map assignment_by (positionals_of words)

-- with a seed, a number, there is neither a file nor a setting
abbrev pub seed_stands : Option Text → List Assignment → Option Text → Bool
seed_stands file assignments None = true
seed_stands file assignments (Some seed) = is_some (number_of seed) && (not (is_some file) && is_empty assignments)

abbrev pub has_reading : List Text → Bool
has_reading words =
    is_empty (fault_of polipo_app words) && (all_assign (positionals_of words) && seed_stands (file_of words) (word_assignments words) (seed_of words))

-- what the program is to do
pub data Told : Type 0 where
  Serves : Settings → Told
  ShowsDemo : ℕ → Told

-- why it can do nothing, the first that applies
pub data Refusal : Type 0 where
  NoReading TooLong : Refusal
  NotUnderstood : ℕ → Refusal
  OutOfRange : Setting → Refusal

abbrev pub or_out_of_range : Result Settings Setting → Result Told Refusal
or_out_of_range (Ok c) = Ok (Serves c)
or_out_of_range (Err s) = Err (OutOfRange s)

-- "words are applied after the text"
abbrev pub with_words : List Text → Result (List Assignment) ℕ → Result Told Refusal
with_words words (Ok by_text) = or_out_of_range (settings_of (by_text ++ word_assignments words))
with_words words (Err line) = Err (NotUnderstood line)

abbrev pub text_assignments : Option (List ℕ) → Result (List Assignment) ℕ
text_assignments None = Ok []
text_assignments (Some text) = assignments_of text

-- ours: at most 65,536 bytes
abbrev pub is_too_long : Option (List ℕ) → Bool
is_too_long None = false
is_too_long (Some text) = nat_lt 65536 (length text)

abbrev pub served_by : List Text → Option (List ℕ) → Result Told Refusal
served_by words text = cond (is_too_long text) (Err TooLong) (with_words words (text_assignments text))

abbrev pub told_by : List Text → Option (List ℕ) → Option Text → Result Told Refusal
told_by words text (Some seed) = Ok (ShowsDemo (unwrap_or (number_of seed) 0))
told_by words text None = served_by words text

-- what words and text say
abbrev pub reading_of : List Text → Option (List ℕ) → Result Told Refusal
reading_of words text = cond (has_reading words) (told_by words text (seed_of words)) (Err NoReading)
