-- Whether words have a reading, and ask to serve, by what words and text say.
use Rattle.std.proofs.Common.{◌≡◌, ◌∙◌, ◌&&◌, Bool, true, false, List, ℕ, Option, Some, None, Result, Ok, Err, cond, not, is_some, ap, refl, sym, subst}
use Rattle.pp_conf.proofs.Reading.{stands}
use Rattle.pp_text.specs.Numbers.{number_of}
use Rattle.pp_conf.specs.Conf.{Assignment, Settings}
use Rattle.pp_conf.specs.declared.setting.Setting.{Setting}
use Rattle.pp_conf.specs.Words.{Told, Serves, ShowsDemo, Refusal, NoReading, TooLong, NotUnderstood, OutOfRange, file_of, has_reading, is_too_long, or_out_of_range, reading_of, seed_of, seed_stands, served_by, text_assignments, told_by, with_words, word_assignments}
use Rattle.pp_conf.specs.Shown.{Answers, shown_command}
use Rattle.pp_conf.specs.declared.fault.ConfFault.{ConfFault}
use Rattle.pp_conf.specs.declared.fault.ConfFault.TheVariants.{Usage, TooLong as IsTooLong, BadLine, BadValue, OutOfMemory}
use Rattle.pp_conf.specs.declared.read.Command.{Command}
use Rattle.pp_conf.specs.declared.read.Command.TheVariants.{Demo}
use Rattle.pp_run.specs.Exits.{JudgesWords, asks_to_serve, exit_of}

abbrev pub asks : Result Told Refusal → Bool
asks (Ok (Serves c)) = true
asks (Ok (ShowsDemo n)) = false
asks (Err NoReading) = false
asks (Err TooLong) = true
asks (Err (NotUnderstood k)) = true
asks (Err (OutOfRange s)) = true

abbrev pub reads : Result Told Refusal → Bool
reads (Ok told) = true
reads (Err NoReading) = false
reads (Err TooLong) = true
reads (Err (NotUnderstood k)) = true
reads (Err (OutOfRange s)) = true

in_range : (r : Result Settings Setting) → asks (or_out_of_range r) ≡ true
in_range (Ok c) = refl
in_range (Err s) = refl

understood : (words : List (List ℕ)) (r : Result (List Assignment) ℕ) → asks (with_words words r) ≡ true
understood words (Ok by_text) = in_range _
understood words (Err k) = refl

short : (words : List (List ℕ)) (r : Result (List Assignment) ℕ) (long : Bool) → asks (cond long (Err TooLong) (with_words words r)) ≡ true
short words r true = refl
short words r false = understood words r

judged_by : (words : List (List ℕ)) (text : Option (List ℕ)) (reads : Bool) (seed : Option (List ℕ)) → (reads && not (is_some seed)) ≡ asks (cond reads (told_by words text seed) (Err NoReading))
judged_by words text false seed = refl
judged_by words text true None = sym (short words (text_assignments text) (is_too_long text))
judged_by words text true (Some seed) = refl

pub judged : (words : List (List ℕ)) (text : Option (List ℕ)) → asks_to_serve words ≡ asks (reading_of words text)
judged words text = judged_by words text (has_reading words) (seed_of words)

-- who asks to serve has a reading
asks_reads : (r : Result Told Refusal) → asks r ≡ true → reads r ≡ true
asks_reads (Ok told) asks = refl
asks_reads (Err NoReading) asks = let bad : false ≡ true = asks in absurd (cc)
asks_reads (Err TooLong) asks = refl
asks_reads (Err (NotUnderstood k)) asks = refl
asks_reads (Err (OutOfRange s)) asks = refl

read_by : (words : List (List ℕ)) (text : Option (List ℕ)) (reads_them : Bool) (seed : Option (List ℕ)) → reads_them ≡ reads (cond reads_them (told_by words text seed) (Err NoReading))
read_by words text false seed = refl
read_by words text true None = sym (asks_reads (served_by words text) (short words (text_assignments text) (is_too_long text)))
read_by words text true (Some seed) = refl

pub read : (words : List (List ℕ)) (text : Option (List ℕ)) → has_reading words ≡ reads (reading_of words text)
read words text = read_by words text (has_reading words) (seed_of words)

refuted : (b : Bool) → (b && false) ≡ true → ⊥
refuted true h = let bad : false ≡ true = h in absurd (cc)
refuted false h = let bad : false ≡ true = h in absurd (cc)

-- no seed stands beside a file
no_seed : (file : List ℕ) (assigned : List Assignment) (seed : Option (List ℕ)) → seed_stands (Some file) assigned seed ≡ true → is_some seed ≡ false
no_seed file assigned None stands = refl
no_seed file assigned (Some seed) stands = absurd (refuted (is_some (number_of seed)) stands)

both : (a b : Bool) → a ≡ true → b ≡ false → (a && not b) ≡ true
both a b is_a is_b = rw (is_a, is_b) refl

pub file_serves : (words : List (List ℕ)) (file : List ℕ) → has_reading words ≡ true → file_of words ≡ Some file → asks_to_serve words ≡ true
file_serves words file reads named =
    let beside : seed_stands (Some file) (word_assignments words) (seed_of words) ≡ true
    = subst (λ (f : Option (List ℕ)). seed_stands f (word_assignments words) (seed_of words) ≡ true) named (stands words reads) in
    both (has_reading words) (is_some (seed_of words)) reads (no_seed file (word_assignments words) (seed_of words) beside)

pub fault_judges : (words : List (List ℕ)) (text : Option (List ℕ)) (fault : ConfFault) → Answers (Err fault) (reading_of words text) → JudgesWords words (exit_of fault)
fault_judges words text Usage says = read words text ∙ ap reads says
fault_judges words text IsTooLong says = judged words text ∙ ap asks says
fault_judges words text (BadLine k) says = judged words text ∙ ap asks says
fault_judges words text (BadValue s) says = judged words text ∙ ap asks says
fault_judges words text OutOfMemory says = tt

pub demo_judges : (words : List (List ℕ)) (text : Option (List ℕ)) (command : Command) (seed : ℕ) → command ≡ Demo seed → reading_of words text ≡ Ok (shown_command command) → has_reading words ≡ true
demo_judges words text command seed is says = read words text ∙ ap reads says

pub shows_demo : (words : List (List ℕ)) (text : Option (List ℕ)) (command : Command) (seed : ℕ) → command ≡ Demo seed → reading_of words text ≡ Ok (shown_command command) → reading_of words text ≡ Ok (ShowsDemo seed)
shows_demo words text command seed is says = says ∙ ap (λ (c : Command). Ok (shown_command c)) is
