-- What words and text say, once both are read.
use Rattle.std.proofs.Common.{◌≡◌, ◌≤◌, ◌∙◌, ◌&&◌, ◌++◌, Bool, true, false, List, [], ℕ, length, map, nat_lt, Option, Some, None, Result, Ok, Err, cond, not, is_some, ap, refl, sym, subst, arith, Bor}
use Rattle.std.proofs.lemmas.List.{map-append}
use Rattle.clap.specs.Walk.{Text, is_empty}
use Rattle.clap.specs.Words.{fault_of}
use Rattle.pp_conf.specs.Conf.{Assignment, settings_of}
use Rattle.pp_conf.specs.Words.{NoReading, TooLong, all_assign, file_of, has_reading, is_too_long, or_out_of_range, polipo_app, positionals_of, reading_of, seed_of, seed_stands, text_assignments, told_by, with_words, word_assignments}
use Rattle.pp_conf.specs.Text.{assignments_of}
use Rattle.pp_conf.specs.Shown.{ReadsWords, behind, seed_number, shown_assignment, shown_text}
use Rattle.pp_conf.specs.declared.assignments.Assignment.{Assignment as Held}
use Rattle.pp_conf.specs.declared.command.Line.{Line}

last_of_three : (a b c : Bool) → (a && (b && c)) ≡ true → c ≡ true
last_of_three true true c h = h
last_of_three true false c h = absurd (let bad : false ≡ true = h in cc)
last_of_three false b c h = absurd (let bad : false ≡ true = h in cc)

-- where the seed may stand and is no number, there is none
no_seed : (file : Option Text) (assigned : List Assignment) (seed : Option Text) → seed_stands file assigned seed ≡ true → seed_number seed ≡ None → seed ≡ None
no_seed file assigned None stands none = refl
no_seed file assigned (Some seed) stands none =
    let bad : (false && (not (is_some file) && is_empty assigned)) ≡ true = ap (λ (n : Option ℕ). is_some n && (not (is_some file) && is_empty assigned)) (sym none) ∙ stands in
    absurd (let worse : false ≡ true = bad in cc)

-- the text is short enough and understood, and this is what it assigns
pub record Gives (text : Option (List ℕ)) (found : List Assignment) : Type 0 where
  pub is_short : is_too_long text ≡ false
  pub assigned : text_assignments text ≡ Ok found

pub nothing_given : Gives None []
nothing_given = record { is_short = refl; assigned = refl }

-- words with a reading have a seed that may stand
pub stands : (words : List Text) → has_reading words ≡ true → seed_stands (file_of words) (word_assignments words) (seed_of words) ≡ true
stands words reads = last_of_three (is_empty (fault_of polipo_app words)) (all_assign (positionals_of words)) (seed_stands (file_of words) (word_assignments words) (seed_of words)) reads

pub reads_all : (words : List Text) (text : Option (List ℕ)) (line : Line) (found : List Assignment) → ReadsWords words line → line.seed ≡ None → Gives text found
    → reading_of words text ≡ or_out_of_range (settings_of (found ++ map shown_assignment line.settings.items))
reads_all words text line found read none given =
    let seed : seed_of words ≡ None = no_seed (file_of words) (word_assignments words) (seed_of words) (stands words read.reads) (sym read.seed ∙ none) in
    ap (λ (b : Bool). cond b (told_by words text (seed_of words)) (Err NoReading)) read.reads
    ∙ ap (told_by words text) seed
    ∙ ap (λ (b : Bool). cond b (Err TooLong) (with_words words (text_assignments text))) given.is_short
    ∙ ap (with_words words) given.assigned
    ∙ ap (λ (later : List Assignment). or_out_of_range (settings_of (found ++ later))) (sym read.settings)

-- nothing stood before
pub behind_nothing : (r : Result (List Assignment) ℕ) (found : List Assignment) → behind [] r ≡ Ok found → r ≡ Ok found
behind_nothing (Ok more) found h = h
behind_nothing (Err line) found h = absurd (let bad : Err line ≡ Ok found = h in cc)

pub text_given : (text : Option (Bor (List ℕ))) (t : Bor (List ℕ)) (found : List Assignment) → text ≡ Some t → length t.now ≤ 65536 → behind [] (assignments_of t.now) ≡ Ok found → Gives (shown_text text) found
text_given text t found is fits read =
    let short : nat_lt 65536 (length t.now) ≡ false = grind arith in
    let here : Gives (Some t.now) found = record { is_short = short; assigned = behind_nothing (assignments_of t.now) found read } in
    subst (λ (o : Option (Bor (List ℕ))). Gives (shown_text o) found) (sym is) here

pub no_text_given : (text : Option (Bor (List ℕ))) → text ≡ None → Gives (shown_text text) []
no_text_given text is = subst (λ (o : Option (Bor (List ℕ))). Gives (shown_text o) []) (sym is) nothing_given

-- the assignments of the text, and behind them those of the words
pub in_turn : (found words all : List Held) → all ≡ found ++ words → map shown_assignment found ++ map shown_assignment words ≡ map shown_assignment all
in_turn found words all is = sym (ap (map shown_assignment) is ∙ map-append shown_assignment found words)
