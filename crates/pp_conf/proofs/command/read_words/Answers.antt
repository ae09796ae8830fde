use Rattle.std.proofs.Common.{◌≡◌, ◌∙◌, ap, sym, subst, true, Bool, List, map, filter_map, IfErr, codes, string_bytes}
use Rattle.clap.specs.Walk.{Row, first_of}
use Rattle.clap.specs.Words.{fault_of}
use Rattle.pp_conf.specs.Words.{all_assign, assignment_by, file_of, has_reading, polipo_app, positionals_in, positionals_of, seed_of, seed_stands, word_assignments}
use Rattle.pp_conf.specs.Shown.{RefusesWords, shown_assignment, shown_text}
use Rattle.pp_conf.proofs.Words.{reads_by}
use Rattle.pp_conf.proofs.command.read_words.Goals as goal

pub returns-clause-refused : goal.returns-clause-refused
returns-clause-refused c =
    let rows = c.in_ok-matches.ensures.rows in
    let words = map string_bytes c.args.words.now in
    let each : all_assign (positionals_of words) ≡ true = ap (λ (r : List Row). all_assign (positionals_in r)) (sym rows) ∙ c.in_ok-settings.ensures.each in
    let file : shown_text c.value_in-file.result ≡ file_of words = c.value_in-file.ensures ∙ ap (first_of (codes "config")) rows in
    let seed : shown_text c.value_in-seed.result ≡ seed_of words = c.value_in-seed.ensures ∙ ap (first_of (codes "seed")) rows in
    let sets : map shown_assignment c.in_ok-settings.settings.items ≡ word_assignments words
    = c.in_ok-settings.ensures.settings ∙ ap (λ (r : List Row). filter_map assignment_by (positionals_in r)) rows in
    let stands : seed_stands (shown_text c.value_in-file.result) (map shown_assignment c.in_ok-settings.settings.items) (shown_text c.value_in-seed.result)
    ≡ seed_stands (file_of words) (word_assignments words) (seed_of words) = cc in
    let reads : has_reading words ≡ seed_stands (file_of words) (word_assignments words) (seed_of words)
    = reads_by (fault_of polipo_app words) (all_assign (positionals_of words)) (seed_stands (file_of words) (word_assignments words) (seed_of words)) c.in_ok-matches.ensures.taken each in
    subst (λ (b : Bool). IfErr c.line_of.result (RefusesWords b)) (stands ∙ sym reads) c.line_of.ensures.refused
