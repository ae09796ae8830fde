use Rattle.std.proofs.Common.{◌≡◌, ◌∙◌, ap, sym, subst, Bool, Option, Some, rules, List, [], ℕ, filter_map, unwrap_or, IfErr}
use Rattle.clap.specs.Words.{found_of, rows_of}
use Rattle.pp_conf.specs.Words.{all_assign, assignment_by, positionals_in}
use Rattle.pp_conf.specs.Shown.{RefusesWords, shown_words}
use Rattle.pp_conf.proofs.command.settings_in.Goals as goal

abbrev or_none : Option (List (List ℕ)) → List (List ℕ)
or_none o = unwrap_or o []

pub returns-in_err-read_settings-in-Some-clause-refused : goal.returns-in_err-read_settings-in-Some-clause-refused
returns-in_err-read_settings-in-Some-clause-refused c =
    let same : all_assign (or_none (Some (shown_words c.in-Some.positionals.now))) ≡ all_assign (positionals_in (rows_of (found_of c.args.matches.now))) = ap (λ w. all_assign (or_none w)) c.in-Some.ensures in
    subst (λ (b : Bool). IfErr c.from_residual.result (RefusesWords b)) same (search rules)

pub returns-in_ok-read_settings-in-Some-clause-settings : goal.returns-in_ok-read_settings-in-Some-clause-settings
returns-in_ok-read_settings-in-Some-clause-settings c = rw c.new-settings.ensures.items at (c.in_ok-read_settings-in-Some.ensures.settings) ∙ ap (λ w. filter_map assignment_by (or_none w)) c.in-Some.ensures

pub returns-in_ok-read_settings-in-Some-clause-each : goal.returns-in_ok-read_settings-in-Some-clause-each
returns-in_ok-read_settings-in-Some-clause-each c = ap (λ w. all_assign (or_none w)) (sym c.in-Some.ensures) ∙ c.in_ok-read_settings-in-Some.ensures.each

pub returns-in-None-clause-settings : goal.returns-in-None-clause-settings
returns-in-None-clause-settings c = rw c.new-settings.ensures.items (ap (λ w. filter_map assignment_by (or_none w)) c.in-None.ensures)

pub returns-in-None-clause-each : goal.returns-in-None-clause-each
returns-in-None-clause-each c = ap (λ w. all_assign (or_none w)) (sym c.in-None.ensures)
