use Rattle.std.specs.Prelude.{Option, Some, None, IsSomeAnd}
use Rattle.clap.specs.Lexer.{usize_max}
use Rattle.clap.specs.declared.builder.range.ValueRange.{ValueRange}
use Rattle.std.proofs.Common.{rules, ap, ap₂, codes, true, ◌≡◌, ◌∙◌}
use Rattle.clap.specs.Words.{App, app_of, rule_of, with_rule, new_app}
use Rattle.clap.specs.Simple.{new_shape}
use Rattle.pp_conf.specs.Words.{config_rule, seed_rule, settings_rule}
use Rattle.pp_conf.proofs.command.make_command.Goals as goal

some_is : (n : Option ValueRange) → IsSomeAnd n (λ r. r ≡ record { start_inclusive = 0; end_inclusive = usize_max }) → n ≡ Some (record { start_inclusive = 0; end_inclusive = usize_max })
some_is None h = absurd h
some_is (Some r) h = ap Some h

abbrev base : App
base = record (new_app (codes "polipo")) { top = record (new_shape (codes "polipo")) { no_binary_name = true; disable_help_flag = true; disable_version_flag = true } }

pub returns : goal.returns
returns c =
    let config_is : rule_of c.action-config.result ≡ config_rule = search rules in
    let seed_is : rule_of c.action-seed.result ≡ seed_rule = search rules in
    let h = c.num_args-settings.ensures in
    let num_is : c.num_args-settings.result.num_vals ≡ Some (record { start_inclusive = 0; end_inclusive = usize_max }) = some_is c.num_args-settings.result.num_vals h.1 in
    let settings_is : rule_of c.num_args-settings.result ≡ settings_rule = search rules in
    let base_is : app_of c.disable_version_flag.result ≡ base = search rules in
    c.in_ok-arg-3.ensures.shape (search rules)
    ∙ ap₂ with_rule (c.in_ok-arg-2.ensures.shape (search rules) ∙ ap₂ with_rule (c.in_ok-arg.ensures.shape (search rules) ∙ ap₂ with_rule base_is config_is) seed_is) settings_is
