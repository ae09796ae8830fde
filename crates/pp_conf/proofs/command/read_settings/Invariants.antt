use Rattle.std.proofs.Common.{◌≡◌, ◌++◌, drop, map, filter_map, is_some}
use Rattle.std.specs.List.{list_all}
use Rattle.pp_conf.specs.Words.{assignment_by}
use Rattle.pp_conf.specs.Shown.{shown_assignment, shown_words}
use Rattle.pp_conf.proofs.command.read_settings.Given as goal

-- what is there and what is left give the whole
abbrev pub invariant-loop-word : goal.invariant-loop-word
invariant-loop-word l = record {
  settings : map shown_assignment l.settings.items ++ filter_map assignment_by (shown_words (drop l.word-index l.positionals))
      ≡ map shown_assignment l.initial.settings.items ++ filter_map assignment_by (shown_words l.positionals);
  each : list_all (λ w. is_some (assignment_by w)) (shown_words l.positionals)
      ≡ list_all (λ w. is_some (assignment_by w)) (shown_words (drop l.word-index l.positionals));
}
