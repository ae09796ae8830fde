use Rattle.std.proofs.Common.{◌≡◌, ◌+◌, ◌≤◌, map}
use Rattle.pp_conf.specs.Text.{assignments_from, assignments_of}
use Rattle.pp_conf.specs.Shown.{behind, lines_from, most_lines, shown_assignment}
use Rattle.pp_conf.proofs.text.read_text.Given as goal

-- what is there and what the lines that are left assign give the whole
abbrev pub invariant-loop-rest : goal.invariant-loop-rest
invariant-loop-rest l = record {
  whole : behind (map shown_assignment l.found.items) (assignments_from (l.number + 1) (lines_from l.rest))
      ≡ behind (map shown_assignment l.initial.found.items) (assignments_of l.fn.text);
  few : l.number + most_lines l.rest ≤ 65537;
}

abbrev pub decreases-loop-rest : goal.decreases-loop-rest
decreases-loop-rest l = most_lines l.rest
