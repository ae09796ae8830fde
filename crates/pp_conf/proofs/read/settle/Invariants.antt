use Rattle.std.proofs.Common.{◌≡◌, drop, map}
use Rattle.pp_conf.specs.Conf.{assigned, first_refused, fitting, or_refused, settings_of}
use Rattle.pp_conf.specs.Shown.{shown_assignment, shown_draft}
use Rattle.pp_conf.proofs.read.settle.Given as goal

-- what is left to assign gives the answer
abbrev pub invariant-loop-assignment : goal.invariant-loop-assignment
invariant-loop-assignment l =
    let left = map shown_assignment (drop l.assignment-index l.assignments) in
    settings_of (map shown_assignment l.assignments) ≡ or_refused (first_refused left) (fitting (assigned (shown_draft l.draft) left))
