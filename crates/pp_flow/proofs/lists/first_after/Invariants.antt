use Rattle.std.proofs.Common.{◌≡◌, drop}
use Rattle.std.specs.List.{find}
use Rattle.pp_flow.specs.Changes.{is_after}
use Rattle.pp_flow.specs.Inside.{entries}
use Rattle.pp_flow.proofs.lists.first_after.Given as goal

abbrev pub invariant-loop-index : goal.invariant-loop-index
invariant-loop-index l = find (is_after l.after) (entries (drop l.index l.list)) ≡ find (is_after l.after) (entries l.list)
