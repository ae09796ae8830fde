use Rattle.std.proofs.Common.{◌≡◌, drop}
use Rattle.std.specs.List.{find}
use Rattle.pp_flow.specs.Entries.{is_asked_by}
use Rattle.pp_flow.specs.Inside.{entries}
use Rattle.pp_flow.proofs.lists.first_asked.Given as goal

abbrev pub invariant-loop-index : goal.invariant-loop-index
invariant-loop-index l = find (is_asked_by l.client) (entries (drop l.index l.list)) ≡ find (is_asked_by l.client) (entries l.list)
