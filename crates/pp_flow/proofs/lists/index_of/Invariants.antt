use Rattle.std.proofs.Common.{◌≡◌, false, take}
use Rattle.std.specs.List.{list_any}
use Rattle.pp_flow.specs.Entries.{is_number}
use Rattle.pp_flow.specs.Inside.{entries}
use Rattle.pp_flow.proofs.lists.index_of.Given as goal

abbrev pub invariant-loop-index : goal.invariant-loop-index
invariant-loop-index l = list_any (is_number l.number) (take l.index (entries l.list)) ≡ false
