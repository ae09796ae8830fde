use Rattle.std.proofs.Common.{◌≡◌, ◌+◌, drop}
use Rattle.pp_flow.specs.Changes.{place_in}
use Rattle.pp_flow.specs.Inside.{entries}
use Rattle.pp_flow.proofs.lists.place_in.Given as goal

abbrev pub invariant-loop-index : goal.invariant-loop-index
invariant-loop-index l = l.index + place_in l.number (entries (drop l.index l.list)) ≡ place_in l.number (entries l.list)
