use Rattle.std.proofs.Common.{◌≡◌, drop, slice_get}
use Rattle.pp_flow.specs.Changes.{line_of}
use Rattle.pp_flow.specs.Inside.{entries}
use Rattle.pp_flow.proofs.lists.line_at.Given as goal

abbrev pub invariant-loop-at : goal.invariant-loop-at
invariant-loop-at l = slice_get (line_of l.connection (entries (drop l.at l.list))) l.left ≡ slice_get (line_of l.connection (entries l.list)) l.index
