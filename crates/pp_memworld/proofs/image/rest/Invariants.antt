use Rattle.std.proofs.Common.{length}
use Rattle.pp_memworld.proofs.Listed.{behind, IsRestedTo}
use Rattle.pp_memworld.proofs.image.rest.Given as goal

abbrev pub invariant-loop-name : goal.invariant-loop-name
invariant-loop-name l = IsRestedTo l.after l.slots.entries l.image

abbrev pub decreases-loop-name : goal.decreases-loop-name
decreases-loop-name l = length (behind l.after l.image)
