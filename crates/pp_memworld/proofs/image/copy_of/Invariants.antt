use Rattle.std.proofs.Common.{length}
use Rattle.pp_memworld.proofs.Listed.{behind, IsCopiedTo}
use Rattle.pp_memworld.proofs.image.copy_of.Given as goal

abbrev pub invariant-loop-name : goal.invariant-loop-name
invariant-loop-name l = IsCopiedTo l.after l.copy l.image

abbrev pub decreases-loop-name : goal.decreases-loop-name
decreases-loop-name l = length (behind l.after l.image)
