use Rattle.std.proofs.Common.{arith}
use Rattle.pp_shelf.proofs.TextLemmas.{writable}
use Rattle.pp_shelf.proofs.writable.can_be_written.Goals as goal

pub returns : goal.returns
returns c = rw c.is_writable.ensures (writable _ (omega arith) (omega arith))
