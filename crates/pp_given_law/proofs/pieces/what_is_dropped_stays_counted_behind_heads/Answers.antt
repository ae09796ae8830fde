use Rattle.pp_given_law.proofs.CountedHeads.{behind_heads}
use Rattle.pp_given_law.proofs.pieces.what_is_dropped_stays_counted_behind_heads.Goals as goal

pub returns : goal.returns
returns c = behind_heads
