use Rattle.pp_given_law.proofs.CountedMoments.{at_moments}
use Rattle.pp_given_law.proofs.pieces.what_is_dropped_stays_counted_amid_reads.Goals as goal

pub returns : goal.returns
returns c = at_moments c.heads_come_as_the_laws.ensures.heads
