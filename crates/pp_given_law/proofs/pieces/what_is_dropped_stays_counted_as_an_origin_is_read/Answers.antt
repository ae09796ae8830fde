use Rattle.pp_given_law.proofs.CountedWhole.{as_read}
use Rattle.pp_given_law.proofs.pieces.what_is_dropped_stays_counted_as_an_origin_is_read.Goals as goal

pub returns : goal.returns
returns c = as_read c.heads_come_as_the_laws.ensures.heads c.reads_can_be_counted.ensures.counts
