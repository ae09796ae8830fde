use Rattle.pp_given_law.proofs.CountedWrites.{as_lost}
use Rattle.pp_given_law.proofs.writes.what_is_dropped_stays_counted_as_a_chunk_is_lost.Goals as goal

pub returns : goal.returns
returns c = as_lost
