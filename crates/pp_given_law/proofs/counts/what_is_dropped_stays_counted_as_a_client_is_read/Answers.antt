use Rattle.pp_given_law.proofs.CountedReads.{as_heard}
use Rattle.pp_given_law.proofs.counts.what_is_dropped_stays_counted_as_a_client_is_read.Goals as goal

pub returns : goal.returns
returns c = as_heard
