use Rattle.pp_given_law.proofs.CountedBreaks.{as_broken}
use Rattle.pp_given_law.proofs.counts.what_is_dropped_stays_counted_as_a_connection_breaks.Goals as goal

pub returns : goal.returns
returns c = as_broken
