use Rattle.pp_given_law.proofs.Counted.{counted_waits}
use Rattle.pp_given_law.proofs.counts.what_is_dropped_stays_counted_over_waits.Goals as goal

pub returns : goal.returns
returns c = counted_waits
