use Rattle.pp_given_law.proofs.CountedTicks.{as_ticked}
use Rattle.pp_given_law.proofs.counts.what_is_dropped_stays_counted_as_the_clock_ticks.Goals as goal

pub returns : goal.returns
returns c = as_ticked
