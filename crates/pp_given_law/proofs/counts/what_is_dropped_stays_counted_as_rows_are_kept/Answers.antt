use Rattle.pp_given_law.proofs.CountedOver.{as_kept}
use Rattle.pp_given_law.proofs.counts.what_is_dropped_stays_counted_as_rows_are_kept.Goals as goal

pub returns : goal.returns
returns c = as_kept
