use Rattle.pp_given_law.proofs.CountedOver.{as_accepted}
use Rattle.pp_given_law.proofs.counts.what_is_dropped_stays_counted_as_a_client_comes.Goals as goal

pub returns : goal.returns
returns c = as_accepted
