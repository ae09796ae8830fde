use Rattle.pp_given_law.proofs.CountedWrites.{as_said}
use Rattle.pp_given_law.proofs.writes.what_is_dropped_stays_counted_as_a_client_is_said_more.Goals as goal

pub returns : goal.returns
returns c = as_said
