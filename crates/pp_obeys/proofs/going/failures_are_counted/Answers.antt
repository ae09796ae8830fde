use Rattle.pp_obeys.proofs.Laws.{counted}
use Rattle.pp_obeys.proofs.going.failures_are_counted.Goals as goal

pub returns : goal.returns
returns c = record { counted = counted }
