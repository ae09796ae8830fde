use Rattle.pp_waits_law.proofs.Events.{handled}
use Rattle.pp_waits_law.proofs.Rounds.{settles}
use Rattle.pp_waits_law.proofs.Turns.{keeping, leaving, to_next_wait, turns}
use Rattle.pp_waits_law.proofs.keeping.nobody_falls_asleep.Goals as goal

pub returns : goal.returns
returns c = record { events = handled; leaving = leaving; keeping = keeping; settling = settles; turns = turns; next = to_next_wait }
