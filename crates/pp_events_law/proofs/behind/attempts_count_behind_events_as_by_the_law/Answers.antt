use Rattle.pp_events_law.proofs.CountedAnew.{count_anew}
use Rattle.pp_events_law.proofs.behind.attempts_count_behind_events_as_by_the_law.Goals as goal

pub returns : goal.returns
returns c = record { counts = count_anew }
