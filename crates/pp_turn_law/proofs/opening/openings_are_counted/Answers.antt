use Rattle.pp_turn_law.proofs.FirstCounts.{afforded, counted, listened_allow}
use Rattle.pp_turn_law.proofs.opening.openings_are_counted.Goals as goal

pub returns : goal.returns
returns c = record { counted = counted; afforded = afforded; allowed = listened_allow }
