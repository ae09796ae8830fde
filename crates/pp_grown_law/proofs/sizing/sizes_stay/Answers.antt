use Rattle.pp_grown_law.proofs.Sizes.{events_sized, kept_sized, left_sized, settled_sized, turns_sized, waits_sized}
use Rattle.pp_grown_law.proofs.sizing.sizes_stay.Goals as goal

pub returns : goal.returns
returns c = record { waits = waits_sized; events = events_sized; left = left_sized; kept = kept_sized; settled = settled_sized; turns = turns_sized }
