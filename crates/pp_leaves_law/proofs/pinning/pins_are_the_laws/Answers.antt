use Rattle.pp_leaves_law.proofs.Pins.{busy, pinned}
use Rattle.pp_leaves_law.proofs.pinning.pins_are_the_laws.Goals as goal

pub returns : goal.returns
returns c = record { pinned = pinned; busy = busy }
