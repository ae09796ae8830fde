use Rattle.pp_turn_law.proofs.Awaited.{awaited}
use Rattle.pp_turn_law.proofs.coming.events_are_awaited.Goals as goal

pub returns : goal.returns
returns c = awaited
