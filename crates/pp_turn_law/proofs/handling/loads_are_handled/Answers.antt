use Rattle.pp_turn_law.proofs.LoadsHandled.{loads_handled}
use Rattle.pp_turn_law.proofs.handling.loads_are_handled.Goals as goal

pub returns : goal.returns
returns c = loads_handled
