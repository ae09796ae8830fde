use Rattle.pp_laws_waits.proofs.Reaches.{held_asks_nothing}
use Rattle.pp_laws_waits.proofs.held.held_bytes_are_not_asked.Goals as goal

pub returns : goal.returns
returns c = record { nothing = held_asks_nothing }
