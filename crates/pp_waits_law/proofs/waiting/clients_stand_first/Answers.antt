use Rattle.pp_waits_law.proofs.Waited.{stand_first}
use Rattle.pp_waits_law.proofs.waiting.clients_stand_first.Goals as goal

pub returns : goal.returns
returns c = record { first = stand_first }
