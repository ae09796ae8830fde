use Rattle.pp_endings_law.proofs.Rested.{behind_clients, exchanges_rest}
use Rattle.pp_endings_law.proofs.waits.exchanges_rest_as_the_laws.Goals as goal

pub returns : goal.returns
returns c = record { rests = exchanges_rest; behind = behind_clients }
