use Rattle.pp_endings_law.proofs.Asks.{origins_asked}
use Rattle.pp_endings_law.proofs.waits.origins_are_asked_as_the_laws.Goals as goal

pub returns : goal.returns
returns c = record { asks = origins_asked }
