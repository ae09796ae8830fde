use Rattle.pp_waits_law.proofs.Rested.{rests_as_law}
use Rattle.pp_waits_law.proofs.resting.turns_rest_as_the_laws.Goals as goal

pub returns : goal.returns
returns c = record { rests = rests_as_law }
