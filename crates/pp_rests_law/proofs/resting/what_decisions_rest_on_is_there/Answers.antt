use Rattle.pp_rests_law.proofs.Rests.{decisions_rest}
use Rattle.pp_rests_law.proofs.resting.what_decisions_rest_on_is_there.Goals as goal

pub returns : goal.returns
returns c = record { rest = decisions_rest }
