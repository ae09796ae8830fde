use Rattle.pp_rounds_law.proofs.Serves.{serves}
use Rattle.pp_rounds_law.proofs.serving.turns_serve_as_by_the_law.Goals as goal

pub returns : goal.returns
returns c = record { serves = serves }
