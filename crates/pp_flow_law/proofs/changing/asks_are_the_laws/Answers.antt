use Rattle.pp_flow_law.proofs.Errands.{bodies, texts}
use Rattle.pp_flow_law.proofs.changing.asks_are_the_laws.Goals as goal

pub returns : goal.returns
returns c = record { texts = texts; bodies = bodies }
