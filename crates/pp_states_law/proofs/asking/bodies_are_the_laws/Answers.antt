use Rattle.pp_states_law.proofs.Taken.{bodies}
use Rattle.pp_states_law.proofs.asking.bodies_are_the_laws.Goals as goal

pub returns : goal.returns
returns c = record { bodies = bodies }
