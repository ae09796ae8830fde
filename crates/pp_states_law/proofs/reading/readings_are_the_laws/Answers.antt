use Rattle.pp_states_law.proofs.ReadOn.{answers_begin, bodies_go_on, heads_go_on, readings}
use Rattle.pp_states_law.proofs.reading.readings_are_the_laws.Goals as goal

pub returns : goal.returns
returns c = record { readings = readings; heads = heads_go_on; answers = answers_begin; bodies = bodies_go_on }
