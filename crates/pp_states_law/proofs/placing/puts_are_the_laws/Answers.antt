use Rattle.pp_states_law.proofs.PutOn.{puts}
use Rattle.pp_states_law.proofs.placing.puts_are_the_laws.Goals as goal

pub returns : goal.returns
returns c = record { puts = puts }
