use Rattle.pp_states_law.proofs.Waited.{renewals, restings}
use Rattle.pp_states_law.proofs.waiting.waits_are_the_laws.Goals as goal

pub returns : goal.returns
returns c = record { renewals = renewals; restings = restings }
