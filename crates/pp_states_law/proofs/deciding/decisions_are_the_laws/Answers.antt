use Rattle.pp_states_law.proofs.Decided.{asks, begins, leaves}
use Rattle.pp_states_law.proofs.deciding.decisions_are_the_laws.Goals as goal

pub returns : goal.returns
returns c = record { leaves = leaves; begins = begins; asks = asks }
