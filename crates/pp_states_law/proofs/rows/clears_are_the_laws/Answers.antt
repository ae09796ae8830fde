use Rattle.pp_states_law.proofs.Cleared.{clears}
use Rattle.pp_states_law.proofs.rows.clears_are_the_laws.Goals as goal

pub returns : goal.returns
returns c = record { clears = clears }
