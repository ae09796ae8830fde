use Rattle.pp_states_law.proofs.Charged.{failures, losses, rows}
use Rattle.pp_states_law.proofs.charging.charges_are_the_laws.Goals as goal

pub returns : goal.returns
returns c = record { rows = rows; attempts = losses; ends = failures }
