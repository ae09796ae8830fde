use Rattle.pp_states_law.proofs.Connected.{closings}
use Rattle.pp_states_law.proofs.conns.closings_are_the_laws.Goals as goal

pub returns : goal.returns
returns c = record { closings = closings }
