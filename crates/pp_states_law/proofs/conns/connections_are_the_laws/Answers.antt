use Rattle.pp_states_law.proofs.Connected.{changes, marks, reached}
use Rattle.pp_states_law.proofs.conns.connections_are_the_laws.Goals as goal

pub returns : goal.returns
returns c = record { changes = changes; marks = marks; reached = reached }
