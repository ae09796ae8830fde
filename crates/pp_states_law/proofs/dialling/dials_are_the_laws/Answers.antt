use Rattle.pp_states_law.proofs.Dialled.{dials, drops, empty_drops}
use Rattle.pp_states_law.proofs.dialling.dials_are_the_laws.Goals as goal

pub returns : goal.returns
returns c = record { dials = dials; drops = drops; empty = empty_drops }
