use Rattle.pp_joints_law.proofs.TiedEnds.{bad_bodies_tie, bad_heads_tie, wholes_tie}
use Rattle.pp_joints_law.proofs.heads.ends_tie_as_they_come.Goals as goal

pub returns : goal.returns
returns c = record { wholes = wholes_tie; bodies = bad_bodies_tie; heads = bad_heads_tie }
