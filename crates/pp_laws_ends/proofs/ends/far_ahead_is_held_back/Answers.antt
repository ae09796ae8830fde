use Rattle.pp_laws_ends.proofs.Ahead.{far_ahead}
use Rattle.pp_laws_ends.proofs.ends.far_ahead_is_held_back.Goals as goal

pub returns : goal.returns
returns c = record { held = far_ahead }
