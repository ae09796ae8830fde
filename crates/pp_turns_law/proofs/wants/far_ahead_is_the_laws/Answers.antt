use Rattle.pp_turns_law.proofs.Ahead.{far_ahead}
use Rattle.pp_turns_law.proofs.wants.far_ahead_is_the_laws.Goals as goal

pub returns : goal.returns
returns c = record { far = far_ahead }
