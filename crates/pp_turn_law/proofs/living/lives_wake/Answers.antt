use Rattle.pp_turn_law.proofs.LivesWake.{first_wakes, later_wake}
use Rattle.pp_turn_law.proofs.living.lives_wake.Goals as goal

pub returns : goal.returns
returns c = record { first = first_wakes; later = later_wake }
