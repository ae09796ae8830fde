use Rattle.pp_laws_left.proofs.Filled.{followed_are_within}
use Rattle.pp_laws_left.proofs.ReadySteps.{ends_are_filled, followers_are_ready}
use Rattle.pp_laws_left.proofs.left.ends_are_filled.Goals as goal

pub returns : goal.returns
returns c = record { within = followed_are_within; late = followers_are_ready; ends = ends_are_filled }
