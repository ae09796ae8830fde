use Rattle.pp_rounds_law.proofs.Following.{following}
use Rattle.pp_rounds_law.proofs.going.followers_of_a_round_are_the_laws.Goals as goal

pub returns : goal.returns
returns c = record { following = following }
