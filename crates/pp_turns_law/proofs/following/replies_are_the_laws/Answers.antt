use Rattle.pp_turns_law.proofs.Followed.{replies}
use Rattle.pp_turns_law.proofs.following.replies_are_the_laws.Goals as goal

pub returns : goal.returns
returns c = record { follows = replies }
