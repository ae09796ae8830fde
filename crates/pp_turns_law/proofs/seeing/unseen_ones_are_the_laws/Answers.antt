use Rattle.pp_turns_law.proofs.Unseen.{unseen}
use Rattle.pp_turns_law.proofs.seeing.unseen_ones_are_the_laws.Goals as goal

pub returns : goal.returns
returns c = record { unseen = unseen }
