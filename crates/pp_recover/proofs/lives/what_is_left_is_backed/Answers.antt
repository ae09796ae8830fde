use Rattle.pp_recover.proofs.BackedLemmas.{files-are-backed}
use Rattle.pp_recover.proofs.lives.what_is_left_is_backed.Goals as goal

pub returns : goal.returns
returns c = files-are-backed
