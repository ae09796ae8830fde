use Rattle.pp_comes_law.proofs.ReadMoments.{reads_rest}
use Rattle.pp_comes_law.proofs.moments.reads_rest_on_what_is_there.Goals as goal

pub returns : goal.returns
returns c = reads_rest
