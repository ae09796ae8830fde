use Rattle.pp_comes_law.proofs.BareHeads.{heads_bare}
use Rattle.pp_comes_law.proofs.moments.heads_leave_pipes_bare.Goals as goal

pub returns : goal.returns
returns c = heads_bare
