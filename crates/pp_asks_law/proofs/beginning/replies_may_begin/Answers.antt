use Rattle.pp_asks_law.proofs.Begins.{replies_may}
use Rattle.pp_asks_law.proofs.beginning.replies_may_begin.Goals as goal

pub returns : goal.returns
returns c = record { begins = replies_may }
