use Rattle.pp_asks_law.proofs.GoWithout.{dials_may}
use Rattle.pp_asks_law.proofs.dialling.dials_may_be_gone_without.Goals as goal

pub returns : goal.returns
returns c = record { dials = dials_may }
