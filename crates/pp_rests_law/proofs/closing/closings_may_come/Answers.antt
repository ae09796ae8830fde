use Rattle.pp_rests_law.proofs.MayClose.{closings_may}
use Rattle.pp_rests_law.proofs.closing.closings_may_come.Goals as goal

pub returns : goal.returns
returns c = record { may = closings_may }
