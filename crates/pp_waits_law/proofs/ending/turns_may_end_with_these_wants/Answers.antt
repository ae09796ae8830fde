use Rattle.pp_waits_law.proofs.Good.{as_good, permitted, wanted_waits}
use Rattle.pp_waits_law.proofs.ending.turns_may_end_with_these_wants.Goals as goal

pub returns : goal.returns
returns c = record { good = as_good; permitted = permitted; leads = wanted_waits }
