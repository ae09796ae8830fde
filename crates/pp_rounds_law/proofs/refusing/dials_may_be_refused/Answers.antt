use Rattle.pp_rounds_law.proofs.Dials.{all_refused, one_refused}
use Rattle.pp_rounds_law.proofs.refusing.dials_may_be_refused.Goals as goal

pub returns : goal.returns
returns c = record { dials = one_refused; all = all_refused }
