use Rattle.pp_deciding_law.proofs.Found.{none_next}
use Rattle.pp_deciding_law.proofs.finding.nothing_is_due_as_by_the_law.Goals as goal

pub returns : goal.returns
returns c = record { none = none_next }
