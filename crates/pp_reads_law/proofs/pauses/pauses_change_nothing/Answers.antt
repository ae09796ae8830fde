use Rattle.pp_reads_law.proofs.Still.{pauses}
use Rattle.pp_reads_law.proofs.pauses.pauses_change_nothing.Goals as goal

pub returns : goal.returns
returns c = record { pauses = pauses }
