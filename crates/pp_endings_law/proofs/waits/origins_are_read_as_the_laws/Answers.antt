use Rattle.pp_endings_law.proofs.Read.{origins_read, reads_right}
use Rattle.pp_endings_law.proofs.waits.origins_are_read_as_the_laws.Goals as goal

pub returns : goal.returns
returns c = record { reads = origins_read; right = reads_right }
