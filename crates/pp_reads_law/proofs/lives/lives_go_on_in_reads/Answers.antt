use Rattle.pp_reads_law.proofs.GivenReads.{moments_on, reads_on}
use Rattle.pp_reads_law.proofs.lives.lives_go_on_in_reads.Goals as goal

pub returns : goal.returns
returns c = record { reads = reads_on; moments = moments_on }
