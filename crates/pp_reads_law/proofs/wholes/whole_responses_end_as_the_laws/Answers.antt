use Rattle.pp_reads_law.proofs.WholeOnes.{wholes}
use Rattle.pp_reads_law.proofs.wholes.whole_responses_end_as_the_laws.Goals as goal

pub returns : goal.returns
returns c = record { wholes = wholes }
