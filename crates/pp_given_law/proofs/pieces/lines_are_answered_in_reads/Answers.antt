use Rattle.pp_given_law.proofs.LinesAnswered.{lines_in_reads}
use Rattle.pp_given_law.proofs.pieces.lines_are_answered_in_reads.Goals as goal

pub returns : goal.returns
returns c = lines_in_reads
