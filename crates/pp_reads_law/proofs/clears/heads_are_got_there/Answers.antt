use Rattle.pp_reads_law.proofs.Cleared.{heads_got_there}
use Rattle.pp_reads_law.proofs.clears.heads_are_got_there.Goals as goal

pub returns : goal.returns
returns c = record { heads = heads_got_there }
