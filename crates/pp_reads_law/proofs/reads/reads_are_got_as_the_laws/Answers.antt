use Rattle.pp_reads_law.proofs.ReadWhole.{reads_got}
use Rattle.pp_reads_law.proofs.reads.reads_are_got_as_the_laws.Goals as goal

pub returns : goal.returns
returns c = record { reads = reads_got c.heads_come_as_the_laws.ensures.heads }
