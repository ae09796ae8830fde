use Rattle.pp_turns_law.proofs.Wanted.{accepting, no_more_read, no_more_written, reads, writes}
use Rattle.pp_turns_law.proofs.wants.wants_are_the_laws.Goals as goal

pub returns : goal.returns
returns c = record { accepts = accepting; reads = reads; writes = writes; no_more_read = no_more_read; no_more_written = no_more_written }
