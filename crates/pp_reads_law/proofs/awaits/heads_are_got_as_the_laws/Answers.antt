use Rattle.pp_reads_law.proofs.Gotten.{heads_got}
use Rattle.pp_reads_law.proofs.awaits.heads_are_got_as_the_laws.Goals as goal

pub returns : goal.returns
returns c = record { heads = heads_got }
