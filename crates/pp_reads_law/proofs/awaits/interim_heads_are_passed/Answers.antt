use Rattle.pp_reads_law.proofs.Passing.{interims}
use Rattle.pp_reads_law.proofs.awaits.interim_heads_are_passed.Goals as goal

pub returns : goal.returns
returns c = record { passed = interims }
