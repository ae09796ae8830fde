use Rattle.pp_reads_law.proofs.Awaited.{head_steps}
use Rattle.pp_reads_law.proofs.Early.{early_steps}
use Rattle.pp_reads_law.proofs.Nothing.{empty_steps}
use Rattle.pp_reads_law.proofs.awaits.heads_are_awaited_as_the_laws.Goals as goal

pub returns : goal.returns
returns c = record { steps = head_steps; early = early_steps; none = empty_steps }
