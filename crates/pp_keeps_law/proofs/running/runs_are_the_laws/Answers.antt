use Rattle.pp_keeps_law.proofs.FullRuns.{full_runs, laid_ones}
use Rattle.pp_keeps_law.proofs.running.runs_are_the_laws.Goals as goal

pub returns : goal.returns
returns c = record { full = full_runs; laid = laid_ones }
