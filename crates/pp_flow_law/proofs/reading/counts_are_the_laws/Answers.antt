use Rattle.pp_flow_law.proofs.Told.{counts, entries}
use Rattle.pp_flow_law.proofs.reading.counts_are_the_laws.Goals as goal

pub returns : goal.returns
returns c = record { counts = counts; entries = entries }
