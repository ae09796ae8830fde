use Rattle.pp_reads_law.proofs.RowsIn.{brought, come_in}
use Rattle.pp_reads_law.proofs.rows.rows_are_brought_as_the_laws.Goals as goal

pub returns : goal.returns
returns c = record { rows = come_in; brought = brought }
